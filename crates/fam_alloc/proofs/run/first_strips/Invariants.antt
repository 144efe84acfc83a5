use Rattle.std.proofs.Common.{◌≡◌, ◌/◌, ◌<◌, length}
use Rattle.fam_rules.specs.Room.{offers_of, given}
use Rattle.fam_alloc.specs.Runs.{outside}
use Rattle.fam_alloc.proofs.run.first_strips.Given as goal

abbrev pub invariant-loop-turn : goal.invariant-loop-turn
invariant-loop-turn l = record {
  given : l.starts ≡ given (offers_of (outside l.runs.entries) (l.units / l.nbuckets) l.count l.nbuckets l.seq l.turn);
  fewer : length l.starts < l.nstrips;
}
