use Rattle.std.proofs.Common.{◌-◌, ◌/◌, ◌+◌, ◌*◌, ◌≤◌}
use Rattle.fam_cache.specs.Blocks.{NoneAsked, lines_of}
use Rattle.fam_cache.proofs.blocks.next_asked.Given as goal

abbrev pub invariant-loop-next : goal.invariant-loop-next
invariant-loop-next l = record {
  from_there : l.first / 16 ≤ l.number;
  none : NoneAsked l.first (16 * l.number) (lines_of l.cache);
}

abbrev pub decreases-loop-next : goal.decreases-loop-next
decreases-loop-next l = l.last / 16 + 1 - l.number
