use Rattle.std.proofs.Common.{◌≡◌, drop}
use Rattle.fam_format.specs.Units.{first_overlap}
use Rattle.fam_plain.specs.Joining.{is_seen}
use Rattle.fam_plain.proofs.units.first_overlap.Given as goal

abbrev pub invariant-loop-unit : goal.invariant-loop-unit
invariant-loop-unit l = first_overlap (is_seen l.head l.seen.items) (drop l.unit-index l.units) ≡ first_overlap (is_seen l.head l.initial.seen.items) l.units
