use Rattle.std.proofs.Common.{◌≡◌, ◌-◌, ◌≤◌}
use Rattle.fam_alloc.specs.Next.{is_bit_set}
use Rattle.fam_alloc.proofs.MapLemmas.{passing}
use Rattle.fam_alloc.proofs.used_units.count_used.Given as goal

abbrev pub invariant-loop-unit : goal.invariant-loop-unit
invariant-loop-unit l = record { within : l.unit ≤ l.units; counted : l.count ≡ passing (is_bit_set l.words.items) l.unit; few : l.count ≤ l.unit }

abbrev pub decreases-loop-unit : goal.decreases-loop-unit
decreases-loop-unit l = l.units - l.unit
