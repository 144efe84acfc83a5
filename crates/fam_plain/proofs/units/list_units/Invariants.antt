use Rattle.std.proofs.Common.{◌≡◌, take}
use Rattle.fam_format.specs.Units.{list_units}
use Rattle.fam_plain.proofs.units.list_units.Given as goal

abbrev pub invariant-loop-entry : goal.invariant-loop-entry
invariant-loop-entry l = l.units.items ≡ list_units l.unit (take l.entry-index l.entries)
