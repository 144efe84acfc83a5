use Rattle.std.proofs.Common.{◌≡◌, true, take}
use Rattle.std.specs.List.{list_all}
use Rattle.fam_format.specs.Slot.{is_placed}
use Rattle.fam_entry.proofs.map_rule.are_placed.Given as goal

abbrev pub invariant-loop-i : goal.invariant-loop-i
invariant-loop-i l = list_all (is_placed l.params) (take l.i l.extents) ≡ true
