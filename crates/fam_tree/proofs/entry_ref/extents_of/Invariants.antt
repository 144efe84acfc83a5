use Rattle.std.proofs.Common.{◌≡◌, take}
use Rattle.fam_tree.proofs.entry_ref.extents_of.Given as goal

abbrev pub invariant-loop-item : goal.invariant-loop-item
invariant-loop-item l = l.extents ≡ take l.item-index l.items
