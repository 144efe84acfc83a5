use Rattle.std.proofs.Common.{◌≡◌, ◌++◌, take}
use Rattle.fam_tree.specs.Lines.{extents_text}
use Rattle.fam_tree.proofs.lines.put_extents.Given as goal

abbrev pub invariant-loop-i : goal.invariant-loop-i
invariant-loop-i l = l.into.items ≡ l.initial.into.items ++ extents_text (take l.i l.extents)
