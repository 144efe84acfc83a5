use Rattle.std.proofs.Common.{◌-◌, length, option_map}
use Rattle.fam_base.specs.ExtentLists.{extent_limit}
use Rattle.fam_history.proofs.ExtentSpellings.{ReadSoFar}
use Rattle.fam_history.proofs.entries.extents_of.Given as goal

abbrev pub invariant-loop-left : goal.invariant-loop-left
invariant-loop-left l = ReadSoFar l.word l.extents (option_map (λ text. text.now) l.left)

abbrev pub decreases-loop-left : goal.decreases-loop-left
decreases-loop-left l = extent_limit - length l.extents
