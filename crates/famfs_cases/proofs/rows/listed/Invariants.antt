use Rattle.std.proofs.Common.{length}
use Rattle.famfs_cases.proofs.rows.listed.Given as goal

-- fewer bytes of the line are left
abbrev pub decreases-loop-word : goal.decreases-loop-word
decreases-loop-word l = length l.words.left.now
