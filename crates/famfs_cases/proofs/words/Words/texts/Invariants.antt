use Rattle.std.proofs.Common.{length}
use Rattle.famfs_cases.proofs.words.Words.texts.Given as goal

-- fewer bytes of the line are left
abbrev pub decreases-loop-word : goal.decreases-loop-word
decreases-loop-word l = length l.self.left.now
