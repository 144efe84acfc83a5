use Rattle.std.proofs.Common.{length}
use Rattle.famfs_cases.proofs.words.Words.bytes.Given as goal

-- what is left of the word becomes shorter
abbrev pub decreases-loop-bytes : goal.decreases-loop-bytes
decreases-loop-bytes l = length l.rest
