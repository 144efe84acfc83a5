use Rattle.std.proofs.Common.{length}
use Rattle.famfs_cases.proofs.values.Values.put_into.Given as goal

-- what is left of the text becomes shorter
abbrev pub decreases-loop-at : goal.decreases-loop-at
decreases-loop-at l = length l.rest
