use Rattle.std.proofs.Common.{◌≡◌, length}
use Rattle.fam_tests.proofs.tests.large.units_that_are_used_are_skipped.Given as goal

abbrev pub invariant-loop-i : goal.invariant-loop-i
invariant-loop-i g l = length l.map ≡ 268435456
