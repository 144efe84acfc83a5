use Rattle.std.specs.Prelude.{⊤}
use Rattle.fam_judging.proofs.below.has_below.Given as goal

abbrev pub invariant-others : goal.invariant-others
invariant-others l = ⊤
