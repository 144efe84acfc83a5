use Rattle.std.proofs.Common.{◌≡◌, ◌<◌, ℕ, get_or}
use Rattle.fam_content.proofs.difference.are_same.Given as goal

abbrev pub invariant-loop-k : goal.invariant-loop-k
invariant-loop-k l = record { same : l.differences ≡ 0 → (j : ℕ) → j < l.k → get_or l.found j 0 ≡ get_or l.wanted j 0 }
