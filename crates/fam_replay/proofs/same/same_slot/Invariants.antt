use Rattle.std.proofs.Common.{◌≡◌, ◌<◌, ℕ, get_or}
use Rattle.fam_replay.proofs.same.same_slot.Given as goal

abbrev pub invariant-loop-k : goal.invariant-loop-k
invariant-loop-k l = record { same : l.differences ≡ 0 → (j : ℕ) → j < l.k → get_or l.left j 0 ≡ get_or l.right j 0 }
