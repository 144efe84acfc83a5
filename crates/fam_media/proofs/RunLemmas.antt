-- Calls one behind another.
use Rattle.std.proofs.Common.{ℕ, ◌+◌, Bool, false}
use native.Mathlib.Numerals.{unary_clauses}
use Rattle.fam_media.specs.Runs.{AreDone}

-- one call more is done
pub one_more_done : {M : Type 0} (call : M → ℕ → Bool → M → Type 0) (k : ℕ) (old before new : M) → AreDone call k old before → call before k false new
    → AreDone call (k + 1) old new
one_more_done call k old before new done this = simp unary_clauses (before, done, this)
