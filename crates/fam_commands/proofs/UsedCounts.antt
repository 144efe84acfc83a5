-- How many kept entries a command uses.
use Rattle.std.proofs.Common.{ℕ, ◌≡◌, ◌≤◌, Bool, true, false, List, [], length, Option, Some, None, ◌⊎◌, inl, inr, refl, ap, arith}
use Rattle.std.specs.Prelude.{◌&&◌, nat_le, if◌then◌else◌}
use Rattle.std.proofs.lemmas.Bool.{leb-true}
use Rattle.fam_base.specs.declared.cmd.Cmd.{Cmd}
use Rattle.fam_base.specs.declared.cmd.Cmd.TheVariants.{Fsck}
use Rattle.fam_base.specs.declared.entry.Params.{Params}
use Rattle.fam_base.specs.declared.entry.Entry.{Entry}
use Rattle.fam_commands.specs.Kept.{Kept, is_same_params, used, used_by, class_used}

-- a check of the whole file system uses none
pub used_fsck : (kept : Option Kept) (p : Params) (gate : ℕ) → used kept Fsck p gate ≡ []
unfolding class_used
used_fsck kept p gate = refl

pub used_fsck_count : (kept : Option Kept) (p : Params) (gate : ℕ) → length (used kept Fsck p gate) ≡ 0
used_fsck_count kept p gate = ap (λ (list : List Entry). length list) (used_fsck kept p gate)

pub used_none : (cmd : Cmd) (p : Params) (gate : ℕ) → used None cmd p gate ≡ []
unfolding class_used used_by
used_none Fsck p gate = refl
used_none cmd p gate = refl

cases_by : (list : List Entry) (b : Bool) → ((if b then list else []) ≡ []) ⊎ ((if b then list else []) ≡ list)
cases_by list true = inr refl
cases_by list false = inl refl

used_by_cases : (kept : Option Kept) (p : Params) (gate : ℕ) → (used_by kept p gate ≡ []) ⊎ ((k : Kept) × (kept ≡ Some k) × (used_by kept p gate ≡ k.entries))
unfolding used_by
used_by_cases None p gate = inl refl
used_by_cases (Some k) p gate =
    elim (cases_by k.entries (is_same_params k.params p && nat_le (length k.entries) gate)) [
      | inl none ↦ inl none
      | inr all ↦ inr (k, refl, all)
    ]

-- none is used, or all that are kept
pub used_cases : (kept : Option Kept) (cmd : Cmd) (p : Params) (gate : ℕ) → (used kept cmd p gate ≡ []) ⊎ ((k : Kept) × (kept ≡ Some k) × (used kept cmd p gate ≡ k.entries))
unfolding class_used
used_cases kept Fsck p gate = inl refl
used_cases kept cmd p gate = used_by_cases kept p gate

by_test : (list : List Entry) (same : Bool) (gate : ℕ) (b : Bool) → nat_le (length list) gate ≡ b → length (if same && b then list else []) ≤ gate
by_test list true gate true is = leb-true (length list) gate is
by_test list true gate false is = omega arith
by_test list false gate b is = omega arith

used_by_below : (kept : Option Kept) (p : Params) (gate : ℕ) → length (used_by kept p gate) ≤ gate
unfolding used_by
used_by_below None p gate = omega arith
used_by_below (Some k) p gate = by_test k.entries (is_same_params k.params p) gate (nat_le (length k.entries) gate) refl

-- no more than the gate counts
pub used_below : (kept : Option Kept) (cmd : Cmd) (p : Params) (gate : ℕ) → length (used kept cmd p gate) ≤ gate
unfolding class_used
used_below kept Fsck p gate = omega arith
used_below kept cmd p gate = used_by_below kept p gate
