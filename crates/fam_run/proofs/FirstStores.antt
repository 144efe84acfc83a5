-- A task whose first store comes next has nothing to do on copies alone.
use Rattle.std.proofs.Common.{ℕ, ◌≡◌, ◌⊎◌, ◌==◌, Bool, true, false, cond, List, inl, inr}
use Rattle.fam_base.specs.declared.line.LineNo.{LineNo}
use Rattle.fam_commands.specs.declared.phase.Part.{Part}
use Rattle.fam_commands.specs.declared.phase.Phase.{Phase}
use Rattle.fam_commands.specs.declared.phase.Phase.TheVariants as at
use Rattle.fam_commands.specs.FirstStore.{IsFirstStore}
use Rattle.fam_commands.specs.Task.{Task}
use Rattle.fam_tasks.specs.Rest.{IsRest, IsStoreRest}

-- it is the store of word 0 of line 0, of the slot or of the file
first_at : (p : Phase) (b : Bool) → p ≡ cond b (at.StoreSlot 0 0) (at.StoreData 0 0) → (p ≡ at.StoreSlot 0 0) ⊎ (p ≡ at.StoreData 0 0)
first_at p true is = inl is
first_at p false is = inr is

pub first_phase : (t : Task) → IsFirstStore t → (t.phase ≡ at.StoreSlot 0 0) ⊎ (t.phase ≡ at.StoreData 0 0)
first_phase t first = first_at t.phase (first.new.size == 0) first.phase

module _ (t : Task) (first : IsFirstStore t) where
  no_word : (part : Part) (j k : ℕ) → t.phase ≡ at.Word part j k → ⊥
  no_word part j k is = elim (first_phase t first) [ inl slot ↦ absurd cc | inr data_ ↦ absurd cc ]

  no_data : (j : ℕ) → t.phase ≡ at.StoreData j 1 → ⊥
  no_data j is = elim (first_phase t first) [ inl slot ↦ absurd cc | inr data_ ↦ absurd cc ]

  no_slot : (j : ℕ) → t.phase ≡ at.StoreSlot j 1 → ⊥
  no_slot j is = elim (first_phase t first) [ inl slot ↦ absurd cc | inr data_ ↦ absurd cc ]

  pub no_rest : (line : LineNo) → IsRest line t → ⊥
  no_rest line rest = no_word rest.part rest.j 1 rest.phase

  pub no_store : (line : LineNo) (words : List ℕ) → IsStoreRest line words t → ⊥
  no_store line words (inl file) = no_data file.j file.phase
  no_store line words (inr slot) = no_slot slot.j slot.phase
