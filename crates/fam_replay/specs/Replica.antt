-- What is kept of the slots that were read: their words, and the entries that these told.
use Rattle.std.specs.Prelude.{ℕ, ◌≡◌, ◌+◌, ◌-◌, ◌<◌, ◌≤◌, ◌⊎◌, List, [], ◌∷◌, ◌++◌, length, slice_get, take, None, Some, Ok, refl}
use Rattle.std.specs.Coded.{Coded, code_by, coded×, coded_list, coded_ℕ}
use Rattle.fam_base.specs.contracts.entry.Entry as entry_type
use Rattle.fam_base.specs.contracts.entry.Params as params_type
use Rattle.fam_base.specs.declared.entry.Entry.{Entry}
use Rattle.fam_base.specs.declared.entry.Params.{Params}
use Rattle.fam_format.specs.Slot.{entry_of}
use Rattle.fam_format.specs.Tree.{join_fault}
use Rattle.fam_plan.specs.State.{PlanState}

-- what a contract sees: the parameters of the file system, all entries that are kept, and how many of them the reading
-- has found that is under way
pub record ReplicaState : Type 0 where
  pub params : Params
  pub entries : List Entry
  pub found : ℕ

-- it has a code, so that it can be what contracts see
abbrev pub replica_code : Coded ReplicaState
replica_code = code_by (Params × (List Entry × ℕ)) (coded× params_type.the_row.coded (coded× (coded_list entry_type.the_row.coded) coded_ℕ)) (λ s. (s.params, (s.entries, s.found))) (λ p. record { params = p.0; entries = p.1.0; found = p.1.1 }) (λ _. refl)

-- the entries that the reading has found: the first ones
abbrev pub found_in : ReplicaState → List Entry
found_in s = take s.found s.entries

-- the entries of a plan, all of which were found
abbrev pub all_of : PlanState → ReplicaState
all_of s = record { params = s.params; entries = s.entries; found = length s.entries }

-- all entries that are kept were found
abbrev pub AreAllFound : ReplicaState → Type 0
AreAllFound s = length s.entries ≤ s.found

-- the words of slots `first`, `first` + 1, .. tell the entries at these places
pub record AreRead (p : Params) (first : ℕ) (slots : List (List ℕ)) (entries : List Entry) : Type 0 where
  pub few : (i : ℕ) → i < length slots → first + i < length entries
  pub read : (i : ℕ) (words : List ℕ) (e : Entry) → slice_get slots i ≡ Some words → slice_get entries (first + i) ≡ Some e
      → entry_of p words (first + i) ≡ Ok e

-- a plan, the words of its slots from the first one on whose words are kept, and how many of its entries were found
pub record IsReplica (s : PlanState) (first : ℕ) (slots : List (List ℕ)) (found : ℕ) : Type 0 where
  pub read : AreRead s.params first slots s.entries
  pub within : found ≤ length s.entries

-- these words are kept of a slot
pub record AreKeptAt (first : ℕ) (slots : List (List ℕ)) (slot : ℕ) (words : List ℕ) : Type 0 where
  pub behind : first ≤ slot
  pub here : slice_get slots (slot - first) ≡ Some words

-- the words of a slot are kept too, behind those of all slots between the first one and this, or nothing more
abbrev pub KeepsWords : ℕ → ℕ → List ℕ → List (List ℕ) → List (List ℕ) → Type 0
KeepsWords first slot words old new = (new ≡ old) ⊎ ((first + length old ≡ slot) × (new ≡ old ++ words ∷ []))

-- the words of the slot behind some entries tell one that joins these
pub record JoinsNext (p : Params) (words : List ℕ) (list : List Entry) : Type 0 where
  pub entry : Entry
  pub read : entry_of p words (length list) ≡ Ok entry
  pub joins : join_fault p list entry ≡ None

-- the same, and it is the one entry more of the new list
pub record FindsNext (p : Params) (words : List ℕ) (old new : List Entry) : Type 0 where
  pub entry : Entry
  pub read : entry_of p words (length old) ≡ Ok entry
  pub joins : join_fault p old entry ≡ None
  pub added : new ≡ old ++ entry ∷ []
