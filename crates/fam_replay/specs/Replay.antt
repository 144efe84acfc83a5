-- What the slots that were read have told: entries, each of which joins those before it.
use Rattle.std.specs.Prelude.{ℕ, ⊤, ◌≡◌, ◌<◌, ◌≤◌, List, [], ◌∷◌, ◌++◌, length, take, Option, Some, None, Ok, Err}
use Rattle.fam_base.specs.declared.entry.Entry.{Entry}
use Rattle.fam_base.specs.declared.entry.Params.{Params}
use Rattle.fam_format.specs.declared.faults.Reason.{Reason}
use Rattle.fam_format.specs.Slot.{Proper, entry_of}
use Rattle.fam_format.specs.Tree.{join_fault}
use Rattle.fam_replay.specs.Replica.{FindsNext, AreAllFound, ReplicaState}

-- the entries that were found, none before the first slot
abbrev pub entries_in : Option ReplicaState → List Entry
entries_in None = []
entries_in (Some s) = take s.found s.entries

-- a reading of the file system with these parameters, up to this gate: no more entries are kept than it counts
abbrev pub IsReplayOf : Params → ℕ → Option ReplicaState → Type 0
IsReplayOf p gate None = ⊤
IsReplayOf p gate (Some s) = (s.params ≡ p) × (length s.entries ≤ gate)

-- nothing is kept that wasn't found
abbrev pub HasFoundAll : Option ReplicaState → Type 0
HasFoundAll None = ⊤
HasFoundAll (Some s) = AreAllFound s

-- a slot is left for an entry behind these, and it is one that the log may hold
pub record IsRoomFor (p : Params) (list : List Entry) (e : Entry) : Type 0 where
  pub left : length list < p.slots
  pub proper : Proper p e

-- the entry joins the list, or it doesn't for this reason
abbrev pub Joins : Option Reason → Params → List Entry → Entry → List Entry → Type 0
Joins None p old e new = (join_fault p old e ≡ None) × (new ≡ old ++ e ∷ [])
Joins (Some reason) p old e new = (join_fault p old e ≡ Some reason) × (new ≡ old)

-- why the words of the slot behind some entries add none to them: they tell no entry, or one that doesn't join
pub data IsAgainst (p : Params) (words : List ℕ) (list : List Entry) (reason : Reason) : Type 0 where
  Unread : entry_of p words (length list) ≡ Err reason → IsAgainst p words list reason
  Refused : (e : Entry) → entry_of p words (length list) ≡ Ok e → join_fault p list e ≡ Some reason
      → IsAgainst p words list reason

-- the words of the slot behind the old entries add one to them, or they don't for this reason
abbrev pub ReadsNext : Option Reason → Params → List ℕ → List Entry → List Entry → Type 0
ReadsNext None p words old new = FindsNext p words old new
ReadsNext (Some reason) p words old new = IsAgainst p words old reason × (new ≡ old)
