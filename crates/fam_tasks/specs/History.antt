-- The entries that a task has: those that its host keeps, where they serve, and those of the slots that it read.
use Rattle.std.specs.Prelude.{⊤, ◌≡◌, ◌<◌, Bool, true, false, if◌then◌else◌, List, [], length, take, Option, Some, None, refl}
use Rattle.std.specs.Coded.{Coded, code_by, coded×, coded_list}
use Rattle.fam_base.specs.declared.entry.Entry.{Entry}
use Rattle.fam_base.specs.declared.entry.Params.{Params}
use Rattle.fam_base.specs.contracts.entry.Entry as entry_type
use Rattle.fam_base.specs.contracts.entry.Params as params_type
use Rattle.fam_commands.specs.Kept.{Kept}
use Rattle.fam_format.specs.Tree.{Tree, replay}
use Rattle.fam_plan.specs.State.{PlanState}
use Rattle.fam_replay.specs.Replay.{entries_in}
use Rattle.fam_replay.specs.Replica.{ReplicaState, found_in}

-- what a host keeps has a code, so that it can be what contracts see
abbrev pub kept_code : Coded Kept
kept_code = code_by (Params × List Entry) (coded× params_type.the_row.coded (coded_list entry_type.the_row.coded)) (λ k. (k.params, k.entries)) (λ p. record { params = p.0; entries = p.1 }) (λ _. refl)

-- the entries of a plan, where there is one
abbrev pub planned : Option PlanState → List Entry
planned None = []
planned (Some s) = s.entries

-- a plan for these parameters, where there is one
abbrev pub IsPlanOf : Params → Option PlanState → Type 0
IsPlanOf p None = ⊤
IsPlanOf p (Some s) = s.params ≡ p

-- what the host keeps, and what was read behind it: a replica from the first slot on; and a tree for an answer
pub record HistoryState : Type 0 where
  pub kept : Option Kept
  pub replay : Option ReplicaState
  pub tree : Option Tree

-- the tree of what was read is at hand where the host keeps nothing; that of no entries is at hand anyhow
abbrev pub IsAtHand : HistoryState → Type 0
IsAtHand h = h.kept ≡ None → 0 < length (entries_in h.replay) → h.tree ≡ Some (replay (entries_in h.replay))

-- the kept entries, as if their slots had been read
abbrev pub all_kept : Kept → ReplicaState
all_kept k = record { params = k.params; entries = k.entries; found = length k.entries }

-- where kept entries serve, there are some
abbrev pub MayServe : Bool → Option Kept → Type 0
MayServe false kept = ⊤
MayServe true None = ⊥
MayServe true (Some k) = 0 < length k.entries

-- what was read stands behind the entries that a host keeps: these are the first of it
pub record IsBehind (k : Kept) (s : ReplicaState) : Type 0 where
  pub params : s.params ≡ k.params
  pub some : 0 < length k.entries
  pub first : take (length k.entries) (found_in s) ≡ k.entries

-- so it is where a task reads on behind them
abbrev pub MayFollow : Bool → Option Kept → Option ReplicaState → Type 0
MayFollow false kept read = ⊤
MayFollow true None read = ⊥
MayFollow true (Some k) None = ⊥
MayFollow true (Some k) (Some s) = IsBehind k s

-- what an earlier task read begins with the entries that the host keeps
pub record BeginsWith (k : Kept) (s : ReplicaState) : Type 0 where
  pub params : s.params ≡ k.params
  pub first : take (length k.entries) s.entries ≡ k.entries

-- so it is where an earlier task read anything
abbrev pub MayResume : Kept → Option ReplicaState → Type 0
MayResume k None = ⊤
MayResume k (Some s) = BeginsWith k s

-- a host keeps this of what was read
abbrev pub kept_of : Params → Option ReplicaState → Kept
kept_of p replay = record { params = p; entries = entries_in replay }

-- what was read so far: where the kept entries serve, these and no others
abbrev pub read_by : Bool → Option Kept → Option ReplicaState → Option ReplicaState
read_by serves None replay = replay
read_by serves (Some k) replay = if serves then Some (all_kept k) else replay
