-- What a contract sees of a settled log, and the state of a journal that it stands for.
use Rattle.std.specs.Prelude.{◌≡◌, ⊤, List, [], ◌∷◌, length, Option, Some, None}
use Rattle.fam_base.specs.declared.entry.Entry.{Entry}
use Rattle.fam_base.specs.declared.entry.Params.{Params}
use Rattle.fam_rules.specs.Asks.{File}
use Rattle.fam_journal.specs.Past.{State, Bad, Sound, with_pending}
use Rattle.fam_plan.specs.State.{PlanState, IsHistory, MayBeAdded}
use Rattle.fam_settled.specs.declared.bytes.Bytes.{Bytes}
use Rattle.fam_settled.specs.declared.bytes.Bytes.TheVariants.{Zero}
use Rattle.fam_settled.specs.declared.bytes.Filed.{Filed}
use Rattle.fam_settled.specs.Bytes.{file_with}

-- parameters, the entries that are settled, where the bytes of each are from, and one more entry of which nothing has said yet
-- whether it is
pub record SettledLog : Type 0 where
  pub params : Params
  pub entries : List Entry
  pub bytes : List Bytes
  pub pending : Option Filed

-- entries with their bytes, zeros where it isn't said whence
abbrev pub files_of : List Entry → List Bytes → List File
files_of [] bytes = []
files_of (e ∷ entries) [] = file_with e Zero ∷ files_of entries []
files_of (e ∷ entries) (b ∷ bytes) = file_with e b ∷ files_of entries bytes

-- one entry with its bytes, where there is one
abbrev pub filed : Option Filed → Option File
filed None = None
filed (Some f) = Some (file_with f.entry f.bytes)

-- the history
abbrev pub settled_files : SettledLog → List File
settled_files s = files_of s.entries s.bytes

-- the history, and the pending entry behind it
abbrev pub settled_and_pending : SettledLog → List File
settled_and_pending s = with_pending (settled_files s) (filed s.pending)

-- the state of a journal
abbrev pub settled_log_state : SettledLog → State
settled_log_state s = Sound s.params (settled_files s) (filed s.pending)

-- the entries alone, as a plan has them
abbrev pub plan_of : SettledLog → PlanState
plan_of s = record { params = s.params; entries = s.entries }

-- the pending entry may be added
abbrev pub MayPend : PlanState → Option Filed → Type 0
MayPend s None = ⊤
MayPend s (Some f) = MayBeAdded s f.entry

-- each entry joins those before it, and has its bytes; and the pending one may be added
pub record IsSettledLog (s : SettledLog) : Type 0 where
  pub history : IsHistory (plan_of s)
  pub counted : length s.bytes ≡ length s.entries
  pub pending : MayPend (plan_of s) s.pending

-- the pending entry joins the history
abbrev pub joined : State → State
joined (Sound p history pending) = Sound p (with_pending history pending) None
joined (Bad origin damage gate) = Bad origin damage gate
