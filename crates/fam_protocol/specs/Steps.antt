-- One step of a run: a cache moves by itself, or a host's task does its operation and takes its turn.
-- docs/MODEL.md, "The protocol".
use Rattle.std.specs.Prelude.{ℕ, ◌≡◌, ◌≢◌, ◌*◌, List, Option, Some, None}
use Rattle.fam_base.specs.declared.entry.Params.{Params}
use Rattle.fam_commands.specs.Stands.{turn_given}
use Rattle.fam_commands.specs.Keeping.{kept_after}
use Rattle.fam_commands.specs.Task.{op_of}
use Rattle.fam_commands.specs.Turns.{Turn, Goes, Marks, Finds, Writes, Ends}
use Rattle.fam_rules.specs.Asks.{File}
use Rattle.fam_rules.specs.Place.{line_bytes}
use Rattle.fam_protocol.specs.SharedState.{SharedState, Operates}
use Rattle.fam_protocol.specs.After.{Run, MaySay, list_after, settled_after}
use Rattle.fam_protocol.specs.Bad.{MaySayBad}
use Rattle.fam_protocol.specs.Invariant.{Hosts, Settled, Small, Damaged, Known, Invariant}

-- the history's length, where there is a history
abbrev pub settled_count : Settled → ℕ
settled_count (Small image) = 0
settled_count (Damaged image) = 0
settled_count (Known p all settled) = settled

-- the task that goes on, with what was settled at its mark and what it named
abbrev pub run_after : Turn → ℕ → Run → Option Run
run_after (Goes t) settled r = Some (record r { task = t })
run_after (Marks t) settled r = Some (record r { task = t; floor = Some settled })
run_after (Finds n t) settled r = Some (record r { task = t })
run_after (Writes seq e t) settled r = Some (record r { task = t; named = Some (record { seq = seq; entry = e }) })
run_after (Ends reply) settled r = None

-- what is settled after a turn
abbrev pub turn_settles : Turn → Settled → Settled
turn_settles turn (Small image) = Small image
turn_settles turn (Damaged image) = Damaged image
turn_settles turn (Known p all settled) = Known p (list_after turn all) (settled_after turn settled)

-- a turn says what the history allows, in a file system of which some declared host or none is the master
pub record MaySayOf (turn : Turn) (r : Run) (p : Params) (all : List File) (settled lines : ℕ) (hosts : Hosts) : Type 0 where
  pub master : Option ℕ
  pub may : MaySay turn (record { params = p; have = line_bytes * lines; uuid = hosts.uuid; master = master }) r all settled

-- what a turn may say
abbrev pub TurnSays : Turn → Run → Settled → ℕ → Hosts → Type 0
TurnSays turn r (Small image) lines hosts = ⊥
TurnSays turn r (Damaged image) lines hosts = MaySayBad turn image (line_bytes * lines) r.task
TurnSays turn r (Known p all settled) lines hosts = MaySayOf turn r p all settled lines hosts

-- a host's task does its operation, which gave this word if it is a load, and takes its turn
pub record Steps (host word : ℕ) (settled : Settled) (r : Run) (old new : Hosts) (s s' : SharedState) : Type 0 where
  pub is : old.run host ≡ Some r
  pub operates : Operates (op_of r.task) host s s' word
  pub uuids : (h : ℕ) → new.uuid h ≡ old.uuid h
  pub mine : new.run host ≡ run_after (turn_given r.task word) (settled_count settled) r
  pub runs : (h : ℕ) → h ≢ host → new.run h ≡ old.run h
  pub keeps : new.kept host ≡ kept_after (turn_given r.task word) r.task (old.kept host)
  pub kept : (h : ℕ) → h ≢ host → new.kept h ≡ old.kept h

-- it says what it may, and everything holds again
pub record StepHolds (settled : Settled) (lines word : ℕ) (r : Run) (old new : Hosts) (s' : SharedState) : Type 0 where
  pub says : TurnSays (turn_given r.task word) r settled lines old
  pub invariant : Invariant (turn_settles (turn_given r.task word) settled) lines new s'
