-- Which possible state allows no less than what a journal comes to: the one is settled no further, of each command it has told no more,
-- and its floors are no higher.
use Rattle.std.specs.Prelude.{ℕ, ⊤, ◌≡◌, ◌⊎◌, ◌≤◌, List, [], ◌∷◌, ◌++◌, length, slice_get, Option, Some, None}
use Rattle.fam_base.specs.declared.entry.Entry.{Entry}
use Rattle.fam_base.specs.declared.entry.Params.{Params}
use Rattle.fam_base.specs.Image.{Image}
use Rattle.fam_rules.specs.Asks.{File}
use Rattle.fam_journal.specs.Legal.{master_of}
use Rattle.fam_journal.specs.Notes.{Note, Writes}
use Rattle.fam_journal.specs.Past.{HostPast, Sound, State, settled_length}
use Rattle.fam_journal.specs.Shapes.{Begun, CommandStage, Marked, Met, Named, OfRunning, Pairs, TaskNote, TaskShape}
use Rattle.fam_judge.specs.Fitting.{FitsNext}
use Rattle.fam_judge.specs.Possible.{Elsewhere, IsPossible, MayLead, NonePends, Possible, Progress, StepsTo, Wrote, after_note, first_possible, past_in, shapes_in}
use Rattle.fam_judge.specs.Shows.{ShowsJournal}
use Rattle.fam_judge.specs.Standing.{MayStand}
use Rattle.fam_judge.specs.Untold.{untold_notes}

-- States of the settled history.

-- the second one is the first one, or the entry that pends in the first one has joined it, or was dropped
pub data StateOver (s t : State) : Type 0 where
  same : t ≡ s → StateOver s t
  joined : (p : Params) (history : List File) (f : File) → s ≡ Sound p history (Some f) → t ≡ Sound p (history ++ f ∷ []) None → StateOver s t
  dropped : (p : Params) (history : List File) (f : File) → s ≡ Sound p history (Some f) → t ≡ Sound p history None → StateOver s t

-- Floors.

-- there is a floor, and it is at most what is settled
abbrev pub HasFloor : ℕ → Option ℕ → Type 0
HasFloor settled floor = (f : ℕ) × (floor ≡ Some f) × (f ≤ settled)

-- the first floor is the lower one
abbrev pub FloorUnder : Option ℕ → Option ℕ → Type 0
FloorUnder low high = (f : ℕ) × (g : ℕ) × (low ≡ Some f) × (high ≡ Some g) × (f ≤ g)

-- Stages.

-- how far a command has come by what lines tell, and how far it has come; the first state is s. While the mark may still be asked for the
-- floor by the lines is no higher; and a master has found entries only where nothing pends
abbrev pub StagesOver : State → CommandStage → CommandStage → HostPast → HostPast → Type 0
StagesOver s Begun Begun p q = HasFloor (settled_length s) p.floor
StagesOver s Begun Marked p q = FloorUnder p.floor q.floor
StagesOver s Begun (Met n) p q = ⊤
StagesOver s Begun (Named seq) p q = ⊥
StagesOver s Marked Begun p q = ⊥
StagesOver s Marked Marked p q = FloorUnder p.floor q.floor
StagesOver s Marked (Met n) p q = ⊤
StagesOver s Marked (Named seq) p q = ⊥
StagesOver s (Met m) Begun p q = ⊥
StagesOver s (Met m) Marked p q = ⊥
StagesOver s (Met m) (Met n) p q = (m ≡ n) × (master_of s ≡ Some p.uuid → NonePends s)
StagesOver s (Met m) (Named seq) p q = ⊥
StagesOver s (Named k) Begun p q = ⊥
StagesOver s (Named k) Marked p q = ⊥
StagesOver s (Named k) (Met n) p q = ⊥
StagesOver s (Named k) (Named seq) p q = (k ≡ seq) × (p.wrote ≡ q.wrote)

-- so of running commands, if any
abbrev pub TasksOver : State → Option TaskShape → Option TaskShape → HostPast → HostPast → Type 0
TasksOver s None None p q = ⊤
TasksOver s None (Some b) p q = ⊥
TasksOver s (Some a) None p q = ⊥
TasksOver s (Some a) (Some b) p q = (a.cmd ≡ b.cmd) × StagesOver s a.stage b.stage p q

-- so of a host
pub record HostOver (s : State) (p q : Progress) : Type 0 where
  pub name : p.shape.name ≡ q.shape.name
  pub uuid : p.shape.uuid ≡ q.shape.uuid
  pub keeps : p.shape.keeps ≡ q.shape.keeps
  pub own : p.told.uuid ≡ p.shape.uuid
  pub told_uuid : p.told.uuid ≡ q.told.uuid
  pub told_cmd : p.told.cmd ≡ q.told.cmd
  pub task : TasksOver s p.shape.task q.shape.task p.told q.told

-- so of a state
pub record Direct (x c : Possible) : Type 0 where
  pub state : StateOver x.state c.state
  pub hosts : Pairs (HostOver x.state) x.hosts c.hosts

-- Journals.

-- notes one behind another
abbrev pub behind : Image → Possible → List Note → Possible
behind start x [] = x
behind start x (y ∷ notes) = behind start (after_note start x y) notes

-- the state behind a journal
abbrev pub possible_behind : Image → List Note → Possible
possible_behind start journal = behind start (first_possible start) journal

-- each of these notes stands, and fits
abbrev pub AreFitting : Image → Possible → List Note → Type 0
AreFitting start c [] = ⊤
AreFitting start c (y ∷ notes) = MayStand (length start) (shapes_in c) y × FitsNext (past_in start c) y × AreFitting start (after_note start c y) notes

-- An entry that was named, where the first state hasn't named it yet.

-- the second state has come from one that allows no more, in which the host may name the entry
pub record Late (start : Image) (x c : Possible) : Type 0 where
  pub host : ℕ
  pub pre : Possible
  pub direct : Direct x pre
  pub seq : ℕ
  pub entry : Entry
  pub may : OfRunning (slice_get (shapes_in pre) host) (λ me t. TaskNote host me t (Writes host seq entry))
  pub fits : FitsNext (past_in start pre) (Writes host seq entry)
  pub hosts : c.hosts ≡ (after_note start pre (Writes host seq entry)).hosts
  pub state : StateOver (after_note start pre (Writes host seq entry)).state c.state

-- the first state is one that allows no less, or one in which the entry isn't named yet
pub data Over (start : Image) (x c : Possible) : Type 0 where
  direct : Direct x c → Over start x c
  late : Late start x c → Over start x c

-- Possible states of which the one allows no less than the other.

-- of a host's command: its floor is no higher while its mark may still be asked for, and it has named the same entry
abbrev pub StageBelow : CommandStage → HostPast → HostPast → Type 0
StageBelow Begun p q = FloorUnder p.floor q.floor
StageBelow Marked p q = FloorUnder p.floor q.floor
StageBelow (Met n) p q = ⊤
StageBelow (Named seq) p q = p.wrote ≡ q.wrote

-- so of a running command, if any
abbrev pub TaskBelow : Option TaskShape → HostPast → HostPast → Type 0
TaskBelow None p q = ⊤
TaskBelow (Some t) p q = StageBelow t.stage p q

-- so of a host: of a command that has ended nothing is asked for any more
pub record HostBelow (p q : Progress) : Type 0 where
  pub shape : p.shape ≡ q.shape
  pub uuid : p.told.uuid ≡ q.told.uuid
  pub cmd : p.told.cmd ≡ q.told.cmd
  pub task : TaskBelow q.shape.task p.told q.told

-- so of a state
pub record IsBelow (x y : Possible) : Type 0 where
  pub state : x.state ≡ y.state
  pub hosts : Pairs HostBelow x.hosts y.hosts

-- Sets of states.

-- one of these
abbrev pub IsOf : List Possible → Possible → Type 0
IsOf xs x = (i : ℕ) × (slice_get xs i ≡ Some x)

-- one of these is the state, or allows no less than it
pub record HasBelow (xs : List Possible) (y : Possible) : Type 0 where
  pub state : Possible
  pub is : IsOf xs state
  pub below : (state ≡ y) ⊎ IsBelow state y

-- each of these states is possible behind the lines; and whatever journal the lines show, of notes that stand and fit and tell nothing that
-- isn't told, it comes to what one of them covers
pub record Judges (start : Image) (lines : List Note) (xs : List Possible) : Type 0 where
  pub sound : (x : Possible) → IsOf xs x → IsPossible start lines x
  pub complete : (journal : List Note) → ShowsJournal lines journal → untold_notes journal ≡ journal → AreFitting start (first_possible start) journal
      → (x : Possible) × IsOf xs x × Over start x (possible_behind start journal)

-- the line leads from the first states to the second ones: to no others than it may; and for each state to which it leads, from one of the
-- first ones or from one that has named an entry of which the line tells, to one that allows no less
pub record LeadsStates (start : Image) (line : Note) (xs zs : List Possible) : Type 0 where
  pub sound : (z : Possible) → IsOf zs z → (x : Possible) × IsOf xs x × MayLead start x line z
  pub own : (x z : Possible) → IsOf xs x → StepsTo start x line z → HasBelow zs z
  pub named : (x w z : Possible) (k : ℕ) → IsOf xs x → (wrote : Wrote start k x w) → (Elsewhere k wrote.seq line → ⊥) → StepsTo start w line z → HasBelow zs z
