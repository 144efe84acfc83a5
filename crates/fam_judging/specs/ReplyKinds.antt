-- What is needed of a command for each kind of reply that shows nothing, and what is left behind it.
use Rattle.std.specs.Prelude.{ℕ, ⊤, ◌≡◌, ◌≢◌, ◌⊎◌, List, Option, Some, None, option_map, Err}
use Rattle.fam_base.specs.declared.cmd.Cmd.{Cmd}
use Rattle.fam_base.specs.declared.cmd.Cmd.TheVariants.{Fsck}
use Rattle.fam_base.specs.declared.entry.Params.{Params}
use Rattle.fam_base.specs.Image.{Image}
use Rattle.fam_commands.specs.Appends.{HasWish}
use Rattle.fam_format.specs.declared.faults.LogFault.{LogFault}
use Rattle.fam_format.specs.declared.faults.Reason.{Reason}
use Rattle.fam_format.specs.declared.faults.SuperFault.{SuperFault}
use Rattle.fam_format.specs.declared.faults.SuperFault.TheVariants as super
use Rattle.fam_history.specs.declared.command.ToldCommand.{ToldCommand}
use Rattle.fam_journal.specs.Legal.{DecideAllowed, HasParams, master_of}
use Rattle.fam_journal.specs.Past as past
use Rattle.fam_journal.specs.Past.{State, acknowledges}
use Rattle.fam_journal.specs.Shapes.{Begun, CommandStage, HasMet, Marked, Named}
use Rattle.fam_judge.specs.Formed.{FaultPlace}
use Rattle.fam_lines.specs.declared.host.SeenHost.{SeenHost}
use Rattle.fam_lines.specs.Lines.{untold_of}
use Rattle.fam_rules.specs.declared.answers.Refused.{Refused as Cause}
use Rattle.fam_rules.specs.declared.answers.Refused.TheVariants as cause
use Rattle.fam_rules.specs.Decide.{Wish, wish_of}
use Rattle.fam_rules.specs.DecideLaws.{IsTooLong}
use Rattle.fam_judging.specs.Candidates.{past_damage, named_of, settled_state, stage_shape}
use Rattle.fam_judging.specs.Replies.{Asker, EndingState, MeetsAtPoint, NamesAt, Point, told_at}
use Rattle.fam_judging.specs.declared.candidate.Settled.{Settled}
use Rattle.fam_judging.specs.declared.candidate.Settled.TheVariants as settled
use Rattle.fam_judging.specs.declared.candidate.Track.{Track}
use Rattle.fam_judging.specs.declared.given.GivenImage.{GivenImage}

-- Candidates.

-- a host and its running command
abbrev pub asker_of : SeenHost → ToldCommand → Asker
asker_of seen cmd = record { name = seen.name; uuid = seen.uuid; keeps = seen.keeps; cmd = untold_of cmd }

-- how far it has come
abbrev pub point_of : Image → Settled → Track → Point
point_of start settled track = record { stage = stage_shape track.stage; state = settled_state start settled; floor = track.floor; wrote = option_map named_of track.wrote }

-- what is left
abbrev pub ending_left : Image → Settled → Track → EndingState
ending_left start settled track = record { state = settled_state start settled; floor = track.floor; wrote = option_map named_of track.wrote }

-- The superblock and the damage.

-- the parameters of the file system, where its superblock reads
abbrev pub params_in : GivenImage → Settled → Option Params
params_in given (settled.Log log) = Some log.params
params_in given settled.Given = given.params
params_in given settled.Halted = None

-- these are the parameters of a state
pub record AreParamsOf (params : Option Params) (state : State) : Type 0 where
  pub some : (p : Params) → HasParams p state → params ≡ Some p
  pub has : (p : Params) → params ≡ Some p → HasParams p state
  pub master : master_of state ≡ option_map (λ (p : Params). p.master) params

-- why there is no history
abbrev pub damage_in : GivenImage → Settled → Option past.Damage
damage_in given (settled.Log log) = None
damage_in given settled.Given = Some (past_damage given.damage)
damage_in given settled.Halted = Some (past.NoSuperblock (super.NoSuper 0))

-- so of a state
abbrev pub damage_of_state : State → Option past.Damage
damage_of_state (past.Sound p history pending) = None
damage_of_state (past.Bad origin damage gate) = Some damage

-- Refusals.

-- another host may append alone
pub record IsOtherOf (params : Option Params) (me own master : List ℕ) : Type 0 where
  pub own_is : own ≡ me
  pub other : own ≢ master
  pub master_is : option_map (λ (p : Params). p.master) params ≡ Some master

-- the path is too long
pub record IsLongOf (params : Option Params) (me : List ℕ) (cmd : Cmd) (limit : ℕ) : Type 0 where
  pub p : Params
  pub params_are : params ≡ Some p
  pub wish : Wish
  pub wished : wish_of cmd ≡ Some wish
  pub long : IsTooLong p me wish limit

-- a refusal that the superblock tells
abbrev pub EarlyCause : Option Params → List ℕ → Cmd → Cause → Type 0
EarlyCause params me cmd (cause.NotMaster own master) = IsOtherOf params me own master
EarlyCause params me cmd (cause.LongPath limit) = IsLongOf params me cmd limit
EarlyCause params me cmd cause.BadStripe = ⊥
EarlyCause params me cmd (cause.Exists kind) = ⊥
EarlyCause params me cmd cause.NoParent = ⊥
EarlyCause params me cmd cause.ParentIsFile = ⊥
EarlyCause params me cmd (cause.LogFull slots) = ⊥
EarlyCause params me cmd (cause.NoSpace units) = ⊥

-- such one of a command that has just begun
pub record DeclinesEarly (params : Option Params) (me : List ℕ) (cmd : Cmd) (stage : CommandStage) (why : Cause) : Type 0 where
  pub begun : stage ≡ Begun
  pub wish : HasWish cmd
  pub cause : EarlyCause params me cmd why

-- it is left as it was, without its mark
abbrev pub unmarked_ending : Point → EndingState
unmarked_ending at = record { state = at.state; floor = None; wrote = at.wrote }

-- or as it was
abbrev pub same_ending : Point → EndingState
same_ending at = record { state = at.state; floor = at.floor; wrote = at.wrote }

-- a refusal that the entries tell
abbrev pub IsDecidedCause : Cause → Type 0
IsDecidedCause (cause.NotMaster own master) = ⊥
IsDecidedCause (cause.LongPath limit) = ⊥
IsDecidedCause cause.BadStripe = ⊤
IsDecidedCause (cause.Exists kind) = ⊤
IsDecidedCause cause.NoParent = ⊤
IsDecidedCause cause.ParentIsFile = ⊤
IsDecidedCause (cause.LogFull slots) = ⊤
IsDecidedCause (cause.NoSpace units) = ⊤

-- such one of a command that has found entries by now, and what is left
pub record DeclinesMet (who : Asker) (at : Point) (why : Cause) (e : EndingState) : Type 0 where
  pub met : Point
  pub meets : MeetsAtPoint who at met
  pub decided : IsDecidedCause why
  pub decides : DecideAllowed (told_at who met) (Err why) met.state
  pub is : e ≡ same_ending met

-- Entries that are appended.

-- a named entry is acknowledged
pub record AcknowledgesNamed (who : Asker) (at : Point) (seq : ℕ) (e : EndingState) : Type 0 where
  pub named : at.stage ≡ Named seq
  pub allowed : Rattle.fam_journal.specs.Legal.AppendedAllowed seq (told_at who at) (acknowledges seq at.state)
  pub is : e ≡ record { state = acknowledges seq at.state; floor = at.floor; wrote = at.wrote }

-- so is one that is named by now
pub record AppendsNew (who : Asker) (at : Point) (seq : ℕ) (e : EndingState) : Type 0 where
  pub now : Point
  pub names : NamesAt who at now
  pub number : names.seq ≡ seq
  pub is : e ≡ record { state = acknowledges seq now.state; floor = now.floor; wrote = now.wrote }

-- Damage.

-- there is no superblock
pub record FailsSuper (damage : Option past.Damage) (cmd : Cmd) (stage : CommandStage) (fault : SuperFault) : Type 0 where
  pub begun : stage ≡ Begun
  pub other : cmd ≢ Fsck
  pub damage_is : damage ≡ Some (past.NoSuperblock fault)

-- the header is bad, and read right behind the start
pub record FailsHeader (damage : Option past.Damage) (cmd : Cmd) (stage : CommandStage) (fault : LogFault) : Type 0 where
  pub begun : stage ≡ Begun
  pub place : FaultPlace fault Begun
  pub other : cmd ≢ Fsck
  pub damage_is : damage ≡ Some (past.BadHeader fault)

-- it has come to its mark, at the latest by now
abbrev pub MayMark : CommandStage → Type 0
MayMark stage = (stage ≡ Begun) ⊎ (stage ≡ Marked)

-- the gate is bad
pub record FailsGate (damage : Option past.Damage) (cmd : Cmd) (stage : CommandStage) (fault : LogFault) : Type 0 where
  pub marks : MayMark stage
  pub place : FaultPlace fault Marked
  pub other : cmd ≢ Fsck
  pub damage_is : damage ≡ Some (past.BadHeader fault)

-- a slot is bad: a command that appends reads slots behind what it found, at the latest by now, and another one behind its mark
pub record FailsSlot (damage : Option past.Damage) (cmd : Cmd) (stage : CommandStage) (i : ℕ) (reason : Reason) : Type 0 where
  pub comes : MayMark stage ⊎ HasMet stage
  pub other : cmd ≢ Fsck
  pub damage_is : damage ≡ Some (past.BadSlot i reason)
