-- So many operations of a host's task by one call: each of them is a step, one behind another.
use Rattle.std.specs.Prelude.{ℕ, suc, ◌≡◌, ◌<◌, Bool, true, false, List, length, Option, Some, None, Result, Ok, Err}
use Rattle.fam_base.specs.declared.line.OutOfMemory.{OutOfMemory}
use Rattle.fam_cache.specs.States.{CacheState}
use Rattle.fam_commands.specs.Kept.{Kept}
use Rattle.fam_commands.specs.Task.{Task}
use Rattle.fam_media.specs.Outside.{IfModelled}
use Rattle.fam_media.specs.States.{MediaState}
use Rattle.fam_journal.specs.CallRecords.{StepCall}
use Rattle.fam_journal.specs.Notes.{Note}
use Rattle.fam_journal.specs.View.{HostView, WorldView}
use Rattle.fam_world.specs.declared.fault.Moved.{Moved}
use Rattle.fam_world.specs.declared.fault.Moved.TheVariants as moved
use Rattle.fam_world.specs.declared.fault.WorldFault.{WorldFault}
use Rattle.fam_world.specs.declared.fault.WorldFault.TheVariants as fault
use Rattle.fam_world.specs.Steps.{StepsHost}

-- so many times R, one behind another
pub data Iterated {S : Type 0} (R : S → S → Type 0) : S → S → ℕ → Type 0 where
  none : {a : S} → Iterated R a a 0
  more : {a b c : S} {n : ℕ} → Iterated R a b n → R b c → Iterated R a c (suc n)

-- fewer times than so many, and then once an ending
pub record EndsWithin {S : Type 0} (R E : S → S → Type 0) (most : ℕ) (a c : S) : Type 0 where
  pub before : S
  pub count : ℕ
  pub within : count < most
  pub goes : Iterated R a before count
  pub ends : E before c

-- fewer times than so many, and no more
pub record StopsWithin {S : Type 0} (R : S → S → Type 0) (most : ℕ) (a b : S) : Type 0 where
  pub count : ℕ
  pub within : count < most
  pub goes : Iterated R a b count

-- a world, and what its media tells
pub record WorldStanding : Type 0 where
  pub world : WorldView
  pub media : MediaState

-- with this media
abbrev pub standing : {M : Type 0} → (M → MediaState) → M → WorldView → WorldStanding
standing state media world = record { world = world; media = state media }

-- a step of the host of this name, which wasn't refused, on a media of so many lines; and whether its task is over
pub record WorldStep (name : List ℕ) (lines : ℕ) (over : Bool) (a b : WorldStanding) : Type 0 where
  pub modelled : IfModelled a.media.image (λ image. length image ≡ lines)
  pub step : StepCall name lines None over (record { old = a.media; new = b.media }) a.world b.world

-- what is said of at most so many steps: all were done, and the task goes on; or it answered with one of them; or the first
-- one was refused; or no memory was left behind fewer of them
abbrev pub StepsSay : List ℕ → ℕ → ℕ → WorldStanding → WorldStanding → Result Moved WorldFault → Type 0
StepsSay name lines most a b (Ok moved.Going) = Iterated (WorldStep name lines false) a b most
StepsSay name lines most a b (Ok moved.Answered) = EndsWithin (WorldStep name lines false) (WorldStep name lines true) most a b
StepsSay name lines most a b (Err (fault.Refused cause)) =
    StepCall name lines (Some cause) false (record { old = a.media; new = b.media }) a.world b.world
StepsSay name lines most a b (Err fault.OutOfMemory) = StopsWithin (WorldStep name lines false) most a b

-- The same of a host alone.

-- a host, the journal, and what the media tells
pub record HostStanding : Type 0 where
  pub host : HostView
  pub notes : List Note
  pub media : MediaState

-- with this media
abbrev pub host_standing : {M : Type 0} → (M → MediaState) → M → HostView → List Note → HostStanding
host_standing state media host notes = record { host = host; notes = notes; media = state media }

-- with this media, of a host that runs this task, if any, on this cache, and keeps this of the log
abbrev pub task_standing : {M : Type 0} → (M → MediaState) → M → HostView → Option Task → Option Kept → CacheState → List Note → HostStanding
task_standing state media view task kept cache notes =
    record { host = record view { task = task; cache = cache.lines; kept = kept }; notes = notes; media = state media }

-- the task that the host has behind operations of this one
abbrev pub task_left : Result Moved OutOfMemory → Option Task → Option Task
task_left (Ok moved.Going) task = task
task_left (Ok moved.Answered) task = None
task_left (Err full) task = task

-- an operation of the task of host `at`
pub record HostStep (at lines : ℕ) (over : Bool) (a b : HostStanding) : Type 0 where
  pub task : Task
  pub runs : a.host.task ≡ Some task
  pub modelled : IfModelled a.media.image (λ image. length image ≡ lines)
  pub step : StepsHost at task (record { old = a.host; new = b.host; before = a.notes; after = b.notes; lines = lines; media = record { old = a.media; new = b.media } }) over

-- what is said of at most so many operations of its task: all were done, and it goes on; or it answered with one of them; or
-- no memory was left behind fewer of them
abbrev pub HostStepsSay : ℕ → ℕ → ℕ → HostStanding → HostStanding → Result Moved OutOfMemory → Type 0
HostStepsSay at lines most a b (Ok moved.Going) = Iterated (HostStep at lines false) a b most
HostStepsSay at lines most a b (Ok moved.Answered) = EndsWithin (HostStep at lines false) (HostStep at lines true) most a b
HostStepsSay at lines most a b (Err full) = StopsWithin (HostStep at lines false) most a b

-- some operations of its task, behind which it goes on
pub record SomeSteps (at lines : ℕ) (a b : HostStanding) : Type 0 where
  pub count : ℕ
  pub goes : Iterated (HostStep at lines false) a b count

-- some, and one with which it answers
pub record Ends (at lines : ℕ) (a b : HostStanding) : Type 0 where
  pub before : HostStanding
  pub runs : SomeSteps at lines a before
  pub last : HostStep at lines true before b

-- what is said of operations up to its answer: it answered, or no memory was left behind some of them
abbrev pub RunsUp : ℕ → ℕ → HostStanding → HostStanding → Result (Unit {0}) OutOfMemory → Type 0
RunsUp at lines a b (Ok done) = Ends at lines a b
RunsUp at lines a b (Err full) = SomeSteps at lines a b

-- the same, as of a count of them
abbrev pub moved_up : Result (Unit {0}) OutOfMemory → Result Moved OutOfMemory
moved_up (Ok done) = Ok moved.Answered
moved_up (Err full) = Err full

-- what the world answers: want of memory is a fault of its own
abbrev pub told_of : {T : Type 0} → Result T OutOfMemory → Result T WorldFault
told_of (Ok done) = Ok done
told_of (Err full) = Err fault.OutOfMemory
