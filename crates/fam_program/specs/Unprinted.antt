-- Events that are run with nothing put of them: how they ended, whatever is put then.
use Rattle.std.specs.Prelude.{ℕ, ⊤, ◌≡◌, false, List, [], ◌∷◌, take, Result, Ok, Err}
use Rattle.std.specs.List.{list_any}
use Rattle.fam_journal.specs.declared.event.Ask.{Ask}
use Rattle.fam_journal.specs.declared.event.Event.{Event}
use Rattle.fam_journal.specs.declared.event.Event.TheVariants as event
use Rattle.fam_journal.specs.Ends.{AllDone, IsFaultless}
use Rattle.fam_journal.specs.Notes.{Note}
use Rattle.fam_outcomes.specs.Programs.{last_passes, without_last}
use Rattle.fam_outcomes.specs.Runs.{Outside}
use Rattle.fam_outcomes.specs.Statuses.{last_stops, note_stops}
use Rattle.fam_events.specs.declared.fault.EventFault.{EventFault}
use Rattle.fam_events.specs.declared.fault.EventFault.TheVariants as fault
use Rattle.fam_program.specs.Runs.{HasEnded, ending_of}
use Rattle.fam_program.specs.Shots.{is_short}

-- all of them are done, or one ended the run early
abbrev pub EventsEnded : Result (Unit {0}) EventFault → Outside → List Event → List Note → Type 0
EventsEnded (Ok x) out events journal = HasEnded AllDone out events journal
EventsEnded (Err fault) out events journal = HasEnded (ending_of fault) out events journal

-- Events of which the last note may stop the run: a host is declared, makes a file system, or runs a command.

-- an event of a command on its own: a mkfs or a run
abbrev pub IsShotEvent : Event → Type 0
IsShotEvent (event.Host name uuid) = ⊤
IsShotEvent (event.Mkfs name request) = ⊤
IsShotEvent (event.Begin name what) = ⊥
IsShotEvent (event.Run name what) = ⊤
IsShotEvent (event.Step name count) = ⊥
IsShotEvent (event.Finish name) = ⊥
IsShotEvent (event.Stop name) = ⊥
IsShotEvent (event.Halt name) = ⊥
IsShotEvent (event.Umount name) = ⊥
IsShotEvent (event.Evict name line) = ⊥
IsShotEvent (event.Leak name line mask) = ⊥
IsShotEvent (event.Fetch name line mask) = ⊥

-- each event is one of a command on its own
abbrev pub AreShotEvents : List Event → Type 0
AreShotEvents [] = ⊤
AreShotEvents (event ∷ events) = IsShotEvent event × AreShotEvents events

-- no note but the last one stops
abbrev pub OnlyLastStops : List Note → Type 0
OnlyLastStops journal = list_any note_stops (without_last journal) ≡ false

-- the first ones are done, up to a note that stops; where none does, all are
pub record HasStopped (out : Outside) (events : List Event) (journal : List Note) : Type 0 where
  pub count : ℕ
  pub ended : HasEnded AllDone out (take count events) journal
  pub goes_on : OnlyLastStops journal
  pub all : last_stops journal ≡ false → take count events ≡ events

-- where a run ends early, but by a mkfs in which the media failed, no note of it tells a media fault
abbrev pub HidesNoFault : EventFault → List Note → Type 0
HidesNoFault fault.MkfsFailed journal = ⊤
HidesNoFault (fault.SourceEnded end) journal = IsFaultless journal
HidesNoFault fault.OutOfMemory journal = IsFaultless journal

-- or one of them ended the run early
abbrev pub ShotEnded : Result (Unit {0}) EventFault → Outside → List Event → List Note → Type 0
ShotEnded (Ok x) out events journal = HasStopped out events journal
ShotEnded (Err fault) out events journal = HasEnded (ending_of fault) out events journal × OnlyLastStops journal × HidesNoFault fault journal

-- one host is declared, and runs one command
pub record IsOneRun (events : List Event) : Type 0 where
  pub name : List ℕ
  pub me : List ℕ
  pub what : Ask
  pub events_are : events ≡ event.Host name me ∷ event.Run name what ∷ []

-- memory may have been wanted in vain: for an event, or for the line of the last note
abbrev pub MayLack : Result (Unit {0}) EventFault → List Note → Type 0
MayLack (Ok x) journal = last_passes is_short journal ≡ false
MayLack (Err fault) journal = ⊤
