-- What calls of the world come to, as parts of events.
use Rattle.std.specs.Prelude.{◌≡◌, List, Result, Ok, Err}
use Rattle.fam_journal.specs.declared.refusal.Refusal.{Refusal}
use Rattle.fam_journal.specs.Calls.{CutCall, Call}
use Rattle.fam_journal.specs.CallRecords.{DoesPart}
use Rattle.fam_journal.specs.Ends.{CutCallReads}
use Rattle.fam_journal.specs.Events.{Calls, Session}
use Rattle.fam_journal.specs.Shapes.{BreaksShape, DoesShape, PartShape}
use Rattle.fam_journal.specs.Notes.{Note}
use Rattle.fam_events.specs.WorldChange.{WorldChange, AddsShape, ComesBroken, ComesHeld, Told}
use Rattle.fam_events.specs.declared.fault.EventFault.{EventFault}
use Rattle.fam_events.specs.declared.fault.EventFault.TheVariants as fault
use Rattle.fam_world.specs.declared.fault.WorldFault.{WorldFault}
use Rattle.fam_world.specs.declared.fault.WorldFault.TheVariants as world
use Rattle.fam_journal.specs.RefusalClasses.{RefusalClass, refusal_class, AtOnce, ByHost, ByImage, BySource, ByFault}

-- a refused call has noted that, and the run goes on
abbrev pub outcome : Result (Unit {0}) WorldFault → Result (Unit {0}) EventFault
outcome (Ok x) = Ok x
outcome (Err (world.Refused cause)) = Ok tt
outcome (Err world.OutOfMemory) = Err fault.OutOfMemory

-- but behind a mkfs in which the media failed nothing goes on; by the class of the refusal
abbrev pub broken_by_in : RefusalClass → Result (Unit {0}) EventFault
broken_by_in AtOnce = Ok tt
broken_by_in (ByHost host) = Ok tt
broken_by_in ByImage = Ok tt
broken_by_in BySource = Ok tt
broken_by_in (ByFault at) = Err fault.MkfsFailed

-- so of a refusal, by its class
abbrev pub broken_by : Refusal → Result (Unit {0}) EventFault
broken_by cause = broken_by_in (refusal_class cause)

-- how an event ends, by what the world's mkfs answered
abbrev pub make_outcome : Result (Unit {0}) WorldFault → Result (Unit {0}) EventFault
make_outcome (Ok x) = Ok x
make_outcome (Err (world.Refused cause)) = broken_by cause
make_outcome (Err world.OutOfMemory) = Err fault.OutOfMemory

-- the row of a call, of sessions
abbrev pub CallsPart : Call → Session → List Note → Session → Type 0
CallsPart c old notes new = DoesPart c old.machines notes new.machines × (new.copied ≡ old.copied)

-- a call is cut by a media fault, behind which nothing goes on
abbrev pub CallsBreak : Call → Session → List Note → Session → Type 0
CallsBreak c old notes new = CutCall c old.machines notes new.machines × (new.copied ≡ old.copied)

-- the call did its row
pub record CallDone (c : Call) (a : WorldChange) : Type 0 where
  pub adds : AddsShape (DoesShape c) a
  pub keeps : Told (λ files start. ComesHeld (Calls c) start) a

-- a mkfs was cut
pub record CallBroken (c : Call) (a : WorldChange) : Type 0 where
  pub adds : AddsShape (BreaksShape c) a
  pub keeps : Told (λ files start. ComesBroken (CallsBreak c) (λ old. CutCallReads c old.machines) start) a

-- no memory was left
pub record CallPart (c : Call) (a : WorldChange) : Type 0 where
  pub adds : AddsShape (PartShape c) a
  pub keeps : Told (λ files start. ComesHeld (CallsPart c) start) a

-- by how it went
abbrev pub CallSays : Call → WorldChange → Result (Unit {0}) EventFault → Type 0
CallSays c a (Ok x) = CallDone c a
CallSays c a (Err fault.MkfsFailed) = CallBroken c a
CallSays c a (Err (fault.SourceEnded end)) = ⊥
CallSays c a (Err fault.OutOfMemory) = CallPart c a
