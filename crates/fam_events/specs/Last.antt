-- The last command of a run, where it only reads: what is told of it is told of a world with the same journal.
use Rattle.std.specs.Prelude.{⊤, ◌≡◌, None, Result}
use Rattle.fam_media.specs.States.{ShelfChange}
use Rattle.fam_rules.specs.Decide.{wish_of}
use Rattle.fam_journal.specs.declared.event.Ask.{Ask}
use Rattle.fam_journal.specs.declared.event.Ask.TheVariants as ask
use Rattle.fam_journal.specs.declared.event.Event.{Event}
use Rattle.fam_journal.specs.Calls.{Call}
use Rattle.fam_journal.specs.View.{WorldView}
use Rattle.fam_events.specs.Calls.{CallSays}
use Rattle.fam_events.specs.Happens.{EventSays}
use Rattle.fam_events.specs.WorldChange.{WorldChange}
use Rattle.fam_events.specs.declared.fault.EventFault.{EventFault}

-- the command that is asked for appends nothing, whatever its source has
abbrev pub AsksToRead : Ask → Type 0
AsksToRead (ask.Plain c) = wish_of c ≡ None
AsksToRead (ask.Cp source path attr stripe) = ⊥
AsksToRead (ask.VerifySource path source) = ⊤
AsksToRead (ask.Check source) = ⊤

-- what is said of a call is said of a world with the same journal
pub record CallShows (c : Call) (a : WorldChange) (r : Result (Unit {0}) EventFault) : Type 0 where
  pub shown : WorldView
  pub journal : a.new.journal ≡ shown.journal
  pub says : CallSays c (record a { new = shown }) r

-- and so of an event
pub record EventShows (e : Event) (shelf : ShelfChange) (a : WorldChange) (r : Result (Unit {0}) EventFault) : Type 0 where
  pub shown : WorldView
  pub journal : a.new.journal ≡ shown.journal
  pub says : EventSays e shelf (record a { new = shown }) r
