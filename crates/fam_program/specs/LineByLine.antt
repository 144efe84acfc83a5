-- A script that is read line by line. docs/MANUAL.md, "Scripts".
use Rattle.std.specs.Prelude.{ℕ, ◌≡◌, ◌⊎◌, List, [], ◌∷◌, Option, Some, None, Ok}
use Rattle.fam_grammar.specs.Scripts.{lines_of, script_events}
use Rattle.fam_journal.specs.declared.event.Event.{Event}

-- a script's lines are a line and those of what is behind it; or the line is all
abbrev pub SplitsAtLine : List ℕ → List ℕ → List ℕ → Type 0
SplitsAtLine script line behind = (lines_of script ≡ line ∷ lines_of behind) ⊎ ((lines_of script ≡ line ∷ []) × (behind ≡ []))

-- the event of a line, if it has one, before those of others
abbrev pub with_event : Option Event → List Event → List Event
with_event None events = events
with_event (Some event) events = event ∷ events

-- a script's events are that of its first line, if it has one, and those of what is behind it
pub record StartsWith (script : List ℕ) (event : Option Event) (behind : List ℕ) : Type 0 where
  pub events : List Event
  pub rest : script_events behind ≡ Ok events
  pub all : script_events script ≡ Ok (with_event event events)
