-- Lines that are events. docs/MANUAL.md, "Scripts".
use Rattle.std.specs.Prelude.{ℕ, ◌≡◌, All, List, length, Some, None, Result, Ok}
use Rattle.fam_journal.specs.declared.event.Event.{Event}
use Rattle.fam_journal.specs.Events.{event_source}
use Rattle.fam_grammar.specs.Scripts.{line_reads}
use Rattle.fam_storm.specs.Storm.{Words, line_text}

-- a line is an event, and neither blank nor a comment
abbrev pub IsEventLine : Words → Type 0
IsEventLine words = (event : Event) × (line_reads (line_text words) ≡ Ok (Some event))

-- a script is so many events
abbrev pub IsSoManyEvents : ℕ → Result (List Event) (ℕ × ℕ) → Type 0
IsSoManyEvents count said = (events : List Event) × (said ≡ Ok events) × (length events ≡ count)

-- no event of these reads a source
abbrev pub ReadNoSource : List Event → Type 0
ReadNoSource events = All (λ (event : Event). event_source event ≡ None) events
