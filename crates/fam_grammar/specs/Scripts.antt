-- A line as an event, and a script as its events. docs/MANUAL.md, "Scripts".
use Rattle.std.specs.Prelude.{ℕ, ◌≡◌, ⊤, ◌+◌, ◌==◌, Bool, true, false, if◌then◌else◌, List, [], ◌∷◌, length, slice_index, Option, Some, None, Result, Ok, Err}
use Rattle.std.specs.List.{slice_split}
use Rattle.fam_journal.specs.declared.event.Event.{Event}
use Rattle.fam_grammar.specs.declared.fault.LineFault.{LineFault}
use Rattle.fam_grammar.specs.declared.fault.LineFault.TheVariants.{BadLine, OutOfMemory}
use Rattle.fam_grammar.specs.Lines.{event_line}
use Rattle.fam_grammar.specs.Reading.{Reading, Reads, Misfit}
use Rattle.fam_grammar.specs.Words.{Word, without_return, words_from}

-- what a line is: an event or none; or the column at which it is bad. Which events there are is the grammar's
abbrev pub LineReading : Type 0 → Type 0
LineReading A = Result (Option A) ℕ

-- a line whose first word begins with `#` is none
abbrev pub is_comment : Word → Bool
is_comment word = slice_index word.text 0 == 35

-- the event of a line, or the column of the word that doesn't fit
abbrev pub event_or_column : {A : Type 0} → Reading A → LineReading A
event_or_column (Reads event rest) = Ok (Some event)
event_or_column (Misfit column) = Err column

-- by a line's words, of which a grammar says what they come to; it is told the column behind the line
abbrev pub line_of_words : {A : Type 0} → (ℕ → List Word → Reading A) → ℕ → List Word → LineReading A
line_of_words grammar end [] = Ok None
line_of_words grammar end (word ∷ words) =
    if is_comment word then Ok None else event_or_column (grammar end (word ∷ words))

-- the words of a line, without its line feed
abbrev pub words_in : List ℕ → List Word
words_in line = words_from 1 (without_return line)

-- the column behind it
abbrev pub end_of_line : List ℕ → ℕ
end_of_line line = length (without_return line) + 1

-- the words are no event: there are none, or they are a comment
abbrev pub AreNoEvent : List Word → Type 0
AreNoEvent [] = ⊤
AreNoEvent (word ∷ words) = is_comment word ≡ true

-- or they are to be one
abbrev pub AreEvent : List Word → Type 0
AreEvent [] = ⊥
AreEvent (word ∷ words) = is_comment word ≡ false

-- a line of a script
unfoldable pub line_reads : List ℕ → LineReading Event
line_reads line = line_of_words event_line (end_of_line line) (words_in line)

-- a line is bad at the column that the fault names, under this number. That no memory is left says nothing of it
abbrev pub IsBadLine : {A : Type 0} → ℕ → LineReading A → LineFault → Type 0
IsBadLine number said (BadLine line column) = (line ≡ number) × (said ≡ Err column)
IsBadLine number said OutOfMemory = ⊤

-- the lines of a script: cut at line feeds; a last line that is empty doesn't count
abbrev pub is_line_feed : ℕ → Bool
is_line_feed byte = byte == 10

-- a line, and the rest of the script
abbrev pub with_line : {A : Type 0} → LineReading A → ℕ → Result (List A) (ℕ × ℕ) → Result (List A) (ℕ × ℕ)
with_line (Ok None) number rest = rest
with_line (Ok (Some event)) number (Ok events) = Ok (event ∷ events)
with_line (Ok (Some event)) number (Err bad) = Err bad
with_line (Err column) number rest = Err (number, column)

-- the events of lines in their order, or the first bad line and its column; the first line has this number
abbrev pub events_from : {A : Type 0} → (List ℕ → LineReading A) → ℕ → List (List ℕ) → Result (List A) (ℕ × ℕ)
events_from reads number [] = Ok []
events_from reads number (line ∷ lines) = with_line (reads line) number (events_from reads (number + 1) lines)

-- the lines of a script
abbrev pub lines_of : List ℕ → List (List ℕ)
lines_of bytes = slice_split is_line_feed bytes

-- their events, or the number and column of the first bad line
abbrev pub events_in : {A : Type 0} → (List ℕ → LineReading A) → List ℕ → Result (List A) (ℕ × ℕ)
events_in reads bytes = events_from reads 1 (lines_of bytes)

-- the events of a script
unfoldable pub script_events : List ℕ → Result (List Event) (ℕ × ℕ)
script_events bytes = events_in line_reads bytes

-- the fault names a script's first bad line. That no memory is left says nothing of it
abbrev pub IsBadScript : {A : Type 0} → Result (List A) (ℕ × ℕ) → LineFault → Type 0
IsBadScript said (BadLine line column) = said ≡ Err (line, column)
IsBadScript said OutOfMemory = ⊤
