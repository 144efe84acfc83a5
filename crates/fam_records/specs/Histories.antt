-- A history: the notes of a text, one behind another.
use Rattle.std.specs.Prelude.{ℕ, ◌≡◌, ⊤, ◌+◌, ◌^◌, ◌<◌, zero, suc, List, [], ◌∷◌, length, Option, Some, None, Result, Ok, Err}
use Rattle.fam_grammar.specs.declared.fault.LineFault.{LineFault}
use Rattle.fam_grammar.specs.declared.fault.LineFault.TheVariants.{BadLine, OutOfMemory}
use Rattle.fam_tree.specs.Listings.{text_lines}
use Rattle.fam_records.specs.declared.record.Record.{Record}
use Rattle.fam_records.specs.declared.records.Records.{Records}
use Rattle.fam_records.specs.Lines.{Left}
use Rattle.fam_records.specs.Records.{Recorded, next_record}
use Rattle.fam_records.specs.Taken.{Bad, TakenLines, Takes}

-- the notes before the first bad line, and the number and column of that line, where there is one
pub record History : Type 0 where
  pub records : List Recorded
  pub bad : Option (ℕ × ℕ)

-- no line is left
abbrev pub no_history : History
no_history = record { records = []; bad = None }

-- a note in front
abbrev pub with_record : Recorded → History → History
with_record first behind = record { records = first ∷ behind.records; bad = behind.bad }

-- a line is bad
abbrev pub bad_history : ℕ → ℕ → History
bad_history number column = record { records = []; bad = Some (number, column) }

-- what is read, in front of what the lines behind it are
abbrev pub history_by : TakenLines (Option Recorded) → History → History
history_by (Takes None left) behind = no_history
history_by (Takes (Some first) left) behind = with_record first behind
history_by (Bad number column) behind = bad_history number column

-- the lines behind what is read
abbrev pub left_behind : TakenLines (Option Recorded) → Left
left_behind (Takes value left) = left
left_behind (Bad number column) = record { number = number; lines = [] }

-- at most so many notes
abbrev pub history_up_to : ℕ → Left → History
history_up_to zero left = no_history
history_up_to (suc n) left = history_by (next_record left) (history_up_to n (left_behind (next_record left)))

-- all notes of the lines that are left: they are no more than the lines
unfoldable pub history_left : Left → History
history_left left = history_up_to (length left.lines) left

-- the lines of a text
abbrev pub text_left : List ℕ → Left
text_left bytes = record { number = 1; lines = text_lines bytes }

-- a text as a history
unfoldable pub history_in : List ℕ → History
history_in bytes = history_left (text_left bytes)

-- all notes, where no line is bad
abbrev pub all_or_bad : List Recorded → Option (ℕ × ℕ) → Result (List Recorded) (ℕ × ℕ)
all_or_bad records None = Ok records
all_or_bad records (Some bad) = Err bad

-- the notes of a text, or the number and column of its first bad line
abbrev pub recorded : List ℕ → Result (List Recorded) (ℕ × ℕ)
recorded bytes = all_or_bad (history_in bytes).records (history_in bytes).bad

-- The reader.

-- a note that was read
abbrev pub record_seen : Record → Recorded
record_seen r = record { line = r.line; told = r.told; entries = r.entries.items; report = r.report }

-- the same where there is one
abbrev pub seen_if : Option Record → Option Recorded
seen_if None = None
seen_if (Some r) = Some (record_seen r)

-- the lines that it has before it
abbrev pub lines_left : Records → Left
lines_left r = record { number = r.number; lines = text_lines r.rest.now }

-- numbers of lines don't wrap
abbrev pub HasLineNumbers : Records → Type 0
HasLineNumbers r = r.number + length r.rest.now < 2 ^ 64

-- a history is the note that was read and what stands behind it; or it has no note, or a bad line; no memory says nothing of it
abbrev pub BeginsHistory : History → History → Result (Option Record) LineFault → Type 0
BeginsHistory history behind (Ok None) = history ≡ no_history
BeginsHistory history behind (Ok (Some first)) = history ≡ with_record (record_seen first) behind
BeginsHistory history behind (Err (BadLine number column)) = history ≡ bad_history number column
BeginsHistory history behind (Err OutOfMemory) = ⊤
