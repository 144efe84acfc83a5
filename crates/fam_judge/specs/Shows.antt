-- Histories that show a journal. A history is notes as a recorder wrote them down: it may leave out what a task tells on its way,
-- and of each note it tells what a text does.
use Rattle.std.specs.Prelude.{⊤, ◌≡◌, ◌⊎◌, IsTrue, Bool, true, false, List, [], ◌∷◌}
use Rattle.fam_journal.specs.Notes.{Note, Host, Made, Cut, Start, Mark, Found, Writes, Answered, Stop, Halt, Umount, Refused}
use Rattle.fam_judge.specs.Alike.{told_note}

-- a note that a history may leave out
abbrev pub is_inner : Note → Bool
is_inner (Host name uuid) = false
is_inner (Made h p) = false
is_inner (Cut h k) = false
is_inner (Start h cmd) = false
is_inner (Mark h) = true
is_inner (Found h n) = true
is_inner (Writes h seq entry) = true
is_inner (Answered h answer) = false
is_inner (Stop h) = false
is_inner (Halt h) = false
is_inner (Umount h) = false
is_inner (Refused name cause) = false

-- the history tells the same as the journal without some of its marks, founds and writes
abbrev pub ShowsJournal : List Note → List Note → Type 0
ShowsJournal [] [] = ⊤
ShowsJournal [] (note ∷ notes) = IsTrue (is_inner note) × ShowsJournal [] notes
ShowsJournal (line ∷ lines) [] = ⊥
ShowsJournal (line ∷ lines) (note ∷ notes) = ((told_note line ≡ told_note note) × ShowsJournal lines notes) ⊎ (IsTrue (is_inner note) × ShowsJournal (line ∷ lines) notes)
