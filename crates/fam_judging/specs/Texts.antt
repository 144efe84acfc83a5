-- Which records of a history tell which notes, and what a program knows that has read some of them.
use Rattle.std.specs.Prelude.{ℕ, ⊤, ◌≡◌, List, [], ◌∷◌, ◌++◌}
use Rattle.fam_base.specs.Image.{Image}
use Rattle.fam_journal.specs.Notes.{Note, Host, Made, Cut, Start, Mark, Found, Writes, Answered, Stop, Halt, Umount, Refused}
use Rattle.fam_judge.specs.Covering.{IsOf, Judges}
use Rattle.fam_judge.specs.Explained.{IsExplained}
use Rattle.fam_judge.specs.Possible.{Possible, shapes_in}
use Rattle.fam_judge.specs.Standing.{faces}
use Rattle.fam_judge.specs.Untold.{untold_notes}
use Rattle.fam_lines.specs.Behind.{IsNoteOf, further}
use Rattle.fam_lines.specs.declared.host.SeenHost.{SeenHost}
use Rattle.fam_lines.specs.Hosts.{faces_of, seen_names}
use Rattle.fam_records.specs.Records.{Recorded}

-- the names of the hosts that are declared behind a note
abbrev pub names_after_note : List (List ℕ) → Note → List (List ℕ)
names_after_note names (Host name uuid) = names ++ name ∷ []
names_after_note names (Made h p) = names
names_after_note names (Cut h k) = names
names_after_note names (Start h cmd) = names
names_after_note names (Mark h) = names
names_after_note names (Found h n) = names
names_after_note names (Writes h seq e) = names
names_after_note names (Answered h answer) = names
names_after_note names (Stop h) = names
names_after_note names (Halt h) = names
names_after_note names (Umount h) = names
names_after_note names (Refused name cause) = names

-- and behind notes
abbrev pub names_behind_notes : List (List ℕ) → List Note → List (List ℕ)
names_behind_notes names [] = names
names_behind_notes names (note ∷ notes) = names_behind_notes (names_after_note names note) notes

-- the record tells the note, behind hosts of these names
abbrev pub RecordTells : List (List ℕ) → Recorded → Note → Type 0
RecordTells names r note = IsNoteOf names r.told (further r.entries r.report) note

-- the records tell the notes, one by one
abbrev pub RecordsTell : List (List ℕ) → List Recorded → List Note → Type 0
RecordsTell names [] [] = ⊤
RecordsTell names [] (note ∷ notes) = ⊥
RecordsTell names (r ∷ records) [] = ⊥
RecordsTell names (r ∷ records) (note ∷ notes) = RecordTells names r note × RecordsTell (names_after_note names note) records notes

-- some history that the records tell is explained from the image
abbrev pub IsLegal : Image → List Recorded → Type 0
IsLegal start records = (history : List Note) × RecordsTell [] records history × IsExplained start history

-- behind these records: the notes that they tell, without what isn't told, and the states that judge them, in which the hosts look so.
-- Each other history that they tell and that is explained is the same but for what isn't told
pub record IsJudging (start : Image) (records : List Recorded) (hosts : List SeenHost) (xs : List Possible) : Type 0 where
  pub history : List Note
  pub tells : RecordsTell [] records history
  pub untold : untold_notes history ≡ history
  pub only : (other : List Note) → RecordsTell [] records other → IsExplained start other → untold_notes other ≡ history
  pub judges : Judges start history xs
  pub seen : (x : Possible) → IsOf xs x → faces (shapes_in x) ≡ faces_of hosts
  pub names : (other : List Note) → RecordsTell [] records other → names_behind_notes [] other ≡ seen_names hosts
