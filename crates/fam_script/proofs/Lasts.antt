-- The last of kept notes.
use Rattle.std.proofs.Common.{◌≡◌, List, [], ◌∷◌, ◌++◌, refl}
use Rattle.fam_outcomes.specs.Statuses as spec
use Rattle.fam_notes.specs.declared.note.Note.{Note as Kept}
use Rattle.fam_notes.specs.Notes.{note_view, notes_view}

-- the status of notes is that of the last one
pub last_status_is : (front : List Kept) (last : Kept) → spec.last_status (notes_view (front ++ last ∷ [])) ≡ spec.note_status (note_view last)
last_status_is [] last = refl
last_status_is (note ∷ []) last = refl
last_status_is (note ∷ next ∷ front) last = last_status_is (next ∷ front) last

-- and whether they stop
pub last_stops_is : (front : List Kept) (last : Kept) → spec.last_stops (notes_view (front ++ last ∷ [])) ≡ spec.note_stops (note_view last)
last_stops_is [] last = refl
last_stops_is (note ∷ []) last = refl
last_stops_is (note ∷ next ∷ front) last = last_stops_is (next ∷ front) last
