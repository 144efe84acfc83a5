-- The tree that the last note shows.
use Rattle.std.proofs.Common.{◌≡◌, List, [], ◌∷◌, ◌++◌, refl}
use Rattle.fam_notes.specs.declared.note.Note.{Note as Kept}
use Rattle.fam_notes.specs.Notes.{note_view, notes_view}
use Rattle.fam_program.specs.Shadows.{shown_tree, tree_in}

pub shown_behind : (front : List Kept) (last : Kept) → shown_tree (notes_view (front ++ last ∷ [])) ≡ tree_in (note_view last)
shown_behind [] last = refl
shown_behind (note ∷ []) last = refl
shown_behind (note ∷ next ∷ front) last = shown_behind (next ∷ front) last
