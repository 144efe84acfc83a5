use Rattle.std.proofs.Common.{◌≡◌, [], drop}
use Rattle.fam_outcomes.specs.Texts.{names_behind}
use Rattle.fam_notes.specs.Notes.{notes_view}
use Rattle.fam_script.proofs.texts.declared.Given as goal

abbrev pub invariant-notes : goal.invariant-notes
invariant-notes l =
    names_behind l.names.items (notes_view (drop l.note-index l.notes)) ≡ names_behind [] (notes_view l.notes)
