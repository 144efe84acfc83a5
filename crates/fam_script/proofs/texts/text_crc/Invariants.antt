use Rattle.std.proofs.Common.{◌≡◌, ◌++◌, ℕ, List, drop, length}
use Rattle.fam_crc.specs.Crc.{crc32}
use Rattle.fam_journal.specs.Names.{NameDeclared}
use Rattle.fam_outcomes.specs.Texts.{render, render_behind}
use Rattle.fam_notes.specs.Notes.{notes_view}
use Rattle.fam_script.proofs.texts.text_crc.Given as goal

abbrev pub invariant-notes : goal.invariant-notes
invariant-notes l = record {
  named : NameDeclared (length l.names.items) (notes_view (drop l.note-index l.notes));
  so_far : (lines : List ℕ) × (crc32 lines ≡ l.crc) × (lines ++ render_behind l.names.items (notes_view (drop l.note-index l.notes)) ≡ render (notes_view l.notes));
}
