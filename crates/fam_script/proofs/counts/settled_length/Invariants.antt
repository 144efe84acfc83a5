use Rattle.std.proofs.Common.{◌≡◌, None, drop}
use Rattle.fam_script.specs.Settled.{settled_behind}
use Rattle.fam_notes.specs.Notes.{notes_view}
use Rattle.fam_script.proofs.Settling.{IsWithin}
use Rattle.fam_script.proofs.counts.settled_length.Given as goal

abbrev pub invariant-notes : goal.invariant-notes
invariant-notes l = record {
  within : IsWithin l.note-index l.settled;
  behind : settled_behind l.settled (notes_view (drop l.note-index l.notes)) ≡ settled_behind None (notes_view l.notes);
}
