use Rattle.std.proofs.Common.{◌≡◌, drop}
use Rattle.fam_outcomes.specs.Statuses as spec
use Rattle.fam_notes.specs.Notes.{notes_view}
use Rattle.fam_script.proofs.statuses.is_good.Given as goal

abbrev pub invariant-notes : goal.invariant-notes
invariant-notes l = spec.is_good (notes_view (drop l.note-index l.notes)) ≡ spec.is_good (notes_view l.notes)
