use Rattle.std.proofs.Common.{◌≡◌, ◌≤◌, count_by, take}
use Rattle.fam_journal.specs.Ends.{is_answer_note}
use Rattle.fam_notes.specs.Notes.{note_view}
use Rattle.fam_script.proofs.counts.count_answers.Given as goal

abbrev pub invariant-notes : goal.invariant-notes
invariant-notes l = record {
  within : l.count ≤ l.note-index;
  counted : l.count ≡ count_by (λ note. is_answer_note (note_view note)) (take l.note-index l.notes);
}
