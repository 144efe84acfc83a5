use Rattle.std.proofs.Common.{sym, ◌∙◌, arith}
use Rattle.fam_journal.specs.Ends.{is_answer_note}
use Rattle.fam_notes.specs.declared.note.Note.{Note}
use Rattle.fam_notes.specs.Notes.{note_view}
use Rattle.fam_script.proofs.Counting.{counted_all, counted_no, counted_yes}
use Rattle.fam_script.proofs.counts.count_answers.Goals as goal
use Rattle.fam_script.proofs.counts.count_answers.Goals.{then-is_answer, else-is_answer}

pub notes-preserved : goal.notes-preserved
notes-preserved c =
    elim c.if-is_answer.branch [
      | then-is_answer w ↦ record {
        within = omega (arith, w.count-is, c.notes.invariant.within);
        counted = counted_yes (λ (note : Note). is_answer_note (note_view note)) c.args.notes.now c.notes.note-index c.note-item.result
            c.notes-test.true c.note-item.is c.notes.count c.notes.invariant.counted _ (sym c.is_answer.ensures ∙ w.if-is_answer.true) w.count-is;
      }
      | else-is_answer w ↦ record {
        within = omega (arith, w.count-is, c.notes.invariant.within);
        counted = counted_no (λ (note : Note). is_answer_note (note_view note)) c.args.notes.now c.notes.note-index c.note-item.result
            c.notes-test.true c.note-item.is c.notes.count c.notes.invariant.counted _ (sym c.is_answer.ensures ∙ w.if-is_answer.false) w.count-is;
      }
    ]

pub returns : goal.returns
returns c =
    counted_all (λ (note : Note). is_answer_note (note_view note)) c.args.notes.now c.notes.note-index c.notes.count c.notes-test.false c.notes.invariant.counted
