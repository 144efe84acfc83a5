use Rattle.std.proofs.Common.{sym, ◌∙◌, arith}
use Rattle.fam_journal.specs.Ends.{is_refused_note}
use Rattle.fam_notes.specs.declared.note.Note.{Note}
use Rattle.fam_notes.specs.Notes.{note_view}
use Rattle.fam_script.proofs.Counting.{counted_all, counted_no, counted_yes}
use Rattle.fam_script.proofs.counts.count_refused.Goals as goal
use Rattle.fam_script.proofs.counts.count_refused.Goals.{then-is_refused, else-is_refused}

pub notes-preserved : goal.notes-preserved
notes-preserved c =
    elim c.if-is_refused.branch [
      | then-is_refused w ↦ record {
        within = omega (arith, w.count-is, c.notes.invariant.within);
        counted = counted_yes (λ (note : Note). is_refused_note (note_view note)) c.args.notes.now c.notes.note-index c.note-item.result
            c.notes-test.true c.note-item.is c.notes.count c.notes.invariant.counted _ (sym c.is_refused.ensures ∙ w.if-is_refused.true) w.count-is;
      }
      | else-is_refused w ↦ record {
        within = omega (arith, w.count-is, c.notes.invariant.within);
        counted = counted_no (λ (note : Note). is_refused_note (note_view note)) c.args.notes.now c.notes.note-index c.note-item.result
            c.notes-test.true c.note-item.is c.notes.count c.notes.invariant.counted _ (sym c.is_refused.ensures ∙ w.if-is_refused.false) w.count-is;
      }
    ]

pub returns : goal.returns
returns c =
    counted_all (λ (note : Note). is_refused_note (note_view note)) c.args.notes.now c.notes.note-index c.notes.count c.notes-test.false c.notes.invariant.counted
