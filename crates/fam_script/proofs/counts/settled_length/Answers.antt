use Rattle.std.proofs.Common.{sym, ap, ◌∙◌, List}
use Rattle.std.proofs.lemmas.List.{at_drop_all}
use Rattle.fam_notes.specs.declared.note.Note.{Note}
use Rattle.fam_script.specs.Settled.{settled_behind}
use Rattle.fam_notes.specs.Notes.{notes_view}
use Rattle.fam_script.proofs.Settling.{length_of, settled_is}
use Rattle.fam_script.proofs.counts.settled_length.Goals as goal

pub returns-in-Some : goal.returns-in-Some
returns-in-Some c =
    let all = at_drop_all (λ (l : List Note). settled_behind c.notes.settled (notes_view l)) c.args.notes.now c.notes.note-index c.notes-test.false in
    ap length_of (sym c.in-Some.is ∙ sym all ∙ c.notes.invariant.behind) ∙ settled_is (notes_view c.args.notes.now)

pub returns-in-None : goal.returns-in-None
returns-in-None c =
    let all = at_drop_all (λ (l : List Note). settled_behind c.notes.settled (notes_view l)) c.args.notes.now c.notes.note-index c.notes-test.false in
    ap length_of (sym c.in-None.is ∙ sym all ∙ c.notes.invariant.behind) ∙ settled_is (notes_view c.args.notes.now)
