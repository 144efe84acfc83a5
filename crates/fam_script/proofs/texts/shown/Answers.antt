use Rattle.std.proofs.Common.{ℕ, List, [], sym, ap, subst, ◌∙◌, length}
use Rattle.std.proofs.lemmas.Result.{IfOk-weaker}
use Rattle.fam_journal.specs.Names.{NamesHost, NameDeclared}
use Rattle.fam_outcomes.specs.Texts.{note_text, shown}
use Rattle.fam_notes.specs.declared.note.Note.{Note}
use Rattle.fam_notes.specs.Notes.{note_view, notes_view}
use Rattle.fam_script.proofs.Printing.{last_named, none_shown, shown_is}
use Rattle.fam_script.proofs.texts.shown.Goals as goal

pub note_text-requires : goal.note_text-requires
note_text-requires c =
    let named = subst (λ (l : List Note). NameDeclared 0 (notes_view l)) c.in-Some.ensures.cases.0 c.requires in
    subst (λ (n : ℕ). NamesHost n (note_view c.in-Some.last.now)) (ap length (sym c.in_ok-names-in-Some.ensures) ∙ ap length (sym c.as_slice.ensures.value))
    (last_named [] c.in-Some.before.now c.in-Some.last.now named)

pub returns-in_ok-names-in-Some : goal.returns-in_ok-names-in-Some
returns-in_ok-names-in-Some c =
    IfOk-weaker c.note_text.result _ _
    (λ line e.
    e
    ∙ ap (λ (names : List (List ℕ)). note_text names (note_view c.in-Some.last.now)) (c.as_slice.ensures.value ∙ c.in_ok-names-in-Some.ensures)
    ∙ shown_is c.in-Some.before.now c.in-Some.last.now
    ∙ ap (λ (l : List Note). shown (notes_view l)) (sym c.in-Some.ensures.cases.0))
    c.note_text.ensures

pub returns-in-None : goal.returns-in-None
returns-in-None c = c.new.ensures.items ∙ none_shown c.args.notes.now c.in-None.ensures.cases
