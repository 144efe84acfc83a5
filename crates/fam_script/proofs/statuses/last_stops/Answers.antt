use Rattle.std.proofs.Common.{sym, ap, ◌∙◌, List}
use Rattle.fam_outcomes.specs.Statuses as spec
use Rattle.fam_notes.specs.declared.note.Note.{Note}
use Rattle.fam_notes.specs.Notes.{notes_view}
use Rattle.fam_script.proofs.Lasts.{last_stops_is}
use Rattle.fam_script.proofs.statuses.last_stops.Goals as goal

pub returns-in-Some : goal.returns-in-Some
returns-in-Some c =
    c.note_stops.ensures
    ∙ sym (last_stops_is c.in-Some.field-0-1.now c.in-Some.last.now)
    ∙ ap (λ (l : List Note). spec.last_stops (notes_view l)) (sym c.in-Some.ensures.cases.0)
