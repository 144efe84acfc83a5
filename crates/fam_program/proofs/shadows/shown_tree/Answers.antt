use Rattle.std.proofs.Common.{◌∙◌, List, ap, sym}
use Rattle.fam_notes.specs.declared.note.Note.{Note}
use Rattle.fam_notes.specs.Notes.{notes_view}
use Rattle.fam_program.specs.Shadows as spec
use Rattle.fam_program.proofs.Commands.ShownTrees.{shown_behind}
use Rattle.fam_program.proofs.shadows.shown_tree.Goals as goal

pub returns-in-Some : goal.returns-in-Some
returns-in-Some c =
    c.tree_in.ensures
    ∙ sym (shown_behind c.in-Some.field-0-1.now c.in-Some.last.now)
    ∙ ap (λ (l : List Note). spec.shown_tree (notes_view l)) (sym c.in-Some.ensures.cases.0)
