use Rattle.std.proofs.Common.{◌∙◌, ap, sym}
use Rattle.fam_notes.specs.declared.note.Note.{Note}
use Rattle.fam_notes.specs.Notes.{note_view}
use Rattle.fam_program.specs.Shadows as spec
use Rattle.fam_program.proofs.shadows.tree_in.Goals as goal

pub returns-in-Answered : goal.returns-in-Answered
returns-in-Answered c = c.answered_tree.ensures ∙ ap (λ (n : Note). spec.tree_in (note_view n)) (sym c.in-Answered.is)
