use Rattle.std.proofs.Common.{◌≡◌, ◌∙◌, ℕ, List, Result, Ok, Err, ap}
use Rattle.std.specs.Prelude.{IfOk}
use Rattle.fam_journal.specs.Notes.{Note}
use Rattle.fam_outcomes.specs.Programs.{storm_line}
use Rattle.fam_outcomes.specs.Texts.{line}
use Rattle.fam_script.specs.StormLines.{storm_text}
use Rattle.fam_script.proofs.StormTexts.{storm_line_is}
use Rattle.fam_notes.specs.Notes.{notes_view}
use Rattle.fam_program.proofs.storms.summary.Goals as goal

-- what a line is holds of it under another name
same_line : {A E : Type 0} (items : A → List ℕ) (made : Result A E) (a b : List ℕ) → a ≡ b → IfOk made (λ x. items x ≡ a) → IfOk made (λ x. items x ≡ b)
same_line items (Ok x) a b same is = is ∙ same
same_line items (Err e) a b same is = tt

pub returns : goal.returns
returns c = λ all is.
    let seen : List Note = notes_view c.journal-notes.result.now in
    same_line (λ v. v.items) c.storm_line.result (line (storm_text c.args.seed c.args.size c.args.events c.count_notes-counts.result c.in_ok-crc.crc))
    (storm_line c.args.seed c.args.size all c.args.world.now.journal)
    (ap (λ (n : ℕ). line (storm_text c.args.seed c.args.size n c.count_notes-counts.result c.in_ok-crc.crc)) is
    ∙ storm_line_is c.args.seed c.args.size all seen c.count_notes-counts.result c.in_ok-crc.crc c.count_notes-counts.ensures.answers
    c.count_notes-counts.ensures.refused c.count_notes-counts.ensures.settled c.in_ok-crc.ensures
    ∙ ap (storm_line c.args.seed c.args.size all) c.journal-notes.ensures)
    c.storm_line.ensures
