use Rattle.std.proofs.Common.{◌≡◌, sym, ap, subst, ◌∙◌}
use Rattle.std.specs.Result.{OnOk}
use Rattle.fam_journal.specs.Past.{state_after}
use Rattle.fam_lines.specs.declared.line.Line.{Line}
use Rattle.fam_lines.specs.Lines.{note_of_line}
use Rattle.fam_judging.specs.Candidates.{settled_state}
use Rattle.fam_judging.proofs.plain.settle.Goals as goal

pub returns-in-Made-clause-settled : goal.returns-in-Made-clause-settled
returns-in-Made-clause-settled c start past is =
    subst (λ (l : Line). OnOk c.make.result (settled_state start c.make.new.settled ≡ state_after past (note_of_line l))) (sym c.in-Made.is) (c.make.ensures.made start past c.in-Made.field-0)

pub returns-in-Cut-clause-settled : goal.returns-in-Cut-clause-settled
returns-in-Cut-clause-settled c start past is = c.cut.ensures.cut start past c.in-Cut.field-0 is ∙ ap (λ (l : Line). state_after past (note_of_line l)) (sym c.in-Cut.is)
