use Rattle.std.proofs.Common.{ap, sym, subst, ◌∙◌}
use Rattle.fam_history.specs.declared.answer.ToldAnswer.TheVariants as told
use Rattle.fam_history.specs.ToldAnswers.{answer_told}
use Rattle.fam_lines.specs.declared.answer.HostAnswer.{HostAnswer}
use Rattle.fam_lines.specs.Lines.{answer_of}
use Rattle.fam_judging.specs.StepLines.{IsStepAnswer}
use Rattle.fam_judging.proofs.ShownAnswers.{named_told}
use Rattle.fam_judging.proofs.replies_told.told_in.Goals as goal

pub returns-in-Checks : goal.returns-in-Checks
returns-in-Checks c =
    ap (told.Checked c.in-Checks.m) (sym (named_told c.in-Checks.checked (subst IsStepAnswer c.in-Checks.is c.requires.answer)))
    ∙ ap (λ (a : HostAnswer). answer_told (answer_of a)) (sym c.in-Checks.is)
