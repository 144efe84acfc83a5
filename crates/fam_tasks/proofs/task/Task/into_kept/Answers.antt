use Rattle.std.proofs.Common.{None, refl, sym, ◌∙◌}
use Rattle.fam_tasks.proofs.KeptAnew.{kept_anew}
use Rattle.fam_tasks.proofs.task.Task.into_kept.Goals as goal

pub returns-then-not-is_keeping-clause-anew : goal.returns-then-not-is_keeping-clause-anew
returns-then-not-is_keeping-clause-anew c = λ t word reply ends keeps leaves is.
    kept_anew t c.args.self word reply c.args.answer.now None ends keeps leaves is (λ keeping. absurd (let other = sym c.is_keeping.ensures ∙ c.if-not-is_keeping.true in cc)) (λ other. refl)

pub returns-clause-anew : goal.returns-clause-anew
returns-clause-anew c = λ t word reply ends keeps leaves is.
    kept_anew t c.args.self word reply c.args.answer.now c.into_all_kept.result ends keeps leaves is (λ keeping. c.into_all_kept.ensures)
    (λ other. absurd (let keeping = sym c.is_keeping.ensures ∙ c.if-not-is_keeping.false in cc))
