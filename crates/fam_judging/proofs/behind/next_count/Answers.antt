use Rattle.std.proofs.Common.{ap, sym, subst, ◌∙◌, Some, ℕ}
use Rattle.fam_judging.specs.declared.candidate.Settled.{Settled}
use Rattle.fam_judging.specs.Candidates.{settled_state}
use Rattle.fam_judging.specs.Going.{HasGiven}
use Rattle.fam_judging.specs.Pushing.{IsMore}
use Rattle.fam_judging.proofs.FirstCounts.{more_given, more_next}
use Rattle.fam_judging.proofs.behind.next_count.Goals as goal

pub returns-in-Log : goal.returns-in-Log
returns-in-Log c start given m has more =
    let r = more_next c.in-Log.log m (subst (λ (s : Settled). IsMore m (settled_state start s)) c.in-Log.is more) in
    c.log_next.ensures r.0 ∙ ap (λ (n : ℕ). Some n) (sym r.1)

pub returns-in-Given : goal.returns-in-Given
returns-in-Given c start given m has more =
    absurd (more_given start given m (subst (λ (s : Settled). HasGiven start given s) c.in-Given.is has) (subst (λ (s : Settled). IsMore m (settled_state start s)) c.in-Given.is more))

pub returns-in-Halted : goal.returns-in-Halted
returns-in-Halted c start given m has more = absurd ((subst (λ (s : Settled). IsMore m (settled_state start s)) c.in-Halted.is more).sound)
