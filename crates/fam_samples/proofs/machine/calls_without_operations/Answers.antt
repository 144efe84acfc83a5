use Rattle.std.proofs.Common.{refl, inl, inr, false, [], codes, None}
use Rattle.fam_journal.specs.Calls.{MayBeRefused}
use Rattle.fam_journal.specs.declared.refusal.Refusal.TheVariants as why
use Rattle.fam_samples.specs.Scene.{one_host}
use Rattle.fam_journal.specs.Calls.{refusal_of}
use Rattle.fam_samples.proofs.machine.calls_without_operations.Goals as goal

pub returns-clause-host : goal.returns-clause-host
unfolding refusal_of
returns-clause-host c = (refl, refl)

pub returns-clause-refused_host : goal.returns-clause-refused_host
unfolding refusal_of
returns-clause-refused_host c = (refl, refl)

pub returns-clause-begin : goal.returns-clause-begin
unfolding refusal_of
returns-clause-begin c = λ image many. rw many (refl, refl)

pub returns-clause-begin_is_not_refused : goal.returns-clause-begin_is_not_refused
unfolding refusal_of
returns-clause-begin_is_not_refused c = λ image many. rw many (λ does. absurd cc)

pub returns-clause-stop : goal.returns-clause-stop
unfolding refusal_of
returns-clause-stop c = λ image. (refl, refl)

pub returns-clause-halt : goal.returns-clause-halt
unfolding refusal_of
returns-clause-halt c = λ image. (refl, refl)

pub returns-clause-refuse : goal.returns-clause-refuse
unfolding refusal_of
returns-clause-refuse c = λ image. (refl, refl, inl tt)

pub returns-clause-refuse_of_a_small_image : goal.returns-clause-refuse_of_a_small_image
unfolding refusal_of
returns-clause-refuse_of_a_small_image c = (refl, refl, inr (false, refl))

pub returns-clause-refuse_needs_a_cause : goal.returns-clause-refuse_needs_a_cause
unfolding refusal_of
returns-clause-refuse_needs_a_cause c = λ does. by_cause does.2
  where
    by_cause : MayBeRefused (codes "m") why.Idle (one_host [] None) → ⊥
    by_cause (inl is) = is
    by_cause (inr (mount, is)) = absurd cc

pub returns-clause-umount : goal.returns-clause-umount
unfolding refusal_of
returns-clause-umount c = λ image. (refl, refl)
