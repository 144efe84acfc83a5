use Rattle.std.proofs.Common.{refl}
use Rattle.fam_journal.specs.Calls.{refusal_of}
use Rattle.fam_samples.proofs.machine.refusals_in_order.Goals as goal

pub returns-clause-same_name : goal.returns-clause-same_name
unfolding refusal_of
returns-clause-same_name c = refl

pub returns-clause-same_uuid : goal.returns-clause-same_uuid
unfolding refusal_of
returns-clause-same_uuid c = refl

pub returns-clause-another : goal.returns-clause-another
unfolding refusal_of
returns-clause-another c = refl

pub returns-clause-no_maker : goal.returns-clause-no_maker
unfolding refusal_of
returns-clause-no_maker c = refl

pub returns-clause-geometry : goal.returns-clause-geometry
unfolding refusal_of
returns-clause-geometry c = refl

pub returns-clause-small : goal.returns-clause-small
unfolding refusal_of
returns-clause-small c = refl

pub returns-clause-no_host : goal.returns-clause-no_host
unfolding refusal_of
returns-clause-no_host c = refl

pub returns-clause-no_gate : goal.returns-clause-no_gate
unfolding refusal_of
returns-clause-no_gate c = refl

pub returns-clause-idle_step : goal.returns-clause-idle_step
unfolding refusal_of
returns-clause-idle_step c = refl

pub returns-clause-busy_step : goal.returns-clause-busy_step
unfolding refusal_of
returns-clause-busy_step c = refl

pub returns-clause-idle_finish : goal.returns-clause-idle_finish
unfolding refusal_of
returns-clause-idle_finish c = refl

pub returns-clause-idle_stop : goal.returns-clause-idle_stop
unfolding refusal_of
returns-clause-idle_stop c = refl

pub returns-clause-idle_halt : goal.returns-clause-idle_halt
unfolding refusal_of
returns-clause-idle_halt c = refl

pub returns-clause-busy_umount : goal.returns-clause-busy_umount
unfolding refusal_of
returns-clause-busy_umount c = refl

pub returns-clause-bare_umount : goal.returns-clause-bare_umount
unfolding refusal_of
returns-clause-bare_umount c = refl

pub returns-clause-umount : goal.returns-clause-umount
unfolding refusal_of
returns-clause-umount c = refl

pub returns-clause-second_mount : goal.returns-clause-second_mount
unfolding refusal_of
returns-clause-second_mount c = λ image enough. rw enough refl

pub returns-clause-logplay_of_a_mounted_host : goal.returns-clause-logplay_of_a_mounted_host
unfolding refusal_of
returns-clause-logplay_of_a_mounted_host c = λ image enough. rw enough refl

pub returns-clause-no_line : goal.returns-clause-no_line
unfolding refusal_of
returns-clause-no_line c = refl

pub returns-clause-a_line : goal.returns-clause-a_line
unfolding refusal_of
returns-clause-a_line c = refl
