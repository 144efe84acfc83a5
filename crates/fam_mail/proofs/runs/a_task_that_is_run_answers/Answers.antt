use Rattle.fam_mail.proofs.RunLaws.{finish_answers, run_answers}
use Rattle.fam_mail.proofs.runs.a_task_that_is_run_answers.Goals as goal

pub returns-clause-finish : goal.returns-clause-finish
returns-clause-finish c = λ entry start records m journal name notes left held does quiet. finish_answers entry start records m journal held name notes left quiet does

pub returns-clause-run : goal.returns-clause-run
returns-clause-run c = λ entry start records m journal name ask notes left held proper does quiet. run_answers entry start records m journal held name notes left quiet ask proper does
