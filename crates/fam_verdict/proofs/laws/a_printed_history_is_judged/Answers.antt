use Rattle.fam_verdict.proofs.Printed.{is_legal}
use Rattle.fam_verdict.proofs.laws.a_printed_history_is_judged.Goals as goal

pub returns : goal.returns
returns c = λ start journal verdict are is says. is_legal start journal verdict are is says
