use Rattle.fam_mail.proofs.MovedOn.{failed_on, moved_on}
use Rattle.fam_mail.proofs.Outcomes.{declared_stands, halted, noted_stands, started, stopped}
use Rattle.fam_mail.proofs.laws.a_world_stands_behind_its_calls.Goals as goal

pub returns-clause-host : goal.returns-clause-host
returns-clause-host c = declared_stands

pub returns-clause-refused : goal.returns-clause-refused
returns-clause-refused c = noted_stands

pub returns-clause-begin : goal.returns-clause-begin
returns-clause-begin c = started

pub returns-clause-stop : goal.returns-clause-stop
returns-clause-stop c = stopped

pub returns-clause-halt : goal.returns-clause-halt
returns-clause-halt c = halted

pub returns-clause-moved : goal.returns-clause-moved
returns-clause-moved c = moved_on

pub returns-clause-failed : goal.returns-clause-failed
returns-clause-failed c = failed_on
