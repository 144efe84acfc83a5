use Rattle.fam_mail.proofs.Readying.{begin_ready, declared_ready, failed_ready, finished_ready, first_ready, halt_ready, moved_ready, noted_ready, operated_ready, stays_ready, stop_ready}
use Rattle.fam_mail.proofs.laws.a_world_is_ready_behind_its_calls.Goals as goal

pub returns-clause-first : goal.returns-clause-first
returns-clause-first c = first_ready

pub returns-clause-refused : goal.returns-clause-refused
returns-clause-refused c = noted_ready

pub returns-clause-host : goal.returns-clause-host
returns-clause-host c = declared_ready

pub returns-clause-begin : goal.returns-clause-begin
returns-clause-begin c = begin_ready

pub returns-clause-stop : goal.returns-clause-stop
returns-clause-stop c = stop_ready

pub returns-clause-halt : goal.returns-clause-halt
returns-clause-halt c = halt_ready

pub returns-clause-operated : goal.returns-clause-operated
returns-clause-operated c = operated_ready

pub returns-clause-finished : goal.returns-clause-finished
returns-clause-finished c = finished_ready

pub returns-clause-stays : goal.returns-clause-stays
returns-clause-stays c = stays_ready

pub returns-clause-moved : goal.returns-clause-moved
returns-clause-moved c = moved_ready

pub returns-clause-failed : goal.returns-clause-failed
returns-clause-failed c = failed_ready
