use Rattle.fam_machine.proofs.Failing.{failed_line, failed_cache}
use Rattle.fam_machine.proofs.failures.an_operation_fails_at_its_line.Goals as goal

pub returns : goal.returns
returns c = record { line = failed_line; cache = failed_cache }
