use Rattle.fam_entry.proofs.Found.{test_proper, test_reads}
use Rattle.fam_entry.proofs.reading.check_entry.Goals as goal

pub returns-clause-value : goal.returns-clause-value
returns-clause-value c = test_reads c.args.params.now c.args.words.now c.args.seq c.check.result c.check.ensures.value

pub returns-clause-proper : goal.returns-clause-proper
returns-clause-proper c = test_proper c.args.params.now c.args.words.now c.args.seq c.check.result c.check.ensures.value
