use Rattle.fam_records.specs.Histories.{lines_left}
use Rattle.fam_records.proofs.NextLeft.{begins}
use Rattle.fam_records.proofs.records.Records.next_record.Goals as goal

pub returns-clause-value : goal.returns-clause-value
returns-clause-value c = begins (lines_left c.args.self.now) (lines_left c.read.new.self) c.read.result c.read.ensures.value
