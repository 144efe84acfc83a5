use Rattle.std.proofs.Common.{rules, sym}
use Rattle.fam_mail.proofs.RecordLines.{right_line}
use Rattle.fam_mail.proofs.record.Record.read.Goals as goal

pub invariant_of-result : goal.invariant_of-result
invariant_of-result c = right_line c.args.words.now (search rules) (sym c.in-None.ensures)
