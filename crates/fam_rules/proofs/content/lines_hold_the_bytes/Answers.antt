use Rattle.fam_rules.proofs.ContentLines.{byte_of_line, line_by_bytes}
use Rattle.fam_rules.proofs.content.lines_hold_the_bytes.Goals as goal

pub returns-clause-each : goal.returns-clause-each
returns-clause-each c = byte_of_line

pub returns-clause-only : goal.returns-clause-only
returns-clause-only c = line_by_bytes
