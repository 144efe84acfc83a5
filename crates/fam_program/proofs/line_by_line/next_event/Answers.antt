use Rattle.std.proofs.Common.{subst}
use Rattle.fam_grammar.specs.Scripts.{IsBadLine, line_reads}
use Rattle.fam_program.proofs.Scripts.FirstLines.{first_ok, not_bad, starts}
use Rattle.fam_program.proofs.line_by_line.next_event.Goals as goal

pub unreachable-requires : goal.unreachable-requires
unreachable-requires c =
    not_bad (line_reads c.cut_line.result.0.now) c.in-Err-BadLine.field-0-1 (first_ok c.args.script.now c.cut_line.result.0.now c.cut_line.result.1.now c.cut_line.ensures.cut c.requires.good)
    (subst (IsBadLine 1 (line_reads c.cut_line.result.0.now)) c.in-Err-BadLine.field-0-is c.in-Err-BadLine.ensures.bad).1

pub returns-in-Ok-clause-starts : goal.returns-in-Ok-clause-starts
returns-in-Ok-clause-starts c =
    starts c.args.script.now c.cut_line.result.0.now c.cut_line.result.1.now c.cut_line.ensures.cut c.requires.good c.in-Ok.event c.in-Ok.ensures.value
