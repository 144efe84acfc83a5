use Rattle.std.proofs.Common.{arith}
use Rattle.std.proofs.lemmas.Bool.{eq-eqb}
use Rattle.fam_program.proofs.Scripts.FirstLines.{cut_at, cut_none}
use Rattle.fam_program.proofs.line_by_line.cut_line.Goals as goal

pub returns-then-byte-eq10-clause-cut : goal.returns-then-byte-eq10-clause-cut
returns-then-byte-eq10-clause-cut c = cut_at c.args.script.now c.loop-i.i c.loop-i-test.true c.loop-i.invariant (eq-eqb _ 10 c.if-byte-eq10.true)

pub returns-clause-cut : goal.returns-clause-cut
returns-clause-cut c = cut_none c.args.script.now c.loop-i.i (let past = c.loop-i-test.false in let within = c.loop-i.auto.i-end in omega (arith, past, within)) c.loop-i.invariant
