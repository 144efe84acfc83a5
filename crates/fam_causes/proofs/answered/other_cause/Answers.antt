use Rattle.std.proofs.Common.{Some, sym, subst}
use Rattle.std.specs.Option.{IfSome}
use Rattle.fam_lines.specs.declared.answer.HostAnswer.{HostAnswer}
use Rattle.fam_lines.specs.declared.line.Line.TheVariants as line
use Rattle.fam_causes.specs.Asked.{asked}
use Rattle.fam_causes.specs.Causes.{IsCause}
use Rattle.fam_causes.proofs.answered.other_cause.Goals as goal

pub returns-then-is_some : goal.returns-then-is_some
returns-then-is_some c marks name answers = c.decided_cause-wanted.ensures c.args.given.now marks name answers

pub returns-then-is_some-2 : goal.returns-then-is_some-2
returns-then-is_some-2 c marks name answers = c.damaged_cause-damaged.ensures marks name answers

pub returns-in-Appended : goal.returns-in-Appended
returns-in-Appended c marks name answers =
    subst (λ (a : HostAnswer). IfSome c.acknowledged_cause.result
    (IsCause (asked c.args.given.now c.args.hosts.now c.args.candidates.now.items marks name answers (Some (line.Answered c.args.at a)))))
    (sym c.in-Appended.is) (c.acknowledged_cause.ensures c.args.given.now marks name answers)

pub returns : goal.returns
returns c marks name answers = c.damage_cause.ensures c.args.hosts.now marks name answers
