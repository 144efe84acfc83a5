use Rattle.std.proofs.Common.{sym, subst, Option}
use Rattle.std.specs.Result.{IfOk}
use Rattle.fam_lines.specs.declared.line.Line.{Line}
use Rattle.fam_causes.specs.Asked.{asked}
use Rattle.fam_causes.specs.Causes.{IsCause}
use Rattle.fam_causes.proofs.line_causes.cause.Goals as goal

pub returns-in-Some : goal.returns-in-Some
returns-in-Some c =
    subst (λ (l : Option Line). IfOk c.line_cause.result (IsCause (asked c.args.given.now c.args.hosts.now c.args.candidates.now.items c.args.marks.now c.args.name.now c.args.answers l)))
    (sym c.in-Some.is) (c.line_cause.ensures c.args.answers)

pub returns-in-None : goal.returns-in-None
returns-in-None c =
    subst (λ (l : Option Line). IsCause (asked c.args.given.now c.args.hosts.now c.args.candidates.now.items c.args.marks.now c.args.name.now c.args.answers l) c.text_cause.result)
    (sym c.in-None.is) (c.text_cause.ensures c.args.given.now c.args.candidates.now.items c.args.marks.now)
