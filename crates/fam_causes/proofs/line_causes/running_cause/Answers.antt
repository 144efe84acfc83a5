use Rattle.std.proofs.Common.{Some, sym, subst}
use Rattle.std.specs.Result.{IfOk}
use Rattle.fam_lines.specs.declared.line.Line.{Line}
use Rattle.fam_causes.specs.Asked.{asked}
use Rattle.fam_causes.specs.Causes.{IsCause}
use Rattle.fam_causes.proofs.line_causes.running_cause.Goals as goal

pub returns-in-Found : goal.returns-in-Found
returns-in-Found c name answers =
    subst (λ (l : Line). IsCause (asked c.args.given.now c.args.hosts.now c.args.candidates.now.items c.args.marks.now name answers (Some l)) c.found_cause.result)
    (sym c.in-Found.is) (c.found_cause.ensures c.args.hosts.now c.args.marks.now name answers)

pub returns-in-Writes : goal.returns-in-Writes
returns-in-Writes c name answers =
    subst (λ (l : Line). IsCause (asked c.args.given.now c.args.hosts.now c.args.candidates.now.items c.args.marks.now name answers (Some l)) c.named_cause.result)
    (sym c.in-Writes.is) (c.named_cause.ensures c.args.given.now c.args.marks.now name answers)

pub returns-in-Answered : goal.returns-in-Answered
returns-in-Answered c name answers =
    subst (λ (l : Line). IfOk c.replied_cause.result (IsCause (asked c.args.given.now c.args.hosts.now c.args.candidates.now.items c.args.marks.now name answers (Some l))))
    (sym c.in-Answered.is) (c.replied_cause.ensures name answers)
