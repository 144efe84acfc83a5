use Rattle.std.proofs.Common.{Some, sym, subst}
use Rattle.std.specs.Option.{IfSome}
use Rattle.std.specs.Result.{IfOk}
use Rattle.fam_lines.specs.declared.answer.HostAnswer.{HostAnswer}
use Rattle.fam_lines.specs.declared.line.Line.TheVariants as line
use Rattle.fam_causes.specs.Asked.{asked}
use Rattle.fam_causes.specs.Causes.{IsCause}
use Rattle.fam_causes.proofs.answered.content_cause.Goals as goal

pub returns-in-Played : goal.returns-in-Played
returns-in-Played c given marks name answers =
    subst (λ (a : HostAnswer). IfOk c.tree_cause.result (λ found. IfSome found
    (IsCause (asked given c.args.hosts.now c.args.candidates.now.items marks name answers (Some (line.Answered c.args.at a))))))
    (sym c.in-Played.is) (c.tree_cause.ensures given c.args.hosts.now marks name answers)
