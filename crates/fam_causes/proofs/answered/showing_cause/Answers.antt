use Rattle.std.proofs.Common.{Some}
use Rattle.fam_lines.specs.declared.line.Line.TheVariants as line
use Rattle.fam_causes.specs.Asked.{asked}
use Rattle.fam_causes.proofs.answered.showing_cause.Goals as goal

pub returns : goal.returns
returns c name answers =
    c.other.ensures (asked c.args.given.now c.args.hosts.now c.args.candidates.now.items c.args.marks.now name answers (Some (line.Answered c.args.at c.args.answer.now)))
    (c.in_ok-found.ensures c.args.given.now c.args.marks.now name answers)
