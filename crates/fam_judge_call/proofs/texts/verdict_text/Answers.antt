use Rattle.std.proofs.Common.{◌≡◌, ◌++◌, codes, subst, sym}
use Rattle.std.specs.Prelude.{IfOk}
use Rattle.fam_outcomes.specs.Texts.{number}
use Rattle.fam_verdict.specs.declared.verdict.Verdict.{Verdict}
use Rattle.fam_judge_call.specs.Texts.{verdict_text}
use Rattle.fam_judge_call.proofs.texts.verdict_text.Goals as goal

pub returns-in-BadLine : goal.returns-in-BadLine
returns-in-BadLine c =
    subst (λ (v : Verdict). IfOk c.line_of.result (λ bytes. bytes.items ≡ verdict_text v)) (sym c.in-BadLine.is)
    (c.line_of.ensures (codes "bad line" ++ number c.in-BadLine.line ++ number c.in-BadLine.column) c.format.ensures.ok)
