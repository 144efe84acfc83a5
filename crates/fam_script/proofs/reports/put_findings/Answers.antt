use Rattle.std.proofs.Common.{codes, ◌++◌, ◌∙◌, List, ℕ, ap}
use Rattle.fam_outcomes.specs.Texts as text
use Rattle.fam_script.proofs.TextLemmas.{OnOk-more, two_lines}
use Rattle.fam_script.proofs.reports.put_findings.Goals as goal

pub returns : goal.returns
returns c = OnOk-more c.put_line-3.result
    (λ e. e ∙ ap (λ (l : List ℕ). l ++ text.line (codes "past gate" ++ text.number c.args.report.now.past))
    (two_lines _ _ _ _ _ (c.in_ok-put_line.ensures _ c.overlap_text.ensures) (c.in_ok-put_line-2.ensures _ c.bad_text.ensures)))
    (c.put_line-3.ensures _ c.format.ensures.ok)
