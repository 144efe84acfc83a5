use Rattle.fam_script.specs.Reports.{files_text, units_text}
use Rattle.fam_script.proofs.TextLemmas.{OnOk-more, two_lines}
use Rattle.fam_script.proofs.reports.put_counts.Goals as goal

pub returns : goal.returns
returns c = OnOk-more c.put_line-2.result
    (λ e. two_lines c.args.into.now.items c.put_line.new.into.items c.put_line-2.new.into.items (files_text c.args.report.now)
    (units_text c.args.report.now) (c.in_ok-put_line.ensures _ c.files_text.ensures) e) (c.put_line-2.ensures _ c.units_text.ensures)
