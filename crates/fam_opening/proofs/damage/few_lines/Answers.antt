use Rattle.std.proofs.Common.{ℕ, ◌*◌, ap, ◌∙◌}
use Rattle.fam_base.specs.Image.{line_at}
use Rattle.fam_format.specs.Reading.{super_in}
use Rattle.fam_rules.specs.Place.{line_bytes}
use Rattle.fam_opening.proofs.Damaged.{given_few}
use Rattle.fam_opening.proofs.damage.few_lines.Goals as goal

pub returns : goal.returns
returns c = λ image count damaged.
    given_few image c.args.fault (ap (λ (n : ℕ). super_in (line_at image) (line_bytes * n)) count ∙ damaged) c.args.lines c.super_report.result c.requires count c.super_report.ensures
