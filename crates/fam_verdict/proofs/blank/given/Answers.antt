use Rattle.fam_verdict.proofs.Zeros.{given_blank}
use Rattle.fam_verdict.proofs.blank.given.Goals as goal

pub returns : goal.returns
returns c = rw (c.damage_of.ensures, c.report.ensures) (given_blank c.args.lines)
