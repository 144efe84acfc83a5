use Rattle.fam_opening.proofs.Damaged.{given_super}
use Rattle.fam_opening.proofs.damage.bad_superblock.Goals as goal

pub returns : goal.returns
returns c = λ image enough damaged counts. given_super image c.args.fault damaged c.args.gate c.super_report.result enough counts c.super_report.ensures
