use Rattle.fam_opening.proofs.Damaged.{given_slot}
use Rattle.fam_opening.proofs.damage.bad_slot.Goals as goal

pub returns : goal.returns
returns c = λ image enough told reads counts is. given_slot image c.args.params.now told c.args.seq c.args.reason c.args.gate c.args.report enough reads counts is
