use Rattle.fam_opening.proofs.Damaged.{given_header}
use Rattle.fam_opening.proofs.damage.bad_header.Goals as goal

pub returns : goal.returns
returns c = λ image enough told reads counts.
    given_header image c.args.params.now told c.args.fault c.args.gate c.log_report.result enough reads counts c.log_report.ensures
