use Rattle.fam_rules.proofs.RefusalProofs.{refused_for, refused_there}
use Rattle.fam_rules.proofs.decide.the_first_cause_refuses.Goals as goal

pub returns : goal.returns
returns c = λ p me list w refused. (refused_for p me list w refused, refused_there p me list w refused)
