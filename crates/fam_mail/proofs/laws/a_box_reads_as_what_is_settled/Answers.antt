use Rattle.fam_mail.proofs.Outcomes.{box_told, rest_stays}
use Rattle.fam_mail.proofs.laws.a_box_reads_as_what_is_settled.Goals as goal

pub returns-clause-read : goal.returns-clause-read
returns-clause-read c = box_told

pub returns-clause-others : goal.returns-clause-others
returns-clause-others c = rest_stays
