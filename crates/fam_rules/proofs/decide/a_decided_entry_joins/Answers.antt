use Rattle.fam_rules.proofs.DecideProofs.{as_wished, may_append}
use Rattle.fam_rules.proofs.decide.a_decided_entry_joins.Goals as goal

pub returns : goal.returns
returns c = record { wished = as_wished; appended = may_append }
