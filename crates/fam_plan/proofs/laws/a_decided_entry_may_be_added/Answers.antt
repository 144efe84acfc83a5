use Rattle.fam_plan.proofs.Decisions.{decided_added}
use Rattle.fam_plan.proofs.laws.a_decided_entry_may_be_added.Goals as goal

pub returns : goal.returns
returns c = decided_added
