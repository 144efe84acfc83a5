use Rattle.fam_journal.proofs.Calls.OwnSteps.{own_step}
use Rattle.fam_journal.proofs.laws.an_operation_does_its_row.Goals as goal

pub returns : goal.returns
returns c = λ state world name h view t stands number view_is runs. own_step state world stands name h number view view_is t runs
