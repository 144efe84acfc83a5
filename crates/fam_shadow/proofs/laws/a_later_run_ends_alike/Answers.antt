use Rattle.fam_shadow.proofs.Later.{ends_alike}
use Rattle.fam_shadow.proofs.laws.a_later_run_ends_alike.Goals as goal

pub returns : goal.returns
returns c = ends_alike
