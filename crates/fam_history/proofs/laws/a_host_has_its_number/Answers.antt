use Rattle.fam_history.proofs.HostNumbers.{number_is}
use Rattle.fam_history.proofs.laws.a_host_has_its_number.Goals as goal

pub returns : goal.returns
returns c = number_is
