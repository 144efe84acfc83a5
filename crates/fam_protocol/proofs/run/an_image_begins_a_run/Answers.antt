use Rattle.fam_protocol.proofs.Hosts.Begins.{begins}
use Rattle.fam_protocol.proofs.run.an_image_begins_a_run.Goals as goal

pub returns : goal.returns
returns c = λ image limit. begins image limit
