use Rattle.fam_protocol.proofs.Hosts.Begins.{begins_with}
use Rattle.fam_protocol.proofs.Hosts.Resting.{rests_settled}
use Rattle.fam_protocol.proofs.run.an_image_at_rest_begins_a_run.Goals as goal

pub returns : goal.returns
returns c = record {
  again = λ image hosts copy limit rests keep. begins_with image limit hosts copy rests keep;
  told = λ image hosts copy p all limit rests invariant. rests_settled image hosts copy p all limit rests invariant;
}
