use Rattle.fam_outcomes.proofs.Causes.{media_cause, sink_cause, source_cause}
use Rattle.fam_outcomes.proofs.laws.a_status_has_its_cause.Goals as goal

pub returns : goal.returns
returns c = record {
  media = λ grammar storms command out given top is. media_cause grammar storms command out given top is;
  source = λ grammar storms command out given top is. source_cause grammar storms command out given top is;
  sink = λ grammar storms command out given top is. sink_cause grammar storms command out given top is;
}
