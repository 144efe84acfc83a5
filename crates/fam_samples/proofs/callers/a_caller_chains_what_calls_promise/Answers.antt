use Rattle.fam_samples.proofs.Chained.{cut, done, out_of_memory}
use Rattle.fam_samples.proofs.callers.a_caller_chains_what_calls_promise.Goals as goal

pub returns : goal.returns
returns c = record {
  done = λ start files w image t. done start files w image t;
  cut = λ start files w image t. cut start files w image t;
  out_of_memory = λ start files w image t. out_of_memory start files w image t;
}
