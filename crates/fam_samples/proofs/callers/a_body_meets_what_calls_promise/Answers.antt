use Rattle.fam_samples.proofs.Cutting.{meets_cut}
use Rattle.fam_samples.proofs.Making.{meets_mkfs}
use Rattle.fam_samples.proofs.Stepping.{meets, meets_untold}
use Rattle.fam_samples.proofs.callers.a_body_meets_what_calls_promise.Goals as goal

pub returns : goal.returns
returns c = record {
  step = λ me lines journal image faults. meets me lines journal image faults;
  untold = λ me lines journal faults. meets_untold me lines journal faults;
  mkfs = λ me fs image journal faults is_uuid enough. meets_mkfs me fs is_uuid image enough journal faults;
  cut = λ me fs image journal faults is_uuid enough. meets_cut me fs is_uuid image enough journal faults;
}
