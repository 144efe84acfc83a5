use Rattle.fam_outcomes.proofs.Faultless.{run_complete, script_is_run, storm_is_run}
use Rattle.fam_outcomes.proofs.laws.a_run_without_faults_is_complete.Goals as goal

pub returns : goal.returns
returns c = record {
  run = λ out ending journal files events start none image sound counted caused on. run_complete out none journal counted ending files events start out.media.new.image image sound caused on;
  script = λ grammar storms out given name files bytes events none top told holds within reads. script_is_run out none grammar storms given name files bytes events told holds within reads top;
  storm = λ grammar storms out given seed size none top. storm_is_run out none grammar storms given seed size top;
}
