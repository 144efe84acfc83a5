use Rattle.fam_judge.proofs.Ending.{run_listed, run_sound}
use Rattle.fam_judge.proofs.laws.commands_that_begin_are_sound.Goals as goal

pub returns : goal.returns
returns c = record {
  sound = λ files events image journal last ending asks done. run_sound image files events journal last asks ending done;
  listed = λ files events image journal last ending asks done. run_listed image files events journal last asks ending done;
}
