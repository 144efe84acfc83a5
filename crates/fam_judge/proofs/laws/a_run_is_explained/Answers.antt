use Rattle.fam_journal.specs.Ends.{AllDone}
use Rattle.fam_judge.proofs.Ending.{run_explained}
use Rattle.fam_judge.proofs.laws.a_run_is_explained.Goals as goal

pub returns : goal.returns
returns c = record {
  follows = λ start files events journal last image valid asks done. run_explained start files events journal last asks AllDone done valid image;
  ends = λ start files events journal last ending image valid asks done. run_explained start files events journal last asks ending done valid image;
}
