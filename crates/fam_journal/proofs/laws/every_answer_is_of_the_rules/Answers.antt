use Rattle.fam_journal.proofs.Runs.Completing.{all_ruled, run_ends}
use Rattle.fam_journal.proofs.Runs.Ending.{can_end}
use Rattle.fam_journal.proofs.laws.every_answer_is_of_the_rules.Goals as goal

pub returns : goal.returns
returns c = record {
  ruled = λ start files events journal last image sound follows. all_ruled start files events image sound journal last follows;
  can = λ start state journal host kept busy. can_end host start state journal kept busy;
  ends = λ files name what old new notes goes clean. run_ends files name what old new notes goes clean;
}
