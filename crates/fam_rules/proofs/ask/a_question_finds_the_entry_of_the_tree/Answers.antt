use Rattle.fam_rules.proofs.AskProofs.{file_in_tree}
use Rattle.fam_rules.proofs.ask.a_question_finds_the_entry_of_the_tree.Goals as goal

pub returns : goal.returns
returns c = file_in_tree
