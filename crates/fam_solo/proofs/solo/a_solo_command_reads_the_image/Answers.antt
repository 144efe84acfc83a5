use Rattle.fam_solo.proofs.Loads.{ran_told, given_told, same_stand}
use Rattle.fam_solo.proofs.solo.a_solo_command_reads_the_image.Goals as goal

pub returns : goal.returns
returns c = record {
  given = λ kept image me cmd cache t words made m normal clean ran. given_told kept cmd me image cache normal clean t words made m ran;
  stands = λ kept image me cmd cache t words made m normal clean ran. ran_told kept cmd me image cache normal clean t words made m ran;
  once = λ kept image me cmd made other s r reply answer stands ends stands_too ends_too. same_stand kept cmd me image made other s r reply answer stands ends stands_too ends_too;
}
