use Rattle.fam_solo.proofs.Machine.{ran_stands, ran_steps}
use Rattle.fam_solo.proofs.solo.the_operations_of_a_solo_command_are_counted.Goals as goal

pub returns : goal.returns
returns c = record {
  stands = λ kept image me cmd cache t words made m ran. ran_stands kept cmd me image cache t words made m ran;
  count = λ kept image me cmd cache t words made m reply joined ran is. ran_steps kept cmd me image cache joined t words made m reply ran is;
}
