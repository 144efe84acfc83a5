use Rattle.fam_solo.proofs.Machine.{ran_failed, ran_looks}
use Rattle.fam_solo.proofs.solo.an_append_leaves_the_image_up_to_its_first_store.Goals as goal

pub returns : goal.returns
returns c = record {
  image = λ kept image me cmd cache t words made m normal clean ran before. (ran_looks kept cmd me image cache normal clean t words made m ran before).image_is;
  failure = λ kept image me cmd cache t words made m through failure normal clean ran before is. ran_failed kept cmd me image cache normal clean t words made m ran before through failure is;
}
