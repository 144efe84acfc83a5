use Rattle.fam_solo.proofs.SoloLaws.{reader_failed, reader_image}
use Rattle.fam_solo.proofs.solo.a_reader_leaves_the_image.Goals as goal

pub returns : goal.returns
returns c = record {
  image = λ kept image me cmd cache t words made m normal clean joined none ran. reader_image kept joined image me cmd cache t words made m normal clean none ran;
  failure = λ kept image me cmd cache t words made m through failure normal clean joined none ran is.
      reader_failed kept joined image me cmd cache t words made m normal clean none ran through failure is;
}
