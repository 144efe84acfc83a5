use Rattle.fam_solo.proofs.SoloLaws.{solo}
use Rattle.fam_solo.proofs.solo.a_solo_command_answers_by_the_image.Goals as goal

pub returns : goal.returns
returns c = record {
  reply = λ kept image me cmd cache t words made m reply enough limit normal clean command joined front ran inside is.
      (solo kept joined image me cmd cache t words made m reply enough limit normal clean command front ran inside is).0.answer;
  left = λ kept image me cmd cache t words made m reply enough limit normal clean command joined front ran inside is.
      (solo kept joined image me cmd cache t words made m reply enough limit normal clean command front ran inside is).0.left_is;
  sent = λ kept image me cmd cache t words made m reply enough limit normal clean command joined front ran inside is.
      (solo kept joined image me cmd cache t words made m reply enough limit normal clean command front ran inside is).1;
  settled = λ kept image me cmd cache t words made m reply enough limit normal clean command joined front ran inside is.
      (solo kept joined image me cmd cache t words made m reply enough limit normal clean command front ran inside is).2;
}
