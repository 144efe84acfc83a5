use Rattle.fam_whole.proofs.Shadows.{shadow_image, shadow_text}
use Rattle.fam_whole.proofs.a_shadow_leaves_the_image.Goals as goal

pub returns : goal.returns
returns c = record {
  image = λ me out shade given files start none image sound top told_start told. shadow_image me start files image sound out none top.later told_start told shade given top;
  text = λ me out shade given files start none image sound top told_start told. shadow_text me start files image sound out none top.later told_start told shade given top;
}
