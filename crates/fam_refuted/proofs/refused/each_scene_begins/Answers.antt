use Rattle.fam_refuted.specs.Refused.{next}
use Rattle.fam_refuted.proofs.Scenes.{no_spelling, scene_history, scene_table, scene_invariant, some_scene}
use Rattle.fam_refuted.proofs.refused.each_scene_begins.Goals as goal

pub returns : goal.returns
returns c = record {
  some = some_scene;
  other = λ scene fits differ. no_spelling scene.image scene.params (next scene) scene.entry fits differ;
  invariant = scene_invariant;
  history = scene_history;
  table = scene_table;
}
