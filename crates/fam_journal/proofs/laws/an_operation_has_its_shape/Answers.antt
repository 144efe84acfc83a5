use Rattle.fam_journal.proofs.Shapes.Views.{step_shaped, world_shaped}
use Rattle.fam_journal.proofs.laws.an_operation_has_its_shape.Goals as goal

pub returns : goal.returns
returns c = record {
  shape = λ lines world name h view t word is number view_is runs free. step_shaped world is h view view_is t runs word view.cache lines name number free;
  world = λ world h view t word cache is view_is runs. world_shaped world is h view view_is t runs word cache;
}
