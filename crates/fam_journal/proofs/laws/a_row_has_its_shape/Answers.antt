use Rattle.fam_journal.proofs.Shapes.ShapeLaws.{cut_shape, part_shape, row_shape, state_shaped}
use Rattle.fam_journal.proofs.laws.a_row_has_its_shape.Goals as goal

pub returns : goal.returns
returns c = record {
  does = λ lines state left hosts notes call shaped x. row_shape lines state left hosts notes shaped call x;
  cut = λ lines state left hosts notes call shaped x. cut_shape lines state left hosts notes shaped call x;
  part = λ lines state left hosts notes call shaped x. part_shape lines state left hosts notes shaped call x;
  world = λ state world stands is. state_shaped state world stands is;
}
