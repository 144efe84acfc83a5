use Rattle.fam_journal.proofs.Shapes.ShapeLaws.{end_shape, run_shape}
use Rattle.fam_journal.proofs.laws.a_run_has_its_shape.Goals as goal

pub returns : goal.returns
returns c = record {
  follows = λ files events image journal last x. run_shape files events image journal last x;
  ends = λ files events image journal last ending x. end_shape files events image journal last ending x;
}
