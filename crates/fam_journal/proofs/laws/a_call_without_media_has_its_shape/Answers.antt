use Rattle.fam_journal.proofs.Shapes.WithoutMedia.{solo_shape}
use Rattle.fam_journal.proofs.laws.a_call_without_media_has_its_shape.Goals as goal

pub returns : goal.returns
returns c = λ lines world call is takes. solo_shape lines world is call takes
