use Rattle.fam_base.proofs.ImageLemmas.{with_masked-none, with_masked-all}
use Rattle.fam_base.proofs.image.mask_of_none_or_all.Goals as goal

pub returns-clause-none : goal.returns-clause-none
returns-clause-none c = λ image at words normal. with_masked-none image normal at words

pub returns-clause-all : goal.returns-clause-all
returns-clause-all c = with_masked-all
