use Rattle.fam_base.proofs.ImageLemmas.{normal-with_line, normal-with_masked}
use Rattle.fam_base.proofs.image.writes_keep_the_form.Goals as goal

pub returns-clause-whole : goal.returns-clause-whole
returns-clause-whole c = λ image at words normal. normal-with_line image normal at words

pub returns-clause-torn : goal.returns-clause-torn
returns-clause-torn c = λ image at words mask normal. normal-with_masked image normal at words mask
