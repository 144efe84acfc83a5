use Rattle.fam_format.proofs.SuperLawsProofs.{read_spelling}
use Rattle.fam_format.proofs.super_laws.superblock_is_read.Goals as goal

pub returns : goal.returns
returns c = λ p have sound fits. read_spelling p sound have fits
