use Rattle.fam_format.proofs.SuperLawsProofs.{unique_spelling}
use Rattle.fam_format.proofs.super_laws.superblock_is_unique.Goals as goal

pub returns : goal.returns
returns c = unique_spelling
