use Rattle.fam_format.proofs.SuperLawsProofs.{read_spelled}
use Rattle.fam_format.proofs.super_laws.superblock_is_spelled.Goals as goal

pub returns : goal.returns
returns c = read_spelled
