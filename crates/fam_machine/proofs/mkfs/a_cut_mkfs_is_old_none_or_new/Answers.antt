use Rattle.fam_machine.proofs.CutMkfs.{cut_is}
use Rattle.fam_machine.proofs.mkfs.a_cut_mkfs_is_old_none_or_new.Goals as goal

pub returns : goal.returns
returns c = λ p m left force halt line sound enough fits normal whole head cut. cut_is p m line left sound enough fits normal whole head force halt cut
