use Rattle.fam_dup.proofs.Following.{copies_follow}
use Rattle.fam_dup.proofs.Whole.{whole_copy}
use Rattle.fam_dup.proofs.laws.a_whole_copy_is_read.Goals as goal

pub returns : goal.returns
returns c = λ p q from to entries copies sound fits log is.
    let so = copies_follow p q entries sound log copies is in
    whole_copy q entries copies from to sound fits so.history so.are
