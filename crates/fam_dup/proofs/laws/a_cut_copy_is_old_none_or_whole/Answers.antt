use Rattle.fam_dup.proofs.Cutting.{cut_reads}
use Rattle.fam_dup.proofs.Following.{copies_follow}
use Rattle.fam_dup.proofs.laws.a_cut_copy_is_old_none_or_whole.Goals as goal

pub returns : goal.returns
returns c = λ p q from to new entries copies sound fits log is cut.
    let so = copies_follow p q entries sound log copies is in
    cut_reads q entries copies from to sound fits so.history so.are new cut
