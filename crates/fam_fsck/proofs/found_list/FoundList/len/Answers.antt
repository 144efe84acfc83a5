use Rattle.std.proofs.Common.{List, length, sym, ap, ◌∙◌}
use Rattle.fam_fsck.specs.declared.found.Found.{Found}
use Rattle.fam_fsck.proofs.FoundLists.{found_length}
use Rattle.fam_fsck.proofs.found_list.FoundList.len.Goals as goal

pub returns : goal.returns
returns c =
    let own = c.self.inside in
    c.len.ensures ∙ own.marks.ok.0 ∙ sym (found_length own.entries own.marks.items c.self.invariant) ∙ ap (λ (l : List Found). length l) c.self.view_is
