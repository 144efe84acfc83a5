use Rattle.std.proofs.Common.{◌++◌, List, ℕ, ap, ◌∙◌}
use Rattle.fam_tree.specs.FirstWords.{first_words}
use Rattle.fam_tree.proofs.Words.{told_alike}
use Rattle.fam_tree.proofs.lines.FirstWords.put_anew.Goals as goal

pub invariant_of-self-2 : goal.invariant_of-self-2
invariant_of-self-2 c = λ e told.
    c.in_ok-put_first_words.ensures ∙ ap (λ (l : List ℕ). l ++ first_words c.args.entry.now) c.clear.ensures.items
    ∙ told_alike c.args.entry.now e c.args.told.now c.requires told
