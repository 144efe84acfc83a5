use Rattle.std.proofs.Common.{ℕ, List, ◌++◌, ap, sym, ◌∙◌}
use Rattle.fam_tree.proofs.Words.{behind, extents_more}
use Rattle.fam_tree.proofs.lines.put_extents.Goals as goal

pub loop-i-preserved : goal.loop-i-preserved
loop-i-preserved c =
    behind c.args.into.now.items _ _ _ _ c.loop-i.invariant c.in_ok-put_next.ensures
    ∙ ap (λ (l : List ℕ). c.args.into.now.items ++ l) (sym (extents_more c.args.extents.now c.loop-i.i))
