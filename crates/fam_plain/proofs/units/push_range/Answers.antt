use Rattle.std.proofs.Common.{List, ℕ, ◌+◌, ◌++◌, [], ◌∷◌, ap, sym, ◌∙◌, append_assoc}
use Rattle.std.specs.List.{range_with_len}
use Rattle.fam_plain.proofs.Scans.{range_more}
use Rattle.fam_plain.proofs.units.push_range.Goals as goal

pub loop-k-preserved : goal.loop-k-preserved
loop-k-preserved c =
    c.in-Ok.ensures.items
    ∙ ap (λ (l : List ℕ). l ++ (c.args.first + c.loop-k.k) ∷ []) c.loop-k.invariant
    ∙ append_assoc c.args.units.now.items (range_with_len c.args.first c.loop-k.k) ((c.args.first + c.loop-k.k) ∷ [])
    ∙ ap (λ (l : List ℕ). c.args.units.now.items ++ l) (sym (range_more c.args.first c.loop-k.k))
