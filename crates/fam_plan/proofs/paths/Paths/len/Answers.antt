use Rattle.std.proofs.Common.{ℕ, List, length, sym, ap, ◌∙◌}
use Rattle.fam_plan.proofs.PieceLemmas.{length-pieces}
use Rattle.fam_plan.proofs.paths.Paths.len.Goals as goal

pub returns : goal.returns
returns c =
    let own = c.self.inside in
    c.len.ensures ∙ own.ends.ok.0 ∙ sym (length-pieces own.bytes.items 0 own.ends.items) ∙ ap (λ (l : List (List ℕ)). length l) c.self.view_is
