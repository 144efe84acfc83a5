use Rattle.std.proofs.Common.{ℕ, List, length, ap, ◌∙◌}
use Rattle.fam_alloc.proofs.FreeRunsLemmas.{free_runs_of_view}
use Rattle.fam_alloc.proofs.alloc_map.AllocMap.runs.Goals as goal

pub returns : goal.returns
returns c =
    let own = c.self.inside in
    c.len.ensures.len
    ∙ ap (λ (rs : List (ℕ × ℕ)). length rs) (free_runs_of_view own.units own.runs.entries c.args.self.now c.self.invariant.spaced c.self.invariant.some c.self.view_is)
