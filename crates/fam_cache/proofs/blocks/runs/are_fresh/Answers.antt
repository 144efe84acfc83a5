use Rattle.std.proofs.Common.{ℕ, sym, subst, get_or, [], inl, inr, arith}
use Rattle.std.proofs.lemmas.Bool.{cases_eq}
use Rattle.fam_cache.specs.Blocks.{cell_in}
use Rattle.fam_cache.specs.BroughtRuns.{IsClean}
use Rattle.fam_cache.proofs.blocks.runs.are_fresh.Goals as goal

pub loop-i-preserved : goal.loop-i-preserved
unfolding cell_in
loop-i-preserved c = record {
  clean = λ i from below.
      elim (cases_eq i c.loop-i.i) [
        | inl e ↦ subst (λ (k : ℕ). IsClean (cell_in c.args.block.now k)) (sym e) (c.is_fresh_mark.ensures c.if-not-is_fresh_mark.false (get_or c.args.block.now.words c.loop-i.i []))
        | inr other ↦ c.loop-i.invariant.clean i from (omega (arith, below, other))
      ];
}
