use Rattle.std.proofs.Common.{ℕ, sym, subst, get_or, [], inl, inr, arith}
use Rattle.std.proofs.lemmas.Bool.{cases_eq}
use Rattle.fam_cache.specs.Blocks.{cell_in}
use Rattle.fam_cache.specs.BroughtRuns.{IsClean}
use Rattle.fam_cache.proofs.blocks.runs.others_in.Goals as goal

pub loop-i-preserved : goal.loop-i-preserved
unfolding cell_in
loop-i-preserved c = record {
  few = omega (arith, c.other_mark-count.ensures.few, c.loop-i.invariant.few);
  clean = λ none i below.
      elim (cases_eq i c.loop-i.i) [
        | inl e ↦ subst (λ (k : ℕ). IsClean (cell_in c.args.block.now k)) (sym e) (c.other_mark-count.ensures.none (omega (arith, none)) (get_or c.args.block.now.words c.loop-i.i []))
        | inr other ↦ c.loop-i.invariant.clean (omega (arith, none)) i (omega (arith, below, other))
      ];
}
