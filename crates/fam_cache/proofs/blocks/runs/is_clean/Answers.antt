use Rattle.std.proofs.Common.{◌∙◌, ℕ, ap, sym, get_or, [], inl, inr, arith}
use Rattle.std.proofs.lemmas.Bool.{cases_eq, false≢true}
use Rattle.fam_machine.specs.OneLine.{is_dirty}
use Rattle.fam_cache.specs.Blocks.{cell_in}
use Rattle.fam_cache.proofs.blocks.runs.is_clean.Goals as goal

pub loop-i-preserved : goal.loop-i-preserved
unfolding cell_in
loop-i-preserved c = record {
  clean = λ i from below dirty.
      elim (cases_eq i c.loop-i.i) [
        | inl e ↦ false≢true (sym (c.is_dirty_mark.ensures.is (get_or c.args.block.now.words c.loop-i.i []) ∙ c.if-is_dirty_mark.false)
            ∙ sym (ap (λ (k : ℕ). is_dirty (cell_in c.args.block.now k)) e) ∙ dirty)
        | inr other ↦ c.loop-i.invariant.clean i from (omega (arith, below, other)) dirty
      ];
}
