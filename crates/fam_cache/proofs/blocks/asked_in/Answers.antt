use Rattle.std.proofs.Common.{◌∙◌, ℕ, ap, sym, arith, inl, inr, get_or, []}
use Rattle.std.proofs.lemmas.Bool.{cases_eq, false≢true}
use Rattle.fam_machine.specs.OneLine.{is_asked}
use Rattle.fam_cache.specs.Blocks.{cell_in}
use Rattle.fam_cache.proofs.blocks.asked_in.Goals as goal

pub loop-at-preserved : goal.loop-at-preserved
unfolding cell_in
loop-at-preserved c = record {
  from_there = omega (arith, c.loop-at.invariant.from_there);
  before = λ i from below asked.
      elim (cases_eq i c.loop-at.at) [
        | inl e ↦ false≢true (sym (c.is_asked_mark.ensures (get_or c.args.block.now.words c.loop-at.at []) ∙ c.if-is_asked_mark.false)
            ∙ sym (ap (λ (k : ℕ). is_asked (cell_in c.args.block.now k)) e) ∙ asked)
        | inr other ↦ c.loop-at.invariant.before i from (omega (arith, below, other)) asked
      ];
}

pub returns-then-is_asked_mark-clause-asked : goal.returns-then-is_asked_mark-clause-asked
unfolding cell_in
returns-then-is_asked_mark-clause-asked c = c.is_asked_mark.ensures (get_or c.args.block.now.words c.loop-at.at []) ∙ c.if-is_asked_mark.true
