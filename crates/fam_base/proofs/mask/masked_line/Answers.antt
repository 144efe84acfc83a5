use Rattle.std.proofs.Common.{arith, ◌∙◌}
use Rattle.std.proofs.lemmas.List.{length-set}
use Rattle.std.proofs.lemmas.List.Edits.{fill_by_more}
use Rattle.std.proofs.lemmas.List.FromFn.{fill_by_all}
use Rattle.fam_base.specs.Image.{masked_word, masked}
use Rattle.fam_base.proofs.mask.masked_line.Goals as goal

pub loop-w-preserved : goal.loop-w-preserved
loop-w-preserved c = (
  length-set c.loop-w.words c.loop-w.w _ ∙ c.loop-w.invariant.0,
  rw c.masked_word_of.ensures (fill_by_more (masked_word c.args.mask.0 c.args.new.now c.args.old.now) c.loop-w.words c.loop-w.w 0 (omega arith) c.loop-w.invariant.1),
)

pub returns : goal.returns
unfolding masked
returns c = fill_by_all (masked_word c.args.mask.0 c.args.new.now c.args.old.now) c.loop-w.words 8 0 c.loop-w.invariant.0 (λ k below. c.loop-w.invariant.1 k (omega arith))
