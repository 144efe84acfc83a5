use Rattle.std.proofs.Common.{◌∙◌, sym, get_or, []}
use Rattle.std.proofs.lemmas.Bool.{false≢true}
use Rattle.fam_cache.specs.Blocks.{cell_in}
use Rattle.fam_cache.proofs.SentRunLemmas.{marked_asked}
use Rattle.fam_cache.proofs.blocks.asked.is_asked_there.Goals as goal

pub returns-clause-asked : goal.returns-clause-asked
unfolding cell_in
returns-clause-asked c = λ is. record {
  is = marked_asked _ (get_or c.args.block.now.words c.args.at []) (c.is_asked_mark.ensures (get_or c.args.block.now.words c.args.at []) ∙ is);
  whole = c.are_eight.ensures;
}

pub returns-clause-other : goal.returns-clause-other
unfolding cell_in
returns-clause-other c = λ is asked. false≢true (sym (c.is_asked_mark.ensures (get_or c.args.block.now.words c.args.at []) ∙ is) ∙ asked)
