use Rattle.std.proofs.Common.{◌∙◌, ap, sym}
use Rattle.fam_cache.specs.Blocks.{marked}
use Rattle.fam_cache.proofs.BlockLemmas.{cell_none}
use Rattle.fam_cache.proofs.blocks.copy.Goals as goal

pub returns-in-Some : goal.returns-in-Some
returns-in-Some c = c.copy_of.ensures ∙ ap (marked c.mark_at.result) c.words_at.ensures ∙ sym c.mark_at.ensures

pub returns-in-None : goal.returns-in-None
returns-in-None c = sym (cell_none c.args.cache.now.blocks.items c.args.line (rw c.in-None.is at c.requires.spot))
