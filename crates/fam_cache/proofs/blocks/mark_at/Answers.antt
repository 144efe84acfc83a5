use Rattle.fam_cache.proofs.BlockLemmas.{mark_is}
use Rattle.fam_cache.proofs.blocks.mark_at.Goals as goal

pub returns : goal.returns
returns c = mark_is c.args.cache.now c.requires.kept c.args.at c.args.line c.requires.stands c.index-block.result.now c.index-block.ensures
