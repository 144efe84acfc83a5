use Rattle.fam_cache.proofs.BlockLemmas.{words_is}
use Rattle.fam_cache.proofs.blocks.words_at.Goals as goal

pub returns : goal.returns
returns c = words_is c.args.cache.now c.requires.kept c.args.at c.args.line c.requires.stands c.index-block.result.now c.index-block.ensures
