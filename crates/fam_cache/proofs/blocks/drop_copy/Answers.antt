use Rattle.fam_cache.proofs.BlockLemmas.{absent_none}
use Rattle.fam_cache.proofs.blocks.drop_copy.Goals as goal

pub returns-in-None-clause-cache : goal.returns-in-None-clause-cache
returns-in-None-clause-cache c = absent_none c.args.cache.now.blocks.items c.args.line (rw c.in-None.is at c.requires.spot)
