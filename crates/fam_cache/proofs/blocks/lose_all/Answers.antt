use Rattle.std.proofs.Common.{◌∙◌, ap}
use Rattle.fam_cache.specs.Blocks.{cache_of}
use Rattle.fam_cache.proofs.BlockLemmas.{no_blocks}
use Rattle.fam_cache.proofs.blocks.lose_all.Goals as goal

pub returns-clause-lines : goal.returns-clause-lines
returns-clause-lines c = ap cache_of c.clear.ensures.items ∙ no_blocks
