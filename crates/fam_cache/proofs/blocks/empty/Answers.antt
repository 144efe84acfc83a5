use Rattle.std.proofs.Common.{◌∙◌, ap}
use Rattle.fam_cache.specs.Blocks.{cache_of}
use Rattle.fam_cache.proofs.BlockLemmas.{no_blocks}
use Rattle.fam_cache.proofs.blocks.empty.Goals as goal

pub returns-clause-lines : goal.returns-clause-lines
returns-clause-lines c = ap cache_of c.new.ensures.items ∙ no_blocks
