use Rattle.fam_cache.proofs.BlockLemmas.{mark_cache, mark_keeps, still_stands}
use Rattle.std.proofs.Common.{refl}
use Rattle.fam_cache.proofs.blocks.set_mark.Goals as goal

pub returns-clause-cache : goal.returns-clause-cache
returns-clause-cache c = mark_cache c.args.cache.now c.requires.kept c.args.at c.args.line c.requires.stands c.index_mut-block.result.now c.index_mut-block.ensures.value c.args.mark

pub returns-clause-kept : goal.returns-clause-kept
returns-clause-kept c = mark_keeps c.args.cache.now c.requires.kept c.args.at c.args.line c.requires.stands c.index_mut-block.result.now c.index_mut-block.ensures.value c.args.mark

pub returns-clause-stands : goal.returns-clause-stands
returns-clause-stands c = still_stands c.args.cache.now c.requires.kept c.args.at c.args.line c.requires.stands c.index_mut-block.result.now c.index_mut-block.ensures.value _ refl
