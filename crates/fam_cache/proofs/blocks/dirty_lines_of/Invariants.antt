use Rattle.std.proofs.Common.{◌≡◌, take}
use Rattle.fam_cache.proofs.CountLemmas.{dirty_of}
use Rattle.fam_cache.proofs.blocks.dirty_lines_of.Given as goal

abbrev pub invariant-loop-block : goal.invariant-loop-block
invariant-loop-block l = l.count ≡ dirty_of (take l.block-index l.cache.blocks.items)
