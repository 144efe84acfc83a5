use Rattle.std.proofs.Common.{sym, subst}
use Rattle.fam_cache.specs.Blocks.{AskedWithin}
use Rattle.fam_cache.proofs.AskedRange.{within_empty}
use Rattle.fam_cache.proofs.cache.HostCache.new.Goals as goal

pub invariant_of-result : goal.invariant_of-result
invariant_of-result c = (c.empty.ensures.kept, subst (AskedWithin 18446744073709551615 0) (sym c.empty.ensures.lines) (within_empty 18446744073709551615 0))
