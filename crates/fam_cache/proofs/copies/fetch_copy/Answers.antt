use Rattle.std.proofs.Common.{refl}
use Rattle.fam_machine.specs.declared.cell.Cell.TheVariants.{Dirty}
use Rattle.fam_cache.proofs.MemoryLemmas.{dirty_kept, refreshed}
use Rattle.fam_cache.proofs.copies.fetch_copy.Goals as goal

pub returns-in-Ok-clause-copy : goal.returns-in-Ok-clause-copy
returns-in-Ok-clause-copy g c =
    refreshed _ c.args.line.0 c.args.mask.0 c.in-Clean.words c.in-Ok.memory c.masked_line.result c.args.copy c.in-Ok.ensures.words c.masked_line.ensures c.in-Clean.is

pub returns-in-Dirty-clause-copy : goal.returns-in-Dirty-clause-copy
returns-in-Dirty-clause-copy g c = rw c.in-Dirty.is (dirty_kept _ c.args.line.0 c.args.mask.0 (Dirty c.in-Dirty.asked c.in-Dirty.words) refl)
