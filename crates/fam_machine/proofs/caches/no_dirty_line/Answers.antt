use Rattle.fam_machine.proofs.DirtyLemmas.{none_dirty, no_dirty_count}
use Rattle.fam_machine.proofs.caches.no_dirty_line.Goals as goal

pub returns : goal.returns
returns c = record { none = none_dirty; counted = no_dirty_count }
