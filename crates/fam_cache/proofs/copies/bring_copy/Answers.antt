use Rattle.std.proofs.Common.{refl}
use Rattle.fam_cache.proofs.MemoryLemmas.{absent_brought, absent_unheld, held_kept}
use Rattle.fam_cache.proofs.copies.bring_copy.Goals as goal

pub returns-in-Clean-clause-copy : goal.returns-in-Clean-clause-copy
returns-in-Clean-clause-copy g c = held_kept _ c.args.line.0 c.args.copy (rw c.in-Clean.is refl)

pub returns-in-Dirty-clause-copy : goal.returns-in-Dirty-clause-copy
returns-in-Dirty-clause-copy g c = held_kept _ c.args.line.0 c.args.copy (rw c.in-Dirty.is refl)

pub returns-in-Ok-clause-copy : goal.returns-in-Ok-clause-copy
returns-in-Ok-clause-copy g c =
    absent_brought (g.M.Media.state c.args.media.now).image c.args.line.0 c.in-Ok.words c.args.copy c.in-Absent.is c.in-Ok.ensures.words

pub returns-in-Ok-clause-same : goal.returns-in-Ok-clause-same
returns-in-Ok-clause-same g c held = absurd (absent_unheld c.args.copy c.in-Absent.is held)

pub returns-in-Err-clause-idle : goal.returns-in-Err-clause-idle
returns-in-Err-clause-idle g c held = absurd (absent_unheld c.args.copy c.in-Absent.is held)

pub returns-in-Err-clause-same : goal.returns-in-Err-clause-same
returns-in-Err-clause-same g c held = absurd (absent_unheld c.args.copy c.in-Absent.is held)
