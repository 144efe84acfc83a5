use Rattle.fam_cache.proofs.cache.dropping.leak_line.Goals as goal

pub returns-in-Err-clause-torn : goal.returns-in-Err-clause-torn
returns-in-Err-clause-torn g c = rw c.copy-held.ensures at c.in-Err.ensures.torn
