use Rattle.std.proofs.lemmas.Result.{on_err_weaker, on_ok_weaker}
use Rattle.fam_cache.proofs.MemoryLemmas.{absent_unsent, clean_unsent, dirty_sent, torn_send}
use Rattle.fam_cache.proofs.copies.send_copy.Goals as goal

pub returns-in-Dirty-clause-torn : goal.returns-in-Dirty-clause-torn
returns-in-Dirty-clause-torn g c =
    on_err_weaker c.write.result (torn_send (g.M.Media.state c.args.media.now).image (g.M.Media.state c.write.new.self).image c.args.line.0
    c.in-Dirty.words c.args.copy c.in-Dirty.is) c.write.ensures.torn

pub returns-in-Absent-clause-memory : goal.returns-in-Absent-clause-memory
returns-in-Absent-clause-memory g c =
    absent_unsent (g.M.Media.state c.args.media.now).image c.args.line.0 c.args.copy (g.met.M.Media.normal c.args.media.now) c.in-Absent.is

pub returns-in-Clean-clause-memory : goal.returns-in-Clean-clause-memory
returns-in-Clean-clause-memory g c =
    clean_unsent (g.M.Media.state c.args.media.now).image c.args.line.0 c.args.copy (g.met.M.Media.normal c.args.media.now) c.in-Clean.is

pub returns-in-Dirty-clause-memory : goal.returns-in-Dirty-clause-memory
returns-in-Dirty-clause-memory g c =
    on_ok_weaker c.write.result (dirty_sent (g.M.Media.state c.args.media.now).image (g.M.Media.state c.write.new.self).image c.args.line.0 c.args.copy c.in-Dirty.is) c.write.ensures.written
