use Rattle.std.proofs.Common.{◌∙◌, ap}
use Rattle.std.specs.Prelude.{is_err}
use Rattle.std.proofs.lemmas.Result.{on_ok_weaker, on_err_weaker}
use Rattle.fam_media.specs.Plans.{count_if}
use Rattle.fam_cache.proofs.MemoryLemmas.{absent_unleaked, clean_unleaked, leaked_image, torn_leak, unread_leak}
use Rattle.fam_cache.proofs.copies.leak_copy.Goals as goal

pub returns-in-Ok-clause-memory : goal.returns-in-Ok-clause-memory
returns-in-Ok-clause-memory g c =
    on_ok_weaker c.write.result
    (leaked_image (g.M.Media.state c.args.media.now).image (g.M.Media.state c.read.new.self).image (g.M.Media.state c.write.new.self).image
    c.args.line.0 c.args.mask.0 c.in-Dirty.words c.in-Ok.memory c.masked_line.result c.args.copy
    c.in-Ok.ensures.same c.in-Ok.ensures.words c.masked_line.ensures c.in-Dirty.is) c.write.ensures.written

pub returns-in-Ok-clause-torn : goal.returns-in-Ok-clause-torn
returns-in-Ok-clause-torn g c =
    on_err_weaker c.write.result
    (torn_leak (g.M.Media.state c.args.media.now).image (g.M.Media.state c.read.new.self).image (g.M.Media.state c.write.new.self).image c.args.line.0
    c.args.mask.0 c.in-Dirty.words c.in-Ok.memory c.masked_line.result c.args.copy
    c.in-Ok.ensures.same c.in-Ok.ensures.words c.masked_line.ensures c.in-Dirty.is) c.write.ensures.torn

pub returns-in-Err-clause-torn : goal.returns-in-Err-clause-torn
returns-in-Err-clause-torn g c =
    unread_leak (g.M.Media.state c.args.media.now).image (g.M.Media.state c.read.new.self).image c.args.line.0 c.args.mask.0 c.in-Dirty.words c.args.copy
    (g.met.M.Media.normal c.args.media.now) c.in-Dirty.is c.in-Err.ensures.same

pub returns-in-Ok-clause-counted : goal.returns-in-Ok-clause-counted
returns-in-Ok-clause-counted g c = λ exact. c.write.ensures.counted exact ∙ ap (count_if (is_err c.write.result)) (c.in-Ok.ensures.counted exact)

pub returns-in-Absent-clause-memory : goal.returns-in-Absent-clause-memory
returns-in-Absent-clause-memory g c =
    absent_unleaked (g.M.Media.state c.args.media.now).image c.args.line.0 c.args.mask.0 c.args.copy (g.met.M.Media.normal c.args.media.now) c.in-Absent.is

pub returns-in-Clean-clause-memory : goal.returns-in-Clean-clause-memory
returns-in-Clean-clause-memory g c =
    clean_unleaked (g.M.Media.state c.args.media.now).image c.args.line.0 c.args.mask.0 c.args.copy (g.met.M.Media.normal c.args.media.now) c.in-Clean.is
