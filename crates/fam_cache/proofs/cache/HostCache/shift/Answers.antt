use Rattle.std.proofs.Common.{ap, sym, subst}
use Rattle.std.specs.Prelude.{IsErrOf}
use Rattle.fam_cache.specs.declared.fault.CacheFault.TheVariants as cache_fault
use Rattle.fam_media.specs.Outside.{IfModelled}
use Rattle.fam_cache.specs.States.{CacheState}
use Rattle.fam_cache.specs.Effects.{FailsTo}
use Rattle.fam_machine.specs.Caches.{cell_at}
use Rattle.fam_machine.specs.HostMoves.{failed_move}
use Rattle.fam_cache.specs.declared.own_moves.OwnMove.{OwnMove}
use Rattle.fam_cache.specs.OwnMoves.{move_of}
use Rattle.fam_cache.proofs.Shifting.{evict_held, failed_sent, fetch_failed, fetch_held, fetch_moved, leak_done, sent_counted}
use Rattle.fam_cache.proofs.cache.HostCache.shift.Goals as goal

pub returns-in-Evict-clause-failed : goal.returns-in-Evict-clause-failed
returns-in-Evict-clause-failed g c is =
    subst (λ (w : OwnMove). IfModelled (g.M.Media.state c.args.media.now).image
    (λ image. FailsTo c.args.line.0 (λ through memory. failed_move (move_of w) through memory (cell_at c.args.self.now.lines c.args.line.0)) image
    (g.M.Media.state c.evict.new.media).image)) (sym c.in-Evict.is)
    (failed_sent c.evict.result _ c.evict.ensures.torn (subst (λ r. IsErrOf r cache_fault.Failed) c.sends.ensures is))

pub returns-in-Evict-clause-held : goal.returns-in-Evict-clause-held
returns-in-Evict-clause-held g c = evict_held c.evict.result c.args.line.0 _ _ c.evict.ensures.cache c.evict.ensures.err

pub returns-in-Leak-clause-moved : goal.returns-in-Leak-clause-moved
returns-in-Leak-clause-moved g c =
    leak_done c.leak.result c.sends-in-Leak.result c.args.what c.in-Leak.mask c.args.line.0 _ _ _ _ c.sends-in-Leak.ensures c.in-Leak.is
    (ap (λ (s : CacheState). s.lines) c.leak.ensures.cache) c.leak.ensures.memory

pub returns-in-Leak-clause-failed : goal.returns-in-Leak-clause-failed
returns-in-Leak-clause-failed g c is =
    subst (λ (w : OwnMove). IfModelled (g.M.Media.state c.args.media.now).image
    (λ image. FailsTo c.args.line.0 (λ through memory. failed_move (move_of w) through memory (cell_at c.args.self.now.lines c.args.line.0)) image
    (g.M.Media.state c.leak.new.media).image)) (sym c.in-Leak.is)
    (failed_sent c.leak.result _ c.leak.ensures.torn (subst (λ r. IsErrOf r cache_fault.Failed) c.sends-in-Leak.ensures is))

pub returns-in-Fetch-clause-moved : goal.returns-in-Fetch-clause-moved
returns-in-Fetch-clause-moved g c = fetch_moved c.fetch.result c.args.what c.in-Fetch.mask c.args.line.0 _ _ _ _ c.in-Fetch.is
    (g.met.M.Media.normal c.args.media.now) c.fetch.ensures.image c.fetch.ensures.cache

pub returns-in-Fetch-clause-failed : goal.returns-in-Fetch-clause-failed
returns-in-Fetch-clause-failed g c is = fetch_failed c.fetch.result c.args.what c.in-Fetch.mask c.args.line.0 _ _ _ c.in-Fetch.is
    (g.met.M.Media.normal c.args.media.now) c.fetch.ensures.image c.fetch.ensures.ok is

pub returns-in-Fetch-clause-held : goal.returns-in-Fetch-clause-held
returns-in-Fetch-clause-held g c = fetch_held c.fetch.result _ c.args.line.0 _ _ _ c.fetch.ensures.cache c.fetch.ensures.err

pub returns-in-Evict-clause-counted : goal.returns-in-Evict-clause-counted
returns-in-Evict-clause-counted g c exact = sent_counted c.evict.result c.sends.result _ _ c.sends.ensures (c.evict.ensures.counted exact)

pub returns-in-Leak-clause-counted : goal.returns-in-Leak-clause-counted
returns-in-Leak-clause-counted g c exact = sent_counted c.leak.result c.sends-in-Leak.result _ _ c.sends-in-Leak.ensures (c.leak.ensures.counted exact)

pub returns-in-Fetch-clause-counted : goal.returns-in-Fetch-clause-counted
returns-in-Fetch-clause-counted g c = c.fetch.ensures.counted
