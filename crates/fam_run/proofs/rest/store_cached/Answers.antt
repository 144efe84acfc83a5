use Rattle.std.proofs.Common.{refl, sym, subst}
use Rattle.fam_cache.specs.States.{CacheState}
use Rattle.fam_run.specs.Cached.{CachedRun, none}
use Rattle.fam_run.proofs.Cached.{stores_held}
use Rattle.fam_run.proofs.FirstStores.{no_store}
use Rattle.fam_run.proofs.rest.store_cached.Goals as goal

pub returns-then-store_rest-clause-run : goal.returns-then-store_rest-clause-run
returns-then-store_rest-clause-run c =
    let e = c.if-store_rest.ensures in
    stores_held c.in-Some.rest.0 c.in-Some.rest.1 c.args.task.now c.store_rest-then-store_rest.new.self c.args.cache.now.lines
    c.store_rest.new.self.lines (e.held refl) (e.whole refl) (e.stored refl) c.store_rest-then-store_rest.ensures

pub returns-else-store_rest-clause-run : goal.returns-else-store_rest-clause-run
returns-else-store_rest-clause-run c =
    subst (λ (s : CacheState). CachedRun c.args.task.now c.args.cache.now.lines c.args.task.now s.lines 0) (sym (c.if-store_rest.ensures.other refl)) none

pub returns-in_default-clause-run : goal.returns-in_default-clause-run
returns-in_default-clause-run c = none

pub returns-then-store_rest-clause-idle : goal.returns-then-store_rest-clause-idle
returns-then-store_rest-clause-idle c = λ first. absurd (no_store c.args.task.now first c.in-Some.rest.0 c.in-Some.rest.1 c.in-Some.ensures)
