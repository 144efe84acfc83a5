use Rattle.std.proofs.Common.{◌≡◌, subst, sym, arith}
use Rattle.fam_commands.specs.Task.{Task}
use Rattle.fam_run.specs.Cached.{none}
use Rattle.fam_run.specs.Places.{HasPlaces}
use Rattle.fam_run.proofs.PlacesKept.{held_kept}
use Rattle.fam_run.proofs.rest.operate_cached.Goals as goal

pub returns-then-most-lt-REST_OPERATIONS-clause-run : goal.returns-then-most-lt-REST_OPERATIONS-clause-run
returns-then-most-lt-REST_OPERATIONS-clause-run c = none

pub returns-in-Some-clause-places : goal.returns-in-Some-clause-places
returns-in-Some-clause-places c = λ has.
    held_kept c.args.task.now c.load_cached.new.task c.args.cache.now c.args.cache.now c.in-Some.ensures.run (omega arith) has

pub returns-in-None-clause-places : goal.returns-in-None-clause-places
returns-in-None-clause-places c = λ has.
    let same : c.load_cached.new.task ≡ c.args.task.now = c.load_cached.ensures.other c.in-None.is in
    held_kept c.load_cached.new.task c.store_cached.new.task c.args.cache.now c.store_cached.new.cache c.store_cached.ensures.run c.store_cached.ensures.spare
    (subst (λ (t : Task). HasPlaces t c.args.cache.now) (sym same) has)
