use Rattle.fam_run.specs.Operation.{said_of}
use Rattle.fam_run.proofs.PlacesKept.{made}
use Rattle.fam_run.proofs.advancing.advance.Goals as goal

pub returns-in-Ok-clause-places : goal.returns-in-Ok-clause-places
returns-in-Ok-clause-places g c =
    made c.args.task.now c.go_on.new.task c.args.cache.now c.make_places.new.cache c.go_on.new.cache (said_of c.go_on.result c.go_on.new.turn) c.in-Ok.ensures.ready c.go_on.ensures.places
