use Rattle.std.proofs.Common.{◌/◌}
use Rattle.fam_alloc.specs.Runs.{outside}
use Rattle.fam_alloc.proofs.StripLemmas.{offer_is}
use Rattle.fam_alloc.proofs.run.offer.Goals as goal

pub returns : goal.returns
returns c =
    offer_is (outside c.args.runs.now.entries) (c.args.units / c.args.nbuckets) c.args.count c.args.nbuckets c.args.seq c.args.turn c.lowest_run.result
    c.lowest_run.ensures
