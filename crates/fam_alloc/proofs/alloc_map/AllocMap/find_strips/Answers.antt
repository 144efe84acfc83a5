use Rattle.fam_alloc.specs.Runs.{outside}
use Rattle.fam_alloc.proofs.ViewLemmas.{strips_of_view}
use Rattle.fam_alloc.proofs.alloc_map.AllocMap.find_strips.Goals as goal

pub returns : goal.returns
returns c =
    strips_of_view (outside c.self.inside.runs.entries) c.self.inside.units c.args.count c.args.nstrips c.args.nbuckets c.args.seq c.args.self.now c.first_strips.result
    c.self.view_is c.first_strips.ensures
