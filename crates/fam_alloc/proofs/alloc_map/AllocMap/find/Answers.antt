use Rattle.fam_alloc.specs.Runs.{outside}
use Rattle.fam_alloc.proofs.ViewLemmas.{room_of_view}
use Rattle.fam_alloc.proofs.alloc_map.AllocMap.find.Goals as goal

pub returns : goal.returns
returns c =
    room_of_view (outside c.self.inside.runs.entries) c.self.inside.units c.args.count c.args.self.now c.lowest_run.result c.self.view_is c.lowest_run.ensures
