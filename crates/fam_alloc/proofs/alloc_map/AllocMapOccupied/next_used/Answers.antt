use Rattle.fam_alloc.specs.Runs.{outside}
use Rattle.fam_alloc.proofs.ViewLemmas.{next_of_view}
use Rattle.fam_alloc.proofs.alloc_map.AllocMapOccupied.next_used.Goals as goal

pub returns : goal.returns
returns c =
    let own = c.self.inside in
    next_of_view (outside own.runs.entries) own.units c.args.from c.args.to c.next_outside.result c.args.self.now c.self.view_is c.requires.within c.next_outside.ensures
