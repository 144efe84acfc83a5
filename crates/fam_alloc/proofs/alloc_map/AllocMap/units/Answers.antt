use Rattle.std.proofs.Common.{arith}
use Rattle.fam_alloc.specs.Runs.{outside}
use Rattle.fam_alloc.proofs.ViewLemmas.{units_of_view}
use Rattle.fam_alloc.proofs.alloc_map.AllocMap.units.Goals as goal

pub returns-clause-count : goal.returns-clause-count
returns-clause-count c = units_of_view (outside c.self.inside.runs.entries) c.self.inside.units c.args.self.now c.self.view_is

pub returns-clause-limit : goal.returns-clause-limit
returns-clause-limit c =
    omega (arith, units_of_view (outside c.self.inside.runs.entries) c.self.inside.units c.args.self.now c.self.view_is, c.self.invariant.few)
