use Rattle.std.proofs.Common.{arith}
use Rattle.fam_alloc.specs.Next.{is_bit_set}
use Rattle.fam_alloc.proofs.ViewLemmas.{units_of_view}
use Rattle.fam_alloc.proofs.used_units.UsedUnits.units.Goals as goal

pub returns-clause-count : goal.returns-clause-count
returns-clause-count c = units_of_view (is_bit_set c.self.inside.layers) c.self.inside.units c.args.self.now c.self.view_is

pub returns-clause-limit : goal.returns-clause-limit
returns-clause-limit c =
    omega (arith, units_of_view (is_bit_set c.self.inside.layers) c.self.inside.units c.args.self.now c.self.view_is, c.self.invariant.1)
