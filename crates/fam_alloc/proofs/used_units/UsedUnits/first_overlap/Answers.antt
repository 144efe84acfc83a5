use Rattle.std.proofs.Common.{arith}
use Rattle.fam_alloc.specs.Next.{is_bit_set}
use Rattle.fam_alloc.proofs.ViewLemmas.{units_of_view, lie_within}
use Rattle.fam_alloc.proofs.used_units.UsedUnits.first_overlap.Goals as goal

pub first_overlap-requires-clause-within : goal.first_overlap-requires-clause-within
first_overlap-requires-clause-within c =
    let own = c.self.inside in
    lie_within (is_bit_set own.layers) own.units c.args.unit c.args.self.now c.args.extents.now c.self.view_is c.requires.unit c.requires.within

pub first_overlap-requires-clause-covered : goal.first_overlap-requires-clause-covered
first_overlap-requires-clause-covered c =
    let own = c.self.inside in
    omega (arith, units_of_view (is_bit_set own.layers) own.units c.args.self.now c.self.view_is)
