use Rattle.std.proofs.Common.{◌∙◌}
use Rattle.fam_alloc.specs.Next.{is_bit_set}
use Rattle.fam_alloc.proofs.MapLemmas.{length-units_by}
use Rattle.fam_alloc.proofs.ViewLemmas.{units_of_view, lie_within, taken_more}
use Rattle.fam_alloc.proofs.used_units.UsedUnits.cover.Goals as goal

pub cover_all-requires-clause-within : goal.cover_all-requires-clause-within
cover_all-requires-clause-within c =
    let own = c.self.inside in
    lie_within (is_bit_set own.layers) own.units c.args.unit c.args.self.now c.args.extents.now c.self.view_is c.requires.unit c.requires.within

pub returns-clause-value : goal.returns-clause-value
returns-clause-value c =
    let own = c.self.inside in
    taken_more (is_bit_set own.layers) own.units c.args.unit c.args.self.now c.args.extents.now c.self.view_is c.requires.unit c.requires.within
    (is_bit_set c.cover_all.new.layers) c.cover_all.ensures.marked

pub returns-clause-units : goal.returns-clause-units
returns-clause-units c =
    let own = c.self.inside in
    length-units_by (is_bit_set c.cover_all.new.layers) own.units ∙ units_of_view (is_bit_set own.layers) own.units c.args.self.now c.self.view_is
