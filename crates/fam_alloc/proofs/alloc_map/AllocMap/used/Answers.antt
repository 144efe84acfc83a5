use Rattle.std.proofs.Common.{ap, ◌∙◌, arith}
use Rattle.fam_alloc.specs.Runs.{outside}
use Rattle.fam_alloc.specs.Taken.{taken_units}
use Rattle.fam_alloc.proofs.ViewLemmas.{units_of_view, counted_le}
use Rattle.fam_alloc.proofs.alloc_map.AllocMap.used.Goals as goal

pub returns : goal.returns
returns c =
    let own = c.self.inside in
    record {
      count = c.self.invariant.counted ∙ ap taken_units c.self.view_is;
      within = omega (arith, ap taken_units c.self.view_is, counted_le (outside own.runs.entries) own.units, units_of_view (outside own.runs.entries) own.units c.args.self.now c.self.view_is);
    }
