use Rattle.std.proofs.Common.{ℕ, List, ap, ◌∙◌, arith}
use Rattle.fam_alloc.specs.Next.{is_bit_set}
use Rattle.fam_alloc.specs.Taken.{taken_units, units_by}
use Rattle.fam_alloc.proofs.ViewLemmas.{units_of_view, counted_le}
use Rattle.fam_alloc.proofs.used_units.UsedUnits.count.Goals as goal

pub returns : goal.returns
returns c =
    let own = c.self.inside in
    record {
      count = c.count_used.ensures ∙ ap (λ (ws : List ℕ). taken_units (units_by (is_bit_set ws) own.units)) c.words.ensures ∙ ap taken_units c.self.view_is;
      within = omega (arith, ap taken_units c.self.view_is, counted_le (is_bit_set own.layers) own.units, units_of_view (is_bit_set own.layers) own.units c.args.self.now c.self.view_is);
    }
