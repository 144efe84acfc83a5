use Rattle.std.proofs.Common.{ℕ, List, length, ap, ◌∙◌, arith}
use Rattle.std.proofs.lemmas.List.{length-replicate}
use Rattle.fam_alloc.specs.Next.{is_bit_set}
use Rattle.fam_alloc.proofs.MapLemmas.{length-units_by}
use Rattle.fam_alloc.proofs.ViewLemmas.{first_marked, new_taken}
use Rattle.fam_alloc.proofs.used_units.UsedUnits.new.Goals as goal

pub invariant_of-result : goal.invariant_of-result
invariant_of-result c =
    (omega (arith, c.cover.ensures.len, c.div_ceil.ensures, ap (λ (ws : List ℕ). length ws) c.in_ok-layers.ensures ∙ length-replicate _ 0), c.requires.limit)

pub returns-clause-units : goal.returns-clause-units
returns-clause-units c = length-units_by (is_bit_set c.cover.new.self) c.args.units

pub returns-clause-used : goal.returns-clause-used
returns-clause-used c =
    let marked = first_marked c.cover.new.self c.in_ok-layers.layers _ c.args.used c.in_ok-layers.ensures c.cover.ensures.marked in
    new_taken (is_bit_set c.cover.new.self) c.args.units c.args.used c.requires.within (λ u below. marked u)
