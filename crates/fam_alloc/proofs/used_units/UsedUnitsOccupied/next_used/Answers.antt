use Rattle.std.proofs.Common.{ℕ, true, List, length, subst, ap, arith}
use Rattle.fam_alloc.specs.Next.{is_bit_set, IsNext}
use Rattle.fam_alloc.proofs.ViewLemmas.{units_of_view, next_of_view}
use Rattle.fam_alloc.proofs.used_units.UsedUnitsOccupied.next_used.Goals as goal

pub next-requires-clause-within : goal.next-requires-clause-within
next-requires-clause-within c =
    let own = c.self.inside in
    omega (arith, units_of_view (is_bit_set own.layers) own.units c.args.self.now c.self.view_is, c.self.invariant.0, c.words.result.now.ok.0, ap (λ (ws : List ℕ). length ws) c.words.ensures)

pub next-requires-clause-few : goal.next-requires-clause-few
next-requires-clause-few c =
    let own = c.self.inside in
    omega (arith, units_of_view (is_bit_set own.layers) own.units c.args.self.now c.self.view_is, c.self.invariant.1)

pub returns : goal.returns
returns c =
    let own = c.self.inside in
    next_of_view (is_bit_set own.layers) own.units c.args.from c.args.to c.next.result c.args.self.now c.self.view_is c.requires.within
    (subst (λ (ws : List ℕ). IsNext (is_bit_set ws) true c.args.from c.args.to c.next.result) c.words.ensures c.next.ensures)
