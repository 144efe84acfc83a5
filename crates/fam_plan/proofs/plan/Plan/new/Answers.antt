use Rattle.std.proofs.Common.{refl, rules, arith}
use Rattle.fam_plan.proofs.plan.Plan.new.Goals as goal

pub invariant_of-result : goal.invariant_of-result
invariant_of-result c =
    rw (c.in_ok-order.ensures, c.new-3.ensures)
    (record {
      plan = record {
        history = record { params = c.requires; few = omega arith; added = λ i e is. absurd cc };
        tree = refl;
        units = c.in_ok-map.ensures.units;
        used = search (rules, c.in_ok-map.ensures.used);
      };
      held = tt;
      own = refl;
      units = refl;
    })
