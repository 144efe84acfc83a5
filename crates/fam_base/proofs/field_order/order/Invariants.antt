use Rattle.std.proofs.Common.{◌≡◌, ◌*◌, drop}
use Rattle.fam_base.specs.PathOrder.{path_cmp}
use Rattle.fam_base.proofs.field_order.order.Given as goal

-- the fields are equal up to here
abbrev pub invariant-loop-i : goal.invariant-loop-i
invariant-loop-i l = path_cmp l.a l.b ≡ path_cmp (drop (8 * l.i) l.a) (drop (8 * l.i) l.b)
