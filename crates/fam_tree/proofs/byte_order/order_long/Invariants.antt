use Rattle.std.proofs.Common.{◌+◌, ◌-◌, ◌≤◌}
use Rattle.fam_tree.proofs.ByteOrder.{SameFront}
use Rattle.fam_tree.proofs.byte_order.order_long.Given as goal

abbrev pub invariant-loop-at : goal.invariant-loop-at
invariant-loop-at l = record {
  same : SameFront l.a l.b l.at;
  within : l.at ≤ l.last + 8;
}

abbrev pub decreases-loop-at : goal.decreases-loop-at
decreases-loop-at l = l.last - l.at
