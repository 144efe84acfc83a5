use Rattle.fam_tree.proofs.ByteOrder.{SameFront}
use Rattle.fam_tree.proofs.byte_order.order_short.Given as goal

abbrev pub invariant-loop-i : goal.invariant-loop-i
invariant-loop-i l = SameFront l.a l.b l.i
