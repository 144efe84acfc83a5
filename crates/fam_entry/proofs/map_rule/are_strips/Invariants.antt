use Rattle.std.proofs.Common.{◌≡◌, true, length, take, nat_eq}
use Rattle.std.specs.List.{list_all}
use Rattle.fam_base.specs.Units.{strip_bytes}
use Rattle.fam_entry.proofs.map_rule.are_strips.Given as goal

abbrev pub invariant-loop-i : goal.invariant-loop-i
invariant-loop-i l = list_all (λ x. nat_eq x.length (strip_bytes l.entry.size l.chunk (length l.entry.extents))) (take l.i l.extents) ≡ true
