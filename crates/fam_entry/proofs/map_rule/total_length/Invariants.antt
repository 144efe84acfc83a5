use Rattle.std.proofs.Common.{◌≡◌, ◌≤◌, ◌*◌, ◌^◌, take}
use Rattle.std.specs.List.{sum_by}
use Rattle.fam_entry.proofs.map_rule.total_length.Given as goal

abbrev pub invariant-loop-i : goal.invariant-loop-i
invariant-loop-i l = (l.total ≡ sum_by (λ x. x.length) (take l.i l.extents)) × (l.total ≤ l.i * 2 ^ 64)
