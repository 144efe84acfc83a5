use Rattle.std.proofs.Common.{◌-◌, ◌≡◌, ℕ, not, ◌<◌, ◌≤◌}
use Rattle.fam_alloc.specs.Next.{is_bit_set}
use Rattle.fam_alloc.proofs.bits.next.Given as goal

abbrev pub invariant-loop-unit : goal.invariant-loop-unit
invariant-loop-unit l = record {
  low : l.from ≤ l.unit;
  before : (u : ℕ) → l.from ≤ u → u < l.unit → is_bit_set l.words.items u ≡ not l.used;
}

abbrev pub decreases-loop-unit : goal.decreases-loop-unit
decreases-loop-unit l = l.to - l.unit
