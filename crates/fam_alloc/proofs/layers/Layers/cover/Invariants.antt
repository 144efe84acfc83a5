use Rattle.std.proofs.Common.{◌≡◌, ℕ, ◌-◌, ◌≤◌, ◌||◌, length}
use Rattle.fam_alloc.specs.Next.{is_bit_set, is_between}
use Rattle.fam_alloc.proofs.layers.Layers.cover.Given as goal

abbrev pub invariant-loop-unit : goal.invariant-loop-unit
invariant-loop-unit l = record {
  low : l.from ≤ l.unit;
  high : l.unit ≤ l.to;
  len : length l.self ≡ length l.initial.self;
  marked : (u : ℕ) → is_bit_set l.self u ≡ (is_bit_set l.initial.self u || is_between l.from l.unit u);
}

abbrev pub decreases-loop-unit : goal.decreases-loop-unit
decreases-loop-unit l = l.to - l.unit
