use Rattle.std.proofs.Common.{◌≡◌, ℕ, ◌||◌, length, take}
use Rattle.fam_format.specs.Units.{units_in}
use Rattle.fam_alloc.specs.Next.{is_bit_set}
use Rattle.fam_alloc.specs.Taken.{holds}
use Rattle.fam_alloc.proofs.overlap.cover_all.Given as goal

abbrev pub invariant-loop-i : goal.invariant-loop-i
invariant-loop-i l = record {
  len : length l.layers ≡ length l.initial.layers;
  marked : (u : ℕ) → is_bit_set l.layers u ≡ (is_bit_set l.initial.layers u || holds (units_in l.unit (take l.i l.extents)) u);
}
