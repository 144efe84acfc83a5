use Rattle.std.proofs.Common.{◌≡◌, ℕ, ◌-◌, ◌<◌, ◌≤◌, get_or, length}
use Rattle.fam_entry.proofs.fields.is_long_name.Given as goal

abbrev pub invariant-loop-at : goal.invariant-loop-at
invariant-loop-at l = record {
  within : l.at ≤ length l.bytes;
  some : (k : ℕ) → k < l.at → get_or l.bytes k 0 ≡ 0 → ⊥;
  none : (k : ℕ) → k < l.at → get_or l.bytes k 0 ≡ 47 → ⊥;
}

abbrev pub decreases-loop-at : goal.decreases-loop-at
decreases-loop-at l = length l.bytes - l.at
