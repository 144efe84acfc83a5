use Rattle.std.proofs.Common.{length, ◌≡◌, ℕ, ◌-◌, ◌<◌, ◌≤◌, false}
use Rattle.fam_format.specs.Slot.{is_stray, extents_word}
use Rattle.fam_entry.proofs.reading.find_stray.Given as goal

abbrev pub invariant-loop-i : goal.invariant-loop-i
invariant-loop-i l = record {
  from : extents_word ≤ l.i;
  none : (k : ℕ) → extents_word ≤ k → k < l.i → is_stray l.words k ≡ false;
}

abbrev pub decreases-loop-i : goal.decreases-loop-i
decreases-loop-i l = length l.words - 1 - l.i
