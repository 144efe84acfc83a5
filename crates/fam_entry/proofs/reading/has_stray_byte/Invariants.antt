use Rattle.std.proofs.Common.{◌≡◌, ℕ, ◌<◌, false}
use Rattle.fam_format.specs.Slot.{is_stray_byte}
use Rattle.fam_entry.proofs.reading.has_stray_byte.Given as goal

abbrev pub invariant-loop-b : goal.invariant-loop-b
invariant-loop-b l = (k : ℕ) → k < l.b → is_stray_byte l.words l.i k ≡ false
