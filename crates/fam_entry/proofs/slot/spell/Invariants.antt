use Rattle.std.proofs.Common.{◌≡◌, ℕ, ◌<◌, get_or, length}
use Rattle.fam_format.specs.Slot.{slot_word_at}
use Rattle.fam_entry.proofs.slot.spell.Given as goal

abbrev pub invariant-loop-i : goal.invariant-loop-i
invariant-loop-i l = (length l.words ≡ 128) × ((k : ℕ) → k < l.i → get_or l.words k 0 ≡ slot_word_at l.entry l.seq k)
