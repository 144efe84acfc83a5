use Rattle.std.proofs.Common.{◌≡◌, ℕ, ◌*◌, ◌<◌, get_or, length}
use Rattle.fam_format.specs.Slot.{path_word}
use Rattle.fam_format.specs.Words.{byte_from}
use Rattle.fam_entry.proofs.short.short_path.Given as goal

abbrev pub invariant-loop-i : goal.invariant-loop-i
invariant-loop-i l = record {
  count : length l.field ≡ 32;
  bytes : (k : ℕ) → k < 8 * l.i → get_or l.field k 0 ≡ byte_from path_word l.words k;
}
