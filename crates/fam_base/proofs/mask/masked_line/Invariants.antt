use Rattle.std.proofs.Common.{◌≡◌, ℕ, ◌<◌, get_or, length}
use Rattle.fam_base.specs.Image.{masked_word}
use Rattle.fam_base.proofs.mask.masked_line.Given as goal

abbrev pub invariant-loop-w : goal.invariant-loop-w
invariant-loop-w l = (length l.words ≡ 8) × ((k : ℕ) → k < l.w → get_or l.words k 0 ≡ masked_word l.mask.0 l.new l.old k)
