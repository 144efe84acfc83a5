-- Lines of eight words.
use Rattle.std.proofs.Common.{ℕ, ◌≡◌, List, [], ◌∷◌, length, refl, arith}
use Rattle.fam_base.specs.Image.{eight}
use Rattle.fam_machine.specs.declared.cell.Cell.{Cell}
use Rattle.fam_machine.specs.declared.cell.Cell.TheVariants.{Absent, Clean, Dirty}
use Rattle.fam_machine.specs.OneLine.{current, sent}

-- a line of eight words is its eight words
pub eight_whole : (words : List ℕ) → length words ≡ 8 → eight words ≡ words
eight_whole (a ∷ b ∷ c ∷ d ∷ e ∷ f ∷ g ∷ h ∷ []) is = refl
eight_whole [] is = absurd (omega (arith, is))
eight_whole (a ∷ []) is = absurd (omega (arith, is))
eight_whole (a ∷ b ∷ []) is = absurd (omega (arith, is))
eight_whole (a ∷ b ∷ c ∷ []) is = absurd (omega (arith, is))
eight_whole (a ∷ b ∷ c ∷ d ∷ []) is = absurd (omega (arith, is))
eight_whole (a ∷ b ∷ c ∷ d ∷ e ∷ []) is = absurd (omega (arith, is))
eight_whole (a ∷ b ∷ c ∷ d ∷ e ∷ f ∷ []) is = absurd (omega (arith, is))
eight_whole (a ∷ b ∷ c ∷ d ∷ e ∷ f ∷ g ∷ []) is = absurd (omega (arith, is))
eight_whole (a ∷ b ∷ c ∷ d ∷ e ∷ f ∷ g ∷ h ∷ i ∷ more) is = absurd (omega (arith, is))

-- what a send leaves in memory has eight words
pub sent_wide : (w : List ℕ) (c : Cell) → length w ≡ 8 → length (current w c) ≡ 8 → length (sent w c) ≡ 8
sent_wide w Absent wide copy = wide
sent_wide w (Clean words) wide copy = wide
sent_wide w (Dirty a words) wide copy = copy
