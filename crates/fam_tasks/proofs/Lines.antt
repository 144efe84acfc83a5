-- Lines of loaded words.
use Rattle.std.proofs.Common.{◌≡◌, ℕ, ◌+◌, ◌<◌, ◌≤◌, List, ◌++◌, length, take, drop, slice_range, sym, ap, ap₂, ◌∙◌, arith}
use Rattle.std.specs.Prelude.{slice_index}
use Rattle.std.proofs.lemmas.Grind.{common_steps}
use Rattle.std.proofs.Math.Seq.{take-append-add, take-append_seam}
use Rattle.std.proofs.lemmas.List.{take_all, take-append-drop, length-drop, length-take-le}
use borrow.Rule.Slice.PartMut.{post_of, put_mid}

-- words of a line that were copied
pub eight_of : (line part words : List ℕ) (first : ℕ) → line ≡ part → part ≡ slice_range words first (first + 8) → line ≡ slice_range words first (first + 8)
eight_of line part words first a b = a ∙ b

-- one line is all eight words
pub one_line : (words line : List ℕ) → length words ≡ 8 → line ≡ slice_range words 0 8 → line ≡ words
one_line words line count is = is ∙ take_all 8 words (omega arith)

-- two lines are all sixteen words
pub two_lines : (words first second : List ℕ) → length words ≡ 16 → first ≡ slice_range words 0 8 → second ≡ slice_range words 8 16 → first ++ second ≡ words
two_lines words first second count a b =
    ap₂ (λ (x y : List ℕ). x ++ y) a (b ∙ take_all 8 (drop 8 words) (omega (arith, length-drop 8 words)))
    ∙ take-append-drop 8 words

-- a word of eight of them
pub word_of_eight : (words : List ℕ) (first k : ℕ) → k < 8 → first + 8 ≤ length words → slice_index (slice_range words first (first + 8)) k ≡ slice_index words (first + k)
word_of_eight words first k below long = grind (arith, common_steps)

-- a line that is put behind words
pub put_behind : (n k : ℕ) (words line : List ℕ) → n ≤ length words → length line ≡ 8 → take (n + 8) (put_mid n k words line) ≡ take n words ++ line
put_behind n k words line fits count =
    ap (λ (m : ℕ). take (m + 8) (take n words ++ (line ++ post_of n k words))) (sym (length-take-le n words fits))
    ∙ take-append-add (take n words) (line ++ post_of n k words) 8
    ∙ ap (λ (ys : List ℕ). take n words ++ ys) (ap (λ (m : ℕ). take m (line ++ post_of n k words)) (sym count) ∙ take-append_seam line (post_of n k words))
