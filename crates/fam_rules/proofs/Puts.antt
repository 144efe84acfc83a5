-- Lines that are put into an image, one after another.
use Rattle.std.proofs.Common.{◌≡◌, ℕ, zero, suc, ◌+◌, ◌<◌, ◌≤◌, List, [], ◌∷◌, ◌++◌, length, map, refl, sym, subst, ◌∙◌, inl, inr, arith}
use Rattle.std.specs.Prelude.{◌≢◌, ⊤}
use Rattle.std.specs.List.{range_with_len}
use Rattle.std.proofs.lemmas.Bool.{cases_eq}
use Rattle.fam_base.specs.Image.{Image, eight, line_at, with_line}
use Rattle.fam_base.proofs.ImageLemmas.{line_at-with_line, line_at-with_line_other, length-with_line}
use Rattle.fam_rules.specs.Written.{Put, put_line, put_lines}

-- an image keeps its length
pub length-put_lines : (puts : List Put) (image : Image) → length (put_lines puts image) ≡ length image
length-put_lines [] image = refl
length-put_lines (put ∷ more) image = length-put_lines more (put_line image put) ∙ length-with_line image put.0 put.1

-- all of these puts are of other lines
abbrev pub AreElsewhere : ℕ → List Put → Type 0
AreElsewhere l [] = ⊤
AreElsewhere l (put ∷ more) = (l ≢ put.0) × AreElsewhere l more

-- lines that aren't put are as before
pub put_elsewhere : (puts : List Put) (image : Image) (l : ℕ) → AreElsewhere l puts → line_at (put_lines puts image) l ≡ line_at image l
put_elsewhere [] image l other = refl
put_elsewhere (put ∷ more) image l other =
    put_elsewhere more (put_line image put) l other.1 ∙ line_at-with_line_other image put.0 put.1 l other.0

-- puts one after another, in two parts
pub put_lines-append : (a b : List Put) (image : Image) → put_lines (a ++ b) image ≡ put_lines b (put_lines a image)
put_lines-append [] b image = refl
put_lines-append (put ∷ a) b image = put_lines-append a b (put_line image put)

pub elsewhere-left : (l : ℕ) (a b : List Put) → AreElsewhere l (a ++ b) → AreElsewhere l a
elsewhere-left l [] b off = tt
elsewhere-left l (put ∷ a) b off = (off.0, elsewhere-left l a b off.1)

pub elsewhere-right : (l : ℕ) (a b : List Put) → AreElsewhere l (a ++ b) → AreElsewhere l b
elsewhere-right l [] b off = off
elsewhere-right l (put ∷ a) b off = elsewhere-right l a b off.1

-- of several puts of a line the last one stays
pub last_put : (prefix back : List Put) (image : Image) (l : ℕ) (words : List ℕ) → l < length image → AreElsewhere l back → line_at (put_lines (prefix ++ (l, words) ∷ back) image) l ≡ eight words
last_put [] back image l words within other = put_elsewhere back (with_line l words image) l other ∙ line_at-with_line image l words within
last_put (put ∷ prefix) back image l words within other =
    last_put prefix back (put_line image put) l words (omega (arith, length-with_line image put.0 put.1)) other

-- Puts of lines f j with words g j, by numbers j.

module _ (f : ℕ → ℕ) (g : ℕ → List ℕ) where
  -- those of n numbers from a on
  abbrev pub puts_from : ℕ → ℕ → List Put
  puts_from a n = map (λ j. (f j, g j)) (range_with_len a n)

  -- other lines are as before
  pub off_puts : (a n : ℕ) (image : Image) (l : ℕ) → ((j : ℕ) → a ≤ j → j < a + n → l ≢ f j) → line_at (put_lines (puts_from a n) image) l ≡ line_at image l
  off_puts a zero image l other = refl
  off_puts a (suc n) image l other =
      off_puts (a + 1) n (with_line (f a) (g a) image) l (λ j from below. other j (omega arith) (omega arith))
      ∙ line_at-with_line_other image (f a) (g a) l (other a (omega arith) (omega arith))

  -- a line has its words where no later put is of that line
  pub at_put : (a n : ℕ) (image : Image) (j : ℕ) → a ≤ j → j < a + n → f j < length image → ((i : ℕ) → j < i → i < a + n → f j ≢ f i) → line_at (put_lines (puts_from a n) image) (f j) ≡ eight (g j)
  at_put a zero image j from below within once = absurd (omega arith)
  at_put a (suc n) image j from below within once =
      elim (cases_eq a j) [
        | inl same ↦
            subst (λ (k : ℕ). line_at (put_lines (puts_from (a + 1) n) (with_line (f a) (g a) image)) (f k) ≡ eight (g k)) same
            (off_puts (a + 1) n (with_line (f a) (g a) image) (f a) (λ i past end. subst (λ (k : ℕ). f k ≢ f i) (sym same) (once i (omega arith) (omega arith)))
            ∙ line_at-with_line image (f a) (g a) (subst (λ (k : ℕ). f k < length image) (sym same) within))
        | inr other ↦
            at_put (a + 1) n (with_line (f a) (g a) image) j (omega arith) (omega arith) (omega (arith, length-with_line image (f a) (g a)))
            (λ i past end. once i past (omega arith))
      ]
