-- Texts that stand behind one another.
use Rattle.std.proofs.Common.{◌≡◌, ℕ, ◌+◌, ◌/◌, ◌%◌, List, [], ◌∷◌, ◌++◌, append-nil, refl, sym, ap, ◌∙◌, arith}
use Rattle.std.specs.Prelude.{Result, Ok, Err, OnOk}
use Rattle.std.specs.Fmt.{decimal}
use Rattle.std.proofs.lemmas.Fmt.{decimal_digit}
use Rattle.std.proofs.lemmas.List.{append_assoc}
use Rattle.fam_base.specs.Escapes.{escaped}
use Rattle.fam_outcomes.specs.Texts.{line}
use Rattle.fam_tree.specs.Lines.{mode_text}

-- a digit below eight
octal_one : (n : ℕ) (rest : List ℕ) → decimal (n % 8) ++ rest ≡ (48 + n % 8) ∷ rest
octal_one n rest = ap (λ (l : List ℕ). l ++ rest) (decimal_digit (n % 8) (omega arith))

-- the four digits of a mode
pub mode_digits : (mode : ℕ) (rest : List ℕ) → decimal (mode / 512 % 8) ++ (decimal (mode / 64 % 8) ++ (decimal (mode / 8 % 8) ++ (decimal (mode % 8) ++ rest))) ≡ mode_text mode ++ rest
mode_digits mode rest =
    octal_one (mode / 512) _
    ∙ ap (λ (l : List ℕ). (48 + mode / 512 % 8) ∷ l) (octal_one (mode / 64) _
    ∙ ap (λ (l : List ℕ). (48 + mode / 64 % 8) ∷ l) (octal_one (mode / 8) _
    ∙ ap (λ (l : List ℕ). (48 + mode / 8 % 8) ∷ l) (octal_one mode _)))

-- texts behind one another
assoc3 : (a b c d : List ℕ) → a ++ (b ++ (c ++ d)) ≡ a ++ b ++ c ++ d
assoc3 a b c d = simp append_assoc refl

-- what stands behind the path of a creat or a cp
pub file_parts : (s a a' e t t' : List ℕ) → a' ≡ a → t' ≡ t → s ++ (a' ++ (e ++ t')) ≡ s ++ a ++ e ++ t
file_parts s a a' e t t' attr stripe = rw (attr, stripe) (assoc3 s a e t)

module _ (prefix n name back : List ℕ) (same : name ≡ n) where
  -- a name between two texts, the second of which has two parts
  pub two_parts : (s t : List ℕ) → back ≡ s ++ t → line (prefix ++ escaped name ++ back) ≡ line (prefix ++ escaped n ++ s ++ t)
  two_parts s t is = rw (same, is) (simp append_assoc refl)

  -- or four
  pub four_parts : (s a e t : List ℕ) → back ≡ s ++ a ++ e ++ t → line (prefix ++ escaped name ++ back) ≡ line (prefix ++ escaped n ++ s ++ a ++ e ++ t)
  four_parts s a e t is = rw (same, is) (simp append_assoc refl)

  -- or three, and nothing between
  pub three_parts : (s a t : List ℕ) → back ≡ s ++ a ++ [] ++ t → line (prefix ++ escaped name ++ back) ≡ line (prefix ++ escaped n ++ s ++ a ++ t)
  three_parts s a t is = rw (same, is) (simp (append_assoc, append-nil) refl)

-- nine texts behind one another
pub assoc9 : (a b c d e f g h i : List ℕ) → a ++ (b ++ (c ++ (d ++ (e ++ (f ++ (g ++ (h ++ i))))))) ≡ a ++ b ++ c ++ d ++ e ++ f ++ g ++ h ++ i
assoc9 a b c d e f g h i =
    assoc3 a b c (d ++ (e ++ (f ++ (g ++ (h ++ i)))))
    ∙ assoc3 (a ++ b ++ c) d e (f ++ (g ++ (h ++ i)))
    ∙ assoc3 (a ++ b ++ c ++ d ++ e) f g (h ++ i)
    ∙ sym (append_assoc (a ++ b ++ c ++ d ++ e ++ f ++ g) h i)

-- two lines behind a text
pub two_lines : (old mid new v w : List ℕ) → mid ≡ old ++ line v → new ≡ mid ++ line w → new ≡ old ++ line v ++ line w
two_lines old mid new v w first second = second ∙ ap (λ (l : List ℕ). l ++ line w) first

-- a text as a line, and two more lines
pub three_lines : (old mid feed next new u v w : List ℕ) → mid ≡ old ++ u → feed ≡ mid ++ 10 ∷ [] → next ≡ feed ++ line v → new ≡ next ++ line w
    → new ≡ old ++ line u ++ line v ++ line w
three_lines old mid feed next new u v w first second third fourth =
    fourth ∙ ap (λ (l : List ℕ). l ++ line w) (third ∙ ap (λ (l : List ℕ). l ++ line v) (second ∙ ap (λ (l : List ℕ). l ++ 10 ∷ []) first ∙ append_assoc old u (10 ∷ [])))

-- what holds of a call that succeeds, and what follows
pub OnOk-more : {X E : Type 0} (r : Result X E) {P Q : Type 0} → (P → Q) → OnOk r P → OnOk r Q
OnOk-more (Ok x) follows is = follows is
OnOk-more (Err e) follows is = tt
