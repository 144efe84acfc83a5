-- The bytes of fills.
use Rattle.std.proofs.Common.{◌≡◌, ℕ, ◌+◌, ◌-◌, ◌*◌, ◌/◌, ◌%◌, ◌<◌, ◌≤◌, List, length, replicate, Option, None, Some, sym, ap, ◌∙◌, inl, inr, arith}
use Rattle.std.proofs.lemmas.Bool.{cases_eq, cases_lt}
use Rattle.std.proofs.lemmas.Grind.{same_number_lists}
use Rattle.std.proofs.lemmas.List.{length-replicate}
use Rattle.fam_base.specs.declared.cmd.Cmd.{Cmd}
use Rattle.fam_base.specs.declared.cmd.Cmd.TheVariants as cmd
use Rattle.fam_base.specs.declared.cmd.Attr.{Attr}
use Rattle.fam_base.specs.declared.cmd.Stripe.{Stripe}
use Rattle.fam_base.specs.declared.cmd.Content.{Content}
use Rattle.fam_base.specs.declared.cmd.Content.TheVariants as content
use Rattle.fam_content.specs.Difference.{IsFirst, IsFirstDifference}
use Rattle.fam_rules.specs.Content.{HoldsBytes, byte_in, content_byte, content_line, fill}
use Rattle.fam_rules.proofs.ContentLines.{byte_of_fill, byte_of_line, fill_fits, length_of_fill}
use Rattle.fam_rules.specs.Decide.{Wish, wish_of}
use Rattle.fam_rules.specs.Solo.{content_of}
use Rattle.fam_judge.specs.Untold.{untold}

-- a file of as many bytes as are given
pub given_fill : (bytes : List ℕ) (size : ℕ) → length bytes ≡ size → fill (content.Bytes bytes) size ≡ bytes
given_fill bytes size same =
    same_number_lists (fill (content.Bytes bytes) size) bytes (length_of_fill (content.Bytes bytes) size ∙ sym same)
    (λ k below. byte_of_fill (content.Bytes bytes) size k (omega (arith, length_of_fill (content.Bytes bytes) size)))

-- of so many untold bytes
pub untold_fill : (n : ℕ) → fill (content.Bytes (replicate n untold)) n ≡ replicate n untold
untold_fill n = given_fill (replicate n untold) n (length-replicate n untold)

-- a byte of a line of a file
pub line_byte : (content : Content) (size j o : ℕ) (line : List ℕ) → HoldsBytes content → line ≡ content_line content size j → o < size → 64 * j ≤ o → o < 64 * j + 64
    → byte_in line (o % 64) ≡ content_byte content o
line_byte content size j o line bytes is below from to =
    let at : j ≡ o / 64 = omega (arith, from, to) in
    ap (λ (words : List ℕ). byte_in words (o % 64)) (is ∙ ap (content_line content size) at)
    ∙ byte_of_line (fill content size) o (λ i. fill_fits content size i bytes)
    ∙ byte_of_fill content size o below

-- a byte of the line, by its place there
pub own_byte : (content : Content) (size j o : ℕ) (line : List ℕ) → HoldsBytes content → line ≡ content_line content size j → o < size → 64 * j ≤ o → o < 64 * j + 64
    → byte_in line (o - 64 * j) ≡ content_byte content o
own_byte content size j o line bytes is below from to =
    let at : o - 64 * j ≡ o % 64 = omega (arith, from, to) in
    ap (byte_in line) at ∙ line_byte content size j o line bytes is below from to

module _ (a b : Content) (end j : ℕ) (found wanted : List ℕ) (a_bytes : HoldsBytes a) (b_bytes : HoldsBytes b)
    (found_is : found ≡ content_line a end j) (wanted_is : wanted ≡ content_line b end j) where
  -- lines without a difference have the same bytes
  pub none_differs : IsFirstDifference found wanted (64 * j) end None → ((i : ℕ) → i < 64 * j → i < end → content_byte a i ≡ content_byte b i)
      → (i : ℕ) → i < 64 * (j + 1) → i < end → content_byte a i ≡ content_byte b i
  none_differs none before i inside below =
      elim (cases_lt i (64 * j)) [
        | inl less ↦ before i less below
        | inr past ↦
            elim (cases_eq (byte_in found (i % 64)) (byte_in wanted (i % 64))) [
              | inl same ↦
                  sym (line_byte a end j i found a_bytes found_is below past (omega (arith, inside)))
                  ∙ same
                  ∙ line_byte b end j i wanted b_bytes wanted_is below past (omega (arith, inside))
              | inr other ↦ absurd (none i (record { from = past; inside = omega (arith, inside); below = below; unlike = other }))
            ]
      ]

  -- lines with one haven't
  pub one_differs : (o is should_be : ℕ) → IsFirst found wanted (64 * j) end o is should_be → ((i : ℕ) → i < end → content_byte a i ≡ content_byte b i) → ⊥
  one_differs o is should_be first same =
      let at = first.differs in
      at.unlike (line_byte a end j o found a_bytes found_is at.below at.from at.inside
      ∙ same o at.below
      ∙ sym (line_byte b end j o wanted b_bytes wanted_is at.below at.from at.inside))

-- A cp.

-- how many bytes are wanted
abbrev size_wanted : Option Wish → ℕ
size_wanted None = 0
size_wanted (Some w) = w.size

-- of a file of as many bytes as are wanted none is told
pub cp_fill : (path : List ℕ) (attr : Attr) (stripe : Option Stripe) (n : ℕ) (c : Cmd) → c ≡ cmd.Cp path attr stripe (replicate n untold)
    → (w : Wish) → wish_of c ≡ Some w → fill (content_of c) w.size ≡ replicate w.size untold
cp_fill path attr stripe n c is w wished =
    let size : n ≡ w.size = sym (length-replicate n untold) ∙ ap size_wanted (sym (ap wish_of is) ∙ wished) in
    ap (λ (x : Cmd). fill (content_of x) w.size) is
    ∙ ap (λ (k : ℕ). fill (content.Bytes (replicate k untold)) w.size) size
    ∙ untold_fill w.size
