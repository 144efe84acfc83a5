-- Lines that are printed are read one by one.
use Rattle.std.proofs.Common.{◌≡◌, ℕ, zero, suc, ◌+◌, ◌-◌, ◌<◌, Bool, true, false, cond, List, [], ◌∷◌, ◌++◌, length, take, refl, ap, ap₂, sym, ◌∙◌, arith, append_assoc}
use Rattle.std.specs.Prelude.{◌&&◌, ◌==◌, not, nat_le, slice_index}
use Rattle.std.specs.List.{flat_map}
use Rattle.std.proofs.lemmas.Bool.{and_parts, ne_eqb, true≢false}
use Rattle.std.proofs.lemmas.Bool.Decides.{nat_tests}
use Rattle.fam_tree.specs.Lines.{line_feed}
use Rattle.fam_tree.specs.Listings.{text_lines}
use Rattle.fam_tree.proofs.Cutting.{back_found, front_found, lines_more}
use Rattle.fam_tree.proofs.Printed.{No}
use Rattle.fam_grammar.specs.Reading.{Reading, Reads}
use Rattle.fam_grammar.specs.Words.{Word, is_blank, short_word, with_byte, without_return, words_from}
use Rattle.fam_outcomes.specs.Texts.{line}
use Rattle.fam_records.specs.Lines.{ALine, is_passed, next_line}
use Rattle.fam_records.specs.Taken.{Takes, line_by, line_taken, taken_as}
use Rattle.fam_records.proofs.Clean.{is_clean}

no_byte : (c : ℕ) → c < 32 → (text : List ℕ) → is_clean text ≡ true → No c text
unfolding No
no_byte c low [] clean = tt
no_byte c low (byte ∷ bytes) clean =
    let parts = and_parts (nat_le 32 byte) (is_clean bytes) clean in
    (grind (arith, nat_tests), no_byte c low bytes parts.1)

no_at : (bytes : List ℕ) (k : ℕ) → No 13 bytes → (slice_index bytes k == 13) ≡ false
unfolding No
no_at [] k none = refl
no_at (b ∷ bytes) zero none = ne_eqb b 13 none.0
no_at (b ∷ bytes) (suc k) none = no_at bytes k none.1

kept : (text : List ℕ) → is_clean text ≡ true → without_return text ≡ text
kept text clean = ap (λ (t : Bool). cond t (take (length text - 1) text) text) (no_at text (length text - 1) (no_byte 13 (omega arith) text clean))

-- the first byte is neither blank nor `#`
abbrev pub is_begun : List ℕ → Bool
is_begun [] = false
is_begun (byte ∷ bytes) = not (is_blank byte) && not (byte == 35)

not_of : (t : Bool) → not t ≡ true → t ≡ false
not_of true h = sym h
not_of false h = refl

passed_by : (byte : ℕ) (words : List Word) → is_passed (with_byte 1 byte words) ≡ (byte == 35)
passed_by byte [] = refl
passed_by byte (word ∷ words) =
    elim (word.column == 2) as (λ t. is_passed (cond t (record { column = 1; text = byte ∷ word.text } ∷ words) (short_word 1 byte ∷ word ∷ words)) ≡ (byte == 35)) [
      | true ↦ refl
      | false ↦ refl
    ]

begun : (text : List ℕ) → is_begun text ≡ true → is_passed (words_from 1 text) ≡ false
begun [] is = absurd (true≢false (sym is))
begun (byte ∷ bytes) is =
    let parts = and_parts (not (is_blank byte)) (not (byte == 35)) is in
    ap (λ (t : Bool). is_passed (cond t (words_from 2 bytes) (with_byte 1 byte (words_from 2 bytes)))) (not_of (is_blank byte) parts.0)
    ∙ passed_by byte (words_from 2 bytes) ∙ not_of (byte == 35) parts.1

-- a text that stands in a line of its own
pub record IsPrinted (text : List ℕ) : Type 0 where
  pub clean : is_clean text ≡ true
  pub starts : is_begun text ≡ true

module _ (text : List ℕ) (is : IsPrinted text) where
  -- it is the first line
  pub first_line : (rest : List ℕ) → text_lines (line text ++ rest) ≡ text ∷ text_lines rest
  first_line rest =
      let none : No line_feed text = no_byte 10 (omega arith) text is.clean in
      ap text_lines (append_assoc text (10 ∷ []) rest)
      ∙ lines_more (text ++ 10 ∷ rest) (some text)
      ∙ ap₂ (λ (l : List ℕ) (m : List ℕ). l ∷ text_lines m) (front_found line_feed text rest none) (back_found line_feed text rest none)
    where
      some : (bytes : List ℕ) → 0 < length (bytes ++ 10 ∷ rest)
      some [] = omega arith
      some (byte ∷ bytes) = omega arith

  -- it is the next line
  pub next_is : (number : ℕ) (lines : List (List ℕ)) → next_line (record { number = number; lines = text ∷ lines })
      ≡ ALine (record { number = number; end = length text + 1 }) (words_from 1 text) (record { number = number + 1; lines = lines })
  next_is number lines =
      ap (λ (l : List ℕ). cond (is_passed (words_from 1 l)) (next_line (record { number = number + 1; lines = lines }))
      (ALine (record { number = number; end = length l + 1 }) (words_from 1 l) (record { number = number + 1; lines = lines }))) (kept text is.clean)
      ∙ ap (λ (t : Bool). cond t (next_line (record { number = number + 1; lines = lines }))
      (ALine (record { number = number; end = length text + 1 }) (words_from 1 text) (record { number = number + 1; lines = lines }))) (begun text is.starts)

  -- and is read
  pub line_read : {A : Type 0} (grammar : ℕ → List Word → Reading A) (value : A) (number : ℕ) (lines : List (List ℕ))
      → grammar (length text + 1) (words_from 1 text) ≡ Reads value []
      → line_taken grammar (record { number = number; lines = text ∷ lines }) ≡ Takes value (record { number = number + 1; lines = lines })
  line_read grammar value number lines reads =
      ap (line_by grammar) (next_is number lines)
      ∙ ap (taken_as (record { number = number; end = length text + 1 }) (record { number = number + 1; lines = lines })) reads

-- texts that stand in lines of their own
abbrev pub ArePrinted : List (List ℕ) → Type 0
ArePrinted [] = Unit {0}
ArePrinted (text ∷ texts) = IsPrinted text × ArePrinted texts

-- they are the first lines
pub lines_are : (texts : List (List ℕ)) (rest : List ℕ) → ArePrinted texts → text_lines (flat_map line texts ++ rest) ≡ texts ++ text_lines rest
lines_are [] rest are = refl
lines_are (text ∷ texts) rest are =
    ap text_lines (append_assoc (line text) (flat_map line texts) rest)
    ∙ first_line text are.0 (flat_map line texts ++ rest)
    ∙ ap (λ (l : List (List ℕ)). text ∷ l) (lines_are texts rest are.1)
