-- Where the first word of a line ends, and what stands behind it.
use Rattle.std.proofs.Common.{◌≡◌, ℕ, suc, ◌+◌, ◌-◌, ◌≤◌, Bool, true, false, cond, eqb, List, [], ◌∷◌, length, take, drop, refl, sym, ap, ◌∙◌, subst, arith}
use Rattle.std.proofs.lemmas.List.{take_rest}
use Rattle.std.proofs.lemmas.Bool.Decides.{nat_tests}
use Rattle.fam_grammar.specs.Words.{Word, is_blank, short_word, with_byte, words_from}
use Rattle.fam_grammar.specs.Cursor.{prefix_length, BeginsWithWord}

-- the first of these words begins at this column or behind it
abbrev BeginsAt : ℕ → List Word → Type 0
BeginsAt column [] = Unit {0}
BeginsAt column (word ∷ words) = column ≤ word.column

earlier : (a b : ℕ) (words : List Word) → a ≤ b → BeginsAt b words → BeginsAt a words
earlier a b [] le begins = tt
earlier a b (word ∷ words) le begins = omega (arith, le, begins)

begins_with_byte : (column byte : ℕ) (words : List Word) → BeginsAt column (with_byte column byte words)
begins_with_byte column byte [] = omega arith
begins_with_byte column byte (word ∷ words) =
    elim (eqb word.column (column + 1)) as (λ t. BeginsAt column (cond t (record { column = column; text = byte ∷ word.text } ∷ words) (short_word column byte ∷ word ∷ words))) [
      | true ↦ let le : column ≤ column = omega arith in le
      | false ↦ let le : column ≤ column = omega arith in le
    ]

pub begins : (column : ℕ) (bytes : List ℕ) → BeginsAt column (words_from column bytes)
begins column [] = tt
begins column (byte ∷ bytes) =
    elim (is_blank byte) as (λ t. BeginsAt column (cond t (words_from (column + 1) bytes) (with_byte column byte (words_from (column + 1) bytes)))) [
      | true ↦ earlier column (column + 1) _ (omega arith) (begins (column + 1) bytes)
      | false ↦ begins_with_byte column byte _
    ]

-- a byte in front of words that begin further on is a word of its own
apart : (column byte : ℕ) (words : List Word) → BeginsAt (column + 2) words → with_byte column byte words ≡ short_word column byte ∷ words
apart column byte [] begins = refl
apart column byte (word ∷ words) begins =
    let other : eqb word.column (column + 1) ≡ false = grind (arith, nat_tests, begins) in
    ap (λ (t : Bool). cond t (record { column = column; text = byte ∷ word.text } ∷ words) (short_word column byte ∷ word ∷ words)) other

-- a byte in front of the word that begins right behind it
beside : (column byte : ℕ) (text : List ℕ) (words : List Word)
    → with_byte column byte (record { column = column + 1; text = text } ∷ words) ≡ record { column = column; text = byte ∷ text } ∷ words
beside column byte text words =
    let same : eqb (column + 1) (column + 1) ≡ true = grind (arith, nat_tests) in
    ap (λ (t : Bool). cond t (record { column = column; text = byte ∷ text } ∷ words) (short_word column byte ∷ record { column = column + 1; text = text } ∷ words)) same

-- the words of a line that begins with a word
abbrev FirstWord : ℕ → List ℕ → ℕ → Type 0
FirstWord column bytes n = words_from column bytes ≡ record { column = column; text = take n bytes } ∷ words_from (column + n) (drop n bytes)

not_blank : (column byte : ℕ) (bytes : List ℕ) → is_blank byte ≡ false → words_from column (byte ∷ bytes) ≡ with_byte column byte (words_from (column + 1) bytes)
not_blank column byte bytes is = ap (λ (t : Bool). cond t (words_from (column + 1) bytes) (with_byte column byte (words_from (column + 1) bytes))) is

blank : (column byte : ℕ) (bytes : List ℕ) → is_blank byte ≡ true → words_from column (byte ∷ bytes) ≡ words_from (column + 1) bytes
blank column byte bytes is = ap (λ (t : Bool). cond t (words_from (column + 1) bytes) (with_byte column byte (words_from (column + 1) bytes))) is

at : (a b : ℕ) (bytes : List ℕ) → a ≡ b → words_from a bytes ≡ words_from b bytes
at a b bytes same = ap (λ (n : ℕ). words_from n bytes) same

first_is : (column byte : ℕ) (bytes : List ℕ) → is_blank byte ≡ false → FirstWord column (byte ∷ bytes) (suc (prefix_length bytes))
first_is column byte [] is = not_blank column byte [] is ∙ refl
first_is column byte (next ∷ bytes) is =
    elim (is_blank next) as (λ t. is_blank next ≡ t → FirstWord column (byte ∷ next ∷ bytes) (suc (cond t 0 (suc (prefix_length bytes))))) [
      | true ↦ λ ends.
          not_blank column byte (next ∷ bytes) is
          ∙ apart column byte (words_from (column + 1) (next ∷ bytes))
          (subst (BeginsAt (column + 2)) (at (column + 2) (column + 1 + 1) bytes (omega arith) ∙ sym (blank (column + 1) next bytes ends)) (begins (column + 2) bytes))
          ∙ ap (λ (words : List Word). short_word column byte ∷ words) (at (column + 1) (column + suc 0) (next ∷ bytes) (omega arith))
      | false ↦ λ goes.
          not_blank column byte (next ∷ bytes) is
          ∙ ap (with_byte column byte) (first_is (column + 1) next bytes goes)
          ∙ beside column byte (take (suc (prefix_length bytes)) (next ∷ bytes)) _
          ∙ ap (λ (words : List Word). record { column = column; text = byte ∷ next ∷ take (prefix_length bytes) bytes } ∷ words)
          (at (column + 1 + suc (prefix_length bytes)) (column + suc (suc (prefix_length bytes))) (drop (prefix_length bytes) bytes) (omega arith))
    ] refl

-- where bytes begin with no blank
pub first_word : (column byte : ℕ) (bytes : List ℕ) → is_blank byte ≡ false → FirstWord column (byte ∷ bytes) (prefix_length (byte ∷ bytes))
first_word column byte bytes is =
    subst (λ (n : ℕ). FirstWord column (byte ∷ bytes) n) (sym (ap (λ (t : Bool). cond t 0 (suc (prefix_length bytes))) is)) (first_is column byte bytes is)

-- where bytes begin with a word
pub word_prefix : (column : ℕ) (bytes : List ℕ) → BeginsWithWord bytes → FirstWord column bytes (prefix_length bytes)
word_prefix column [] begins = absurd begins
word_prefix column (byte ∷ bytes) begins = first_word column byte bytes begins

-- the same as code has it, by the count of its bytes
pub word_prefix_at : (column : ℕ) (bytes : List ℕ) (n : ℕ) → BeginsWithWord bytes → n ≡ prefix_length bytes
    → words_from column bytes ≡ record { column = column; text = take n bytes } ∷ words_from (column + n) (take (length bytes - n) (drop n bytes))
word_prefix_at column bytes n begins count =
    word_prefix column bytes begins
    ∙ ap (λ (m : ℕ). record { column = column; text = take m bytes } ∷ words_from (column + m) (drop m bytes)) (sym count)
    ∙ ap (λ (l : List ℕ). record { column = column; text = take n bytes } ∷ words_from (column + n) l) (sym (take_rest bytes n))
