-- Words that are printed one behind another are read as these words.
use Rattle.std.proofs.Common.{◌≡◌, ℕ, suc, ◌+◌, Bool, false, cond, List, [], ◌∷◌, ◌++◌, length, take, drop, refl, ap, ◌∙◌, subst, arith, append-nil}
use Rattle.std.specs.List.{join_with_byte}
use Rattle.std.proofs.lemmas.List.{take_at, drop_at, take_all}
use Rattle.fam_grammar.specs.Words.{Word, is_blank, words_from}
use Rattle.fam_grammar.specs.Cursor.{prefix_length, BeginsWithWord}
use Rattle.fam_grammar.proofs.WordLemmas.{word_prefix}

-- no byte is a blank
abbrev pub HasNoBlank : List ℕ → Type 0
HasNoBlank [] = Unit {0}
HasNoBlank (byte ∷ bytes) = (is_blank byte ≡ false) × HasNoBlank bytes

pub no_blank-append : (a b : List ℕ) → HasNoBlank a → HasNoBlank b → HasNoBlank (a ++ b)
no_blank-append [] b none more = more
no_blank-append (byte ∷ bytes) b none more = (none.0, no_blank-append bytes b none.1 more)

-- at least one byte, and no blank
abbrev pub IsOneWord : List ℕ → Type 0
IsOneWord [] = ⊥
IsOneWord (byte ∷ bytes) = (is_blank byte ≡ false) × HasNoBlank bytes

-- each text is a word
abbrev pub AreWords : List (List ℕ) → Type 0
AreWords [] = Unit {0}
AreWords (text ∷ texts) = IsOneWord text × AreWords texts

-- words with one space between, the first at this column
abbrev pub placed : ℕ → List (List ℕ) → List Word
placed column [] = []
placed column (text ∷ texts) = record { column = column; text = text } ∷ placed (column + length text + 1) texts

-- up to the end
prefix_whole : (bytes : List ℕ) → HasNoBlank bytes → prefix_length bytes ≡ length bytes
prefix_whole [] none = refl
prefix_whole (byte ∷ bytes) none =
    ap (λ (t : Bool). cond t 0 (suc (prefix_length bytes))) none.0 ∙ ap suc (prefix_whole bytes none.1)

-- up to the space
prefix_to_space : (bytes rest : List ℕ) → HasNoBlank bytes → prefix_length (bytes ++ 32 ∷ rest) ≡ length bytes
prefix_to_space [] rest none = refl
prefix_to_space (byte ∷ bytes) rest none =
    ap (λ (t : Bool). cond t 0 (suc (prefix_length (bytes ++ 32 ∷ rest)))) none.0 ∙ ap suc (prefix_to_space bytes rest none.1)

no_blank : (text : List ℕ) → IsOneWord text → HasNoBlank text
no_blank [] is = absurd is
no_blank (byte ∷ bytes) is = is

begins : (text rest : List ℕ) → IsOneWord text → BeginsWithWord (text ++ rest)
begins [] rest is = absurd is
begins (byte ∷ bytes) rest is = is.0

-- one word in front of a space
word_and_more : (column : ℕ) (text rest : List ℕ) → IsOneWord text
    → words_from column (text ++ 32 ∷ rest) ≡ record { column = column; text = text } ∷ words_from (column + length text + 1) rest
word_and_more column text rest is =
    word_prefix column (text ++ 32 ∷ rest) (begins text (32 ∷ rest) is)
    ∙ ap (λ (n : ℕ). record { column = column; text = take n (text ++ 32 ∷ rest) } ∷ words_from (column + n) (drop n (text ++ 32 ∷ rest)))
    (prefix_to_space text rest (no_blank text is))
    ∙ ap (λ (l : List ℕ). record { column = column; text = l } ∷ words_from (column + length text) (drop (length text) (text ++ 32 ∷ rest)))
    (take_at text (32 ∷ rest) (length text) refl)
    ∙ ap (λ (l : List ℕ). record { column = column; text = text } ∷ words_from (column + length text) l)
    (drop_at text (32 ∷ rest) (length text) refl)

-- one word at the end
word_solo : (column : ℕ) (text : List ℕ) → IsOneWord text → words_from column text ≡ record { column = column; text = text } ∷ []
word_solo column text is =
    word_prefix column text (subst BeginsWithWord (append-nil text) (begins text [] is))
    ∙ ap (λ (n : ℕ). record { column = column; text = take n text } ∷ words_from (column + n) (drop n text)) (prefix_whole text (no_blank text is))
    ∙ ap (λ (l : List ℕ). record { column = column; text = l } ∷ words_from (column + length text) (drop (length text) text)) (take_all (length text) text (omega arith))
    ∙ ap (λ (l : List ℕ). record { column = column; text = text } ∷ words_from (column + length text) l) (ends text)
  where
    ends : (bytes : List ℕ) → drop (length bytes) bytes ≡ []
    ends [] = refl
    ends (byte ∷ bytes) = ends bytes

-- all of them
pub joined_words : (column : ℕ) (texts : List (List ℕ)) → AreWords texts → words_from column (join_with_byte 32 texts) ≡ placed column texts
joined_words column [] are = refl
joined_words column (text ∷ []) are = word_solo column text are.0
joined_words column (text ∷ next ∷ texts) are =
    word_and_more column text (join_with_byte 32 (next ∷ texts)) are.0
    ∙ ap (λ (words : List Word). record { column = column; text = text } ∷ words) (joined_words (column + length text + 1) (next ∷ texts) are.1)
