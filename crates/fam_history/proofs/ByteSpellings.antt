-- Bytes of a word, pair by pair.
use Rattle.std.proofs.Common.{◌≡◌, ℕ, ◌-◌, ◌<◌, ◌≤◌, length, get_or, take, drop, List, [], ◌∷◌, ◌++◌, Option, Some, None, refl, ap, sym, ◌∙◌, arith, append-nil}
use Rattle.std.proofs.lemmas.List.{take_rest}
use Rattle.fam_grammar.specs.Spellings.{byte_of, in_prefix, in_prefix_of}
use Rattle.fam_grammar.proofs.SpellingLemmas.{behind, behind-in_prefix}
use Rattle.fam_history.specs.ByteWords.{paired}

-- one more byte of a word is read
pub pair_read : (word prefix : List ℕ) (byte : ℕ) (rest more : Option (List ℕ)) → paired word ≡ behind prefix rest → rest ≡ in_prefix byte more → paired word ≡ behind (prefix ++ byte ∷ []) more
pair_read word prefix byte rest more was first = was ∙ ap (behind prefix) first ∙ behind-in_prefix prefix byte more

-- all of a word is read
pub pairs_read : (word prefix rest : List ℕ) → paired word ≡ behind prefix (paired rest) → length rest ≡ 0 → paired word ≡ Some prefix
pairs_read word prefix [] was none = was ∙ ap (λ (l : List ℕ). Some l) (append-nil prefix)
pairs_read word prefix (b ∷ rest) was none = absurd (omega arith)

-- what is left of a word isn't spelled so
pub pairs_none : (word prefix : List ℕ) (rest : Option (List ℕ)) → paired word ≡ behind prefix rest → rest ≡ None → paired word ≡ None
pairs_none word prefix rest was none = was ∙ ap (behind prefix) none

-- a digit is left alone
pub half_left : (word : List ℕ) → 0 < length word → length word < 2 → paired word ≡ None
half_left [] some few = absurd (omega arith)
half_left (a ∷ []) some few = refl
half_left (a ∷ b ∷ word) some few = absurd (omega arith)

-- two digits that stand for a byte, or don't
pub pair_first : (word : List ℕ) (byte : Option ℕ) → 2 ≤ length word → byte ≡ byte_of (get_or word 0 0) (get_or word 1 0)
    → paired word ≡ in_prefix_of byte (paired (take (length word - 2) (drop 2 word)))
pair_first [] byte some is = absurd (omega arith)
pair_first (a ∷ []) byte some is = absurd (omega arith)
pair_first (a ∷ b ∷ word) byte some is =
    ap (λ (o : Option ℕ). in_prefix_of o (paired word)) (sym is) ∙ ap (λ (l : List ℕ). in_prefix_of byte (paired l)) (sym (take_rest (a ∷ b ∷ word) 2))
