-- A path's bytes in the words of a slot: the way from words to bytes, with zeros behind.
use Rattle.std.proofs.Common.{◌≡◌, ℕ, ◌+◌, ◌*◌, ◌/◌, ◌%◌, ◌^◌, ◌<◌, ◌≤◌, List, get_or, inl, inr, refl, sym, ap, ◌∙◌, arith}
use Rattle.std.proofs.lemmas.Bool.{cases_lt}
use Rattle.std.proofs.lemmas.List.{get_or_past}
use Rattle.std.proofs.lemmas.List.FromFn.{get_or-map-range_with_len}
use Rattle.fam_base.specs.Image.{byte_of}
use Rattle.fam_format.specs.Words.{word_of_bytes, byte_from, bytes_from}
use Rattle.fam_format.proofs.WordRounds.{read_of_bytes, length_of_bytes}

-- a word whose bytes are bytes 8 k to 8 k + 7 of the list is its word k
pub word_from_bytes : (bytes : List ℕ) (k word : ℕ) → word < 2 ^ 64 → ((j : ℕ) → j < 8 → byte_of word j ≡ get_or bytes (8 * k + j) 0) → word ≡ word_of_bytes bytes k
unfolding word_of_bytes
word_from_bytes bytes k word fits each = sym (read_of_bytes (λ i. get_or bytes (8 * k + i) 0) 8 word refl fits each)

-- byte i of those that are read
pub byte_of_bytes : (first : ℕ) (words : List ℕ) (count i : ℕ) → i < count → get_or (bytes_from first words count) i 0 ≡ byte_from first words i
unfolding bytes_from
byte_of_bytes first words count i below = get_or-map-range_with_len (byte_from first words) 0 count i i 0 below (omega arith)

-- a word below 2 ^ 64 whose bytes past the count are zero is the word of what is read
pub words_read : (first : ℕ) (words : List ℕ) (count k : ℕ) → get_or words (first + k) 0 < 2 ^ 64 → ((j : ℕ) → j < 8 → count ≤ 8 * k + j → byte_of (get_or words (first + k) 0) j ≡ 0) →
    get_or words (first + k) 0 ≡ word_of_bytes (bytes_from first words count) k
words_read first words count k fits zeros =
    word_from_bytes (bytes_from first words count) k (get_or words (first + k) 0) fits
    (λ j below. elim (cases_lt (8 * k + j) count) [
      | inl inside ↦
          let word : (8 * k + j) / 8 ≡ k = omega arith in
          let place : (8 * k + j) % 8 ≡ j = omega arith in
          sym (byte_of_bytes first words count (8 * k + j) inside ∙ ap (λ (w : ℕ). byte_of (get_or words (first + w) 0) ((8 * k + j) % 8)) word ∙ ap (byte_of (get_or words (first + k) 0)) place)
      | inr past ↦ zeros j below past ∙ sym (get_or_past (bytes_from first words count) (8 * k + j) 0 (omega (arith, length_of_bytes first words count)))
    ])
