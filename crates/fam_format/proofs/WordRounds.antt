-- Bytes become words and come back, and words bytes.
use Rattle.std.proofs.Common.{◌≡◌, ℕ, zero, suc, ◌+◌, ◌*◌, ◌/◌, ◌%◌, ◌^◌, ◌<◌, ◌≤◌, List, length, map, get_or, inl, inr, refl, sym, ap, ◌∙◌, arith}
use Rattle.std.specs.List.{range_with_len}
use Rattle.std.specs.Int.{byte_at, bytes_low_first, to_le_bytes, from_le_bytes, w64}
use Rattle.std.proofs.lemmas.Bool.{cases_lt}
use Rattle.std.proofs.lemmas.List.{get_or_past}
use Rattle.std.proofs.lemmas.Nat.{le_bytes_8, from_le_bytes-to_le_bytes_8}
use Rattle.std.proofs.lemmas.List.FromFn.{get_or-map-range_with_len, length-map-range_with_len, fill_by_all}
use Rattle.fam_base.specs.Image.{byte_of}
use Rattle.fam_format.specs.Words.{word_of_bytes, byte_from, bytes_from}

byte_at_is : (i n : ℕ) → byte_at i n ≡ byte_of n i
byte_at_is zero n = let e : n / 256 ^ 0 ≡ n = omega arith in ap (λ (x : ℕ). x % 256) (sym e)
byte_at_is (suc i) n = refl

-- byte j of those from i on
nth_byte : (k i n j : ℕ) → j < k → get_or (bytes_low_first i k n) j 0 ≡ byte_of n (i + j)
nth_byte zero i n j below = absurd (omega arith)
nth_byte (suc k) i n zero below = let e : i ≡ i + 0 = omega arith in byte_at_is i n ∙ ap (byte_of n) e
nth_byte (suc k) i n (suc j) below = let e : suc i + j ≡ i + suc j = omega arith in nth_byte k (suc i) n j (omega arith) ∙ ap (byte_of n) e

-- byte j of the eight of a word
pub le_byte : (n j : ℕ) → j < 8 → get_or (to_le_bytes w64 n) j 0 ≡ byte_of n j
le_byte n j below = let e : 0 + j ≡ j = omega arith in nth_byte 8 0 n j below ∙ ap (byte_of n) e

-- a list of bytes, and zeros behind it
members_fit : (f : ℕ → ℕ) (n : ℕ) → ((j : ℕ) → f j < 256) → (i : ℕ) → get_or (map f (range_with_len 0 n)) i 0 < 256
members_fit f n fits i =
    elim (cases_lt i n) [
      | inl h ↦ omega (arith, fits i, get_or-map-range_with_len f 0 n i i 0 h (omega arith))
      | inr h ↦ omega (arith, get_or_past (map f (range_with_len 0 n)) i 0 (omega (arith, length-map-range_with_len f 0 n)))
    ]

-- byte j of a word that is read from f 0 to f 7
byte_of_read : (f : ℕ → ℕ) (n : ℕ) → n ≡ 8 → ((j : ℕ) → f j < 256) → (j : ℕ) → j < 8 → byte_of (from_le_bytes w64 (map f (range_with_len 0 n))) j ≡ f j
byte_of_read f n eight fits j below =
    let bytes : List ℕ = map f (range_with_len 0 n) in
    let back : to_le_bytes w64 (from_le_bytes w64 bytes) ≡ bytes = le_bytes_8 bytes _ (length-map-range_with_len f 0 n ∙ eight) (members_fit f n fits) refl in
    sym (le_byte (from_le_bytes w64 bytes) j below) ∙ ap (λ (l : List ℕ). get_or l j 0) back ∙ get_or-map-range_with_len f 0 n j j 0 (omega arith) (omega arith)

-- a word is what its bytes f 0 to f 7 read as
pub read_of_bytes : (f : ℕ → ℕ) (n word : ℕ) → n ≡ 8 → word < 2 ^ 64 → ((j : ℕ) → j < 8 → byte_of word j ≡ f j) → from_le_bytes w64 (map f (range_with_len 0 n)) ≡ word
read_of_bytes f n word eight fits each =
    let bytes : to_le_bytes w64 word ≡ map f (range_with_len 0 n) = fill_by_all f (to_le_bytes w64 word) n 0 (sym eight) (λ j below. le_byte word j (omega arith) ∙ each j (omega arith)) in
    ap (from_le_bytes w64) (sym bytes) ∙ from_le_bytes-to_le_bytes_8 word fits

-- byte j of word k is byte 8 k + j of the list
pub byte_of_word : (bytes : List ℕ) (k j : ℕ) → ((i : ℕ) → get_or bytes i 0 < 256) → j < 8 → byte_of (word_of_bytes bytes k) j ≡ get_or bytes (8 * k + j) 0
unfolding word_of_bytes
byte_of_word bytes k j fits below = byte_of_read (λ i. get_or bytes (8 * k + i) 0) 8 refl (λ i. fits (8 * k + i)) j below

-- how many bytes are read
pub length_of_bytes : (first : ℕ) (words : List ℕ) (count : ℕ) → length (bytes_from first words count) ≡ count
unfolding bytes_from
length_of_bytes first words count = length-map-range_with_len (byte_from first words) 0 count

-- what is read are bytes, and zeros behind
pub bytes_of_words_fit : (first : ℕ) (words : List ℕ) (count i : ℕ) → get_or (bytes_from first words count) i 0 < 256
unfolding bytes_from
bytes_of_words_fit first words count i = members_fit (byte_from first words) count (λ j. omega arith) i

-- bytes that went into words from one on come back
pub bytes_back : (first : ℕ) (words : List ℕ) (count : ℕ) (bytes : List ℕ) → length bytes ≡ count → ((i : ℕ) → get_or bytes i 0 < 256)
    → ((k : ℕ) → 8 * k < count → get_or words (first + k) 0 ≡ word_of_bytes bytes k) → bytes_from first words count ≡ bytes
unfolding bytes_from
bytes_back first words count bytes len fits each =
    sym (fill_by_all (byte_from first words) bytes count 0 len (λ i below.
    let at : 8 * (i / 8) + i % 8 ≡ i = omega arith in
    let is : byte_from first words i ≡ get_or bytes i 0 =
    ap (λ (w : ℕ). byte_of w (i % 8)) (each (i / 8) (omega arith)) ∙ byte_of_word bytes (i / 8) (i % 8) fits (omega arith) ∙ ap (λ (p : ℕ). get_or bytes p 0) at in
    sym is))

-- a word that was read as eight whole bytes comes back
pub word_back : (first : ℕ) (words : List ℕ) (count k : ℕ) → 8 * k + 8 ≤ count → get_or words (first + k) 0 < 2 ^ 64 → word_of_bytes (bytes_from first words count) k ≡ get_or words (first + k) 0
unfolding bytes_from word_of_bytes
word_back first words count k within fits =
    read_of_bytes (λ j. get_or (map (byte_from first words) (range_with_len 0 count)) (8 * k + j) 0) 8 (get_or words (first + k) 0) refl fits (λ j below.
    let word : (8 * k + j) / 8 ≡ k = omega arith in
    let byte : (8 * k + j) % 8 ≡ j = omega arith in
    let is : get_or (map (byte_from first words) (range_with_len 0 count)) (8 * k + j) 0 ≡ byte_from first words (8 * k + j) =
    get_or-map-range_with_len (byte_from first words) 0 count (8 * k + j) (8 * k + j) 0 (omega arith) (omega arith) in
    sym (is ∙ rw (word, byte) refl))
