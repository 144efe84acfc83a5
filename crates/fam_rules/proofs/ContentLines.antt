-- Lines of a file by their bytes, and the bytes of a content.
use Rattle.std.proofs.Common.{◌≡◌, ℕ, ◌+◌, ◌*◌, ◌/◌, ◌%◌, ◌^◌, ◌<◌, ◌≤◌, List, length, get_or, inl, inr, refl, sym, ap, ◌∙◌, arith}
use Rattle.std.proofs.lemmas.Bool.{cases_lt}
use Rattle.std.proofs.lemmas.List.{get_or_past}
use Rattle.std.proofs.lemmas.List.FromFn.{get_or-map-range_with_len, length-map-range_with_len, fill_by_all}
use Rattle.fam_base.specs.declared.cmd.Content.{Content}
use Rattle.fam_base.specs.declared.cmd.Content.TheVariants.{Zero, Seed, Bytes}
use Rattle.fam_base.specs.Image.{byte_of}
use Rattle.fam_format.specs.Words.{word_of_bytes}
use Rattle.fam_format.proofs.WordRounds.{read_of_bytes, byte_of_word}
use Rattle.fam_rules.specs.Content.{stream_word, content_byte, HoldsBytes, fill, file_words, content_line, byte_in}

-- word w of a line
pub word_of_line : (bytes : List ℕ) (j w : ℕ) → w < 8 → get_or (file_words bytes j) w 0 ≡ word_of_bytes bytes (8 * j + w)
word_of_line bytes j w below = get_or-map-range_with_len (λ v. word_of_bytes bytes (8 * j + v)) 0 8 w w 0 below (omega arith)

-- byte o of a file stands in line o / 64, at byte o mod 64
pub byte_of_line : (bytes : List ℕ) (o : ℕ) → ((i : ℕ) → get_or bytes i 0 < 256) → byte_in (file_words bytes (o / 64)) (o % 64) ≡ get_or bytes o 0
byte_of_line bytes o fits =
    let at : 8 * (8 * (o / 64) + o % 64 / 8) + o % 64 % 8 ≡ o = omega arith in
    ap (λ (word : ℕ). byte_of word (o % 64 % 8)) (word_of_line bytes (o / 64) (o % 64 / 8) (omega arith))
    ∙ byte_of_word bytes (8 * (o / 64) + o % 64 / 8) (o % 64 % 8) fits (omega arith)
    ∙ ap (λ (i : ℕ). get_or bytes i 0) at

-- byte i of word w of a line
byte_of_word_in : (words bytes : List ℕ) (j w i : ℕ) → ((b : ℕ) → b < 64 → byte_in words b ≡ get_or bytes (64 * j + b) 0) → w < 8 → i < 8
    → byte_of (get_or words w 0) i ≡ get_or bytes (8 * (8 * j + w) + i) 0
byte_of_word_in words bytes j w i each below small =
    let word : (8 * w + i) / 8 ≡ w = omega arith in
    let byte : (8 * w + i) % 8 ≡ i = omega arith in
    let at : 64 * j + (8 * w + i) ≡ 8 * (8 * j + w) + i = omega arith in
    let is : byte_in words (8 * w + i) ≡ get_or bytes (64 * j + (8 * w + i)) 0 = each (8 * w + i) (omega arith) in
    ap (λ (v : ℕ). byte_of (get_or words v 0) i) (sym word)
    ∙ ap (byte_of (get_or words ((8 * w + i) / 8) 0)) (sym byte)
    ∙ is
    ∙ ap (λ (o : ℕ). get_or bytes o 0) at

-- eight words that hold the bytes of a line are the line
pub line_by_bytes : (words bytes : List ℕ) (j : ℕ) → length words ≡ 8 → ((w : ℕ) → get_or words w 0 < 2 ^ 64)
    → ((b : ℕ) → b < 64 → byte_in words b ≡ get_or bytes (64 * j + b) 0) → words ≡ file_words bytes j
unfolding word_of_bytes
line_by_bytes words bytes j count fits each =
    fill_by_all (λ w. word_of_bytes bytes (8 * j + w)) words 8 0 count (λ w below.
    sym (read_of_bytes (λ i. get_or bytes (8 * (8 * j + w) + i) 0) 8 (get_or words w 0) refl (fits w) (λ i small. byte_of_word_in words bytes j w i each below small)))

-- a file has as many bytes as its size says
pub length_of_fill : (content : Content) (size : ℕ) → length (fill content size) ≡ size
unfolding fill
length_of_fill content size = length-map-range_with_len (content_byte content) 0 size

-- byte o of a file
pub byte_of_fill : (content : Content) (size o : ℕ) → o < size → get_or (fill content size) o 0 ≡ content_byte content o
unfolding fill
byte_of_fill content size o below = get_or-map-range_with_len (content_byte content) 0 size o o 0 below (omega arith)

-- there is none behind the size
pub no_byte_of_fill : (content : Content) (size o : ℕ) → size ≤ o → get_or (fill content size) o 0 ≡ 0
no_byte_of_fill content size o past = get_or_past (fill content size) o 0 (omega (arith, length_of_fill content size))

-- a content has bytes
pub content_byte_fits : (content : Content) (i : ℕ) → HoldsBytes content → content_byte content i < 256
content_byte_fits Zero i holds = omega arith
content_byte_fits (Seed seed) i holds = omega arith
content_byte_fits (Bytes bytes) i holds = holds i

-- so has a file
pub fill_fits : (content : Content) (size o : ℕ) → HoldsBytes content → get_or (fill content size) o 0 < 256
fill_fits content size o holds =
    elim (cases_lt o size) [
      | inl below ↦ omega (arith, byte_of_fill content size o below, content_byte_fits content o holds)
      | inr past ↦ omega (arith, no_byte_of_fill content size o past)
    ]

-- a word of a stream has 64 bits
pub stream_word_fits : (seed i : ℕ) → stream_word seed i < 2 ^ 64
unfolding stream_word
stream_word_fits seed i = omega arith

-- byte j of word k of a stream is byte 8 k + j of the content
pub byte_of_stream : (seed k j : ℕ) → j < 8 → byte_of (stream_word seed k) j ≡ content_byte (Seed seed) (8 * k + j)
byte_of_stream seed k j small =
    let word : (8 * k + j) / 8 ≡ k = omega arith in
    let byte : (8 * k + j) % 8 ≡ j = omega arith in
    ap (λ (i : ℕ). byte_of (stream_word seed i) j) (sym word)
    ∙ ap (byte_of (stream_word seed ((8 * k + j) / 8))) (sym byte)

-- a word of a seeded file's line is a word of the stream
pub stream_word_of_line : (seed size j w : ℕ) → w < 8 → 64 * j + 8 * w + 8 ≤ size → get_or (content_line (Seed seed) size j) w 0 ≡ stream_word seed (8 * j + w)
unfolding word_of_bytes
stream_word_of_line seed size j w below within =
    word_of_line (fill (Seed seed) size) j w below
    ∙ read_of_bytes (λ i. get_or (fill (Seed seed) size) (8 * (8 * j + w) + i) 0) 8 (stream_word seed (8 * j + w)) refl (stream_word_fits seed (8 * j + w))
    (λ i small. byte_of_stream seed (8 * j + w) i small ∙ sym (byte_of_fill (Seed seed) size (8 * (8 * j + w) + i) (omega arith)))
