-- The other way: words that pass the tests are the spelling of what they tell.
use Rattle.std.proofs.Common.{◌≡◌, ℕ, ◌+◌, ◌-◌, ◌*◌, ◌/◌, ◌%◌, ◌^◌, ◌<◌, ◌≤◌, ◌==◌, Bool, true, false, if◌then◌else◌, List, length, get_or, inl, inr, refl, sym, ap, ◌∙◌, arith}
use Rattle.std.proofs.lemmas.Bool.{cases_lt, eq-eqb, ne_eqb, cases_eq}
use Rattle.std.proofs.lemmas.List.{get_or_past}
use Rattle.fam_base.specs.Image.{byte_of}
use Rattle.fam_base.specs.ExtentLists.{no_extent}
use Rattle.fam_format.specs.Layout.{Geometry}
use Rattle.fam_format.specs.Words.{word_of_bytes}
use Rattle.fam_format.specs.Slot.{extents_word, path_word, kind_word, kind_of, extent_word, slot_word_at, extent_of, extents_of, path_of, fields_of, spelling, slot_crc}
use Rattle.fam_format.proofs.Filling.{spelling_of_words}
use Rattle.fam_format.proofs.PathWords.{words_read}
use Rattle.fam_format.proofs.WordRounds.{length_of_bytes}
use Rattle.fam_format.proofs.RoundTrip.{words_before, word_between, word_behind, length_of_extents, extent_of_extents}
use Rattle.fam_format.proofs.SlotTests.{MapBack, RestIsZero}

-- an extent's word is the word at its place
extent_half : (words : List ℕ) (k odd i : ℕ) → odd < 2 → extents_word + 2 * k + odd ≡ i → (if odd == 0 then (extent_of words k).offset else (extent_of words k).length) ≡ get_or words i 0
extent_half words k odd i small at =
    elim (cases_eq odd 0) [
      | inl zero ↦
          let test : (odd == 0) ≡ true = eq-eqb odd 0 zero in
          let place : extents_word + 2 * k ≡ i = omega arith in
          rw test (ap (λ (n : ℕ). get_or words n 0) place)
      | inr other ↦
          let test : (odd == 0) ≡ false = ne_eqb odd 0 other in
          let one : odd ≡ 1 = omega arith in
          let place : extents_word + 1 + 2 * k ≡ i = omega arith in
          rw test (ap (λ (n : ℕ). get_or words n 0) place)
    ]

-- both words of no extent are zero
extent_zero : (odd : ℕ) → (if odd == 0 then no_extent.offset else no_extent.length) ≡ 0
extent_zero odd = elim (odd == 0) as (λ (b : Bool). (if b then no_extent.offset else no_extent.length) ≡ 0) [ true ↦ refl | false ↦ refl ]

-- a word of the extents that are read, by its place
pub extent_word_back : (g : Geometry) (words : List ℕ) (i : ℕ) → RestIsZero g words → extents_word ≤ i → i < path_word → i < g.words - 1
    → get_or words i 0 ≡ extent_word (extents_of words (get_or words 9 0)) (i - extents_word)
extent_word_back g words i rest from before below =
    elim (cases_lt ((i - extents_word) / 2) (get_or words 9 0)) [
      | inl inside ↦
          let x : get_or (extents_of words (get_or words 9 0)) ((i - extents_word) / 2) no_extent ≡ extent_of words ((i - extents_word) / 2) =
          extent_of_extents words (get_or words 9 0) ((i - extents_word) / 2) inside in
          rw x (sym (extent_half words ((i - extents_word) / 2) ((i - extents_word) % 2) i (omega arith) (omega arith)))
      | inr past ↦
          let x : get_or (extents_of words (get_or words 9 0)) ((i - extents_word) / 2) no_extent ≡ no_extent =
          get_or_past (extents_of words (get_or words 9 0)) ((i - extents_word) / 2) no_extent (omega (arith, length_of_extents words (get_or words 9 0))) in
          rw x (rest.extents i before (omega arith) below ∙ sym (extent_zero ((i - extents_word) % 2)))
    ]

-- a word of the path that is read, by its place
pub path_word_back : (g : Geometry) (words : List ℕ) (i : ℕ) → RestIsZero g words → ((k : ℕ) → get_or words k 0 < 2 ^ 64) → path_word ≤ i
    → i < g.words - 1 → get_or words i 0 ≡ word_of_bytes (path_of words) (i - path_word)
path_word_back g words i rest fits from below =
    let at : path_word + (i - path_word) ≡ i = omega arith in
    let read : get_or words (path_word + (i - path_word)) 0 ≡ word_of_bytes (path_of words) (i - path_word) =
    words_read path_word words (get_or words 6 0) (i - path_word) (fits (path_word + (i - path_word)))
    (λ j small past. ap (λ (n : ℕ). byte_of (get_or words n 0) j) at ∙ rest.path i j from below small past) in
    ap (λ (n : ℕ). get_or words n 0) (sym at) ∙ read

-- each word before the checksum is that of the table
pub table_back : (g : Geometry) (words : List ℕ) (seq : ℕ) → ((k : ℕ) → get_or words k 0 < 2 ^ 64) → get_or words 0 0 ≡ seq
    → get_or words 1 0 ≡ kind_word (kind_of (get_or words 1 0)) → MapBack (get_or words 7 0) (get_or words 8 0) → RestIsZero g words →
    (k : ℕ) → k < g.words - 1 → get_or words k 0 ≡ slot_word_at (fields_of words) seq k
unfolding fields_of
table_back g words seq fits number kind map rest k below =
    elim (cases_lt k extents_word) [
      | inl head ↦ words_before (λ i. get_or words i 0) (fields_of words) seq number kind refl refl refl refl
          (sym (length_of_bytes path_word words (get_or words 6 0))) map.same_kind map.same_chunk (sym (length_of_extents words (get_or words 9 0))) k
          head
      | inr from ↦ elim (cases_lt k path_word) [
        | inl before ↦ extent_word_back g words k rest from before below ∙ sym (word_between (fields_of words) seq k from before)
        | inr behind ↦ path_word_back g words k rest fits behind below ∙ sym (word_behind (fields_of words) seq k behind)
      ]
    ]

-- the words are the spelling of what they tell
pub words_back : (g : Geometry) (words : List ℕ) (seq : ℕ) → path_word ≤ g.words - 1 → length words ≡ g.words → ((k : ℕ) → get_or words k 0 < 2 ^ 64)
    → get_or words (g.words - 1) 0 ≡ slot_crc g words → get_or words 0 0 ≡ seq →
    get_or words 1 0 ≡ kind_word (kind_of (get_or words 1 0)) → MapBack (get_or words 7 0) (get_or words 8 0) → RestIsZero g words → words ≡ spelling g (fields_of words) seq
words_back g words seq prefix long fits crc number kind map rest = spelling_of_words g (fields_of words) seq words (omega arith) long crc (table_back g words seq fits number kind map rest)
