-- Texts of words with a space between, and which words are such.
use Rattle.std.proofs.Common.{◌≡◌, ℕ, zero, suc, ◌<◌, Bool, true, false, cond, List, [], ◌∷◌, ◌++◌, length, Some, None, refl, ap, sym, ◌∙◌, arith, append-nil, append_assoc, inl}
use Rattle.std.specs.Prelude.{◌/◌, ◌%◌, ◌&&◌, not, All, slice_index, if◌then◌else◌}
use Rattle.std.specs.List.{join_with_byte, list_all, flat_map}
use Rattle.std.proofs.lemmas.Bool.{and_parts}
use Rattle.std.proofs.lemmas.Bool.Decides.{nat_tests}
use Rattle.std.proofs.lemmas.List.Elements.{All-cons, All-nil, All-head, All-tail}
use Rattle.std.proofs.lemmas.Str.{IsUtf8-from_ascii, is_utf8-from_IsUtf8}
use Rattle.uuid.proofs.RoundTrips.{parses_hyphenated}
use Rattle.uuid.proofs.TextLemmas.{by_index_length, hyphenated_ascii, nibble_small}
use Rattle.uuid.specs.Text.{by_index, digit_place, hex_digit as uuid_digit, hyphenated_text, is_hyphen_place, lower, nibble, parsed}
use Rattle.fam_base.specs.Escapes.{AreBytes, escaped, escaped_byte, hex_digit, is_plain}
use Rattle.fam_base.specs.HostNames.{is_host_name, is_name_byte}
use Rattle.fam_format.specs.Params.{IsUuid}
use Rattle.fam_grammar.specs.Spellings.{file_of, is_file_name, name_of, uuid_of}
use Rattle.fam_grammar.specs.Words.{is_blank, words_from}
use Rattle.fam_grammar.proofs.Joined.{AreWords, HasNoBlank, IsOneWord, joined_words, no_blank-append, placed}
use Rattle.fam_grammar.proofs.Respelled.{AreSmall, escaped_no_blank, unescaped-escaped}

-- words, each behind a space
abbrev pub spaced : List (List ℕ) → List ℕ
spaced [] = []
spaced (word ∷ words) = 32 ∷ (word ++ spaced words)

pub spaced-append : (a b : List (List ℕ)) → spaced (a ++ b) ≡ spaced a ++ spaced b
spaced-append [] b = refl
spaced-append (word ∷ words) b =
    ap (λ (l : List ℕ). 32 ∷ (word ++ l)) (spaced-append words b) ∙ ap (λ (l : List ℕ). 32 ∷ l) (sym (append_assoc word (spaced words) (spaced b)))

pub joined : (word : List ℕ) (words : List (List ℕ)) → join_with_byte 32 (word ∷ words) ≡ word ++ spaced words
joined word [] = sym (append-nil word)
joined word (next ∷ words) = ap (λ (l : List ℕ). word ++ 32 ∷ l) (joined next words)

-- such a text is cut into these words
pub placed_words : (column : ℕ) (text word : List ℕ) (words : List (List ℕ)) → text ≡ word ++ spaced words → AreWords (word ∷ words)
    → words_from column text ≡ placed column (word ∷ words)
placed_words column text word words is are =
    ap (words_from column) (is ∙ sym (joined word words)) ∙ joined_words column (word ∷ words) are

pub are-append : (a b : List (List ℕ)) → AreWords a → AreWords b → AreWords (a ++ b)
are-append [] b none more = more
are-append (word ∷ words) b some more = (some.0, are-append words b some.1 more)

-- To the right.

pub four : (a b c d : List ℕ) → a ++ b ++ c ++ d ≡ a ++ (b ++ (c ++ d))
four a b c d = simp append_assoc refl

pub seven : (a b c d e f g : List ℕ) → a ++ b ++ c ++ d ++ e ++ f ++ g ≡ a ++ (b ++ (c ++ (d ++ (e ++ (f ++ g)))))
seven a b c d e f g = simp append_assoc refl

pub eight : (a b c d e f g h : List ℕ) → a ++ b ++ c ++ d ++ e ++ f ++ g ++ h ≡ a ++ (b ++ (c ++ (d ++ (e ++ (f ++ (g ++ h))))))
eight a b c d e f g h = simp append_assoc refl

pub ten : (a b c d e f g h i j : List ℕ) → a ++ b ++ c ++ d ++ e ++ f ++ g ++ h ++ i ++ j ≡ a ++ (b ++ (c ++ (d ++ (e ++ (f ++ (g ++ (h ++ (i ++ j))))))))
ten a b c d e f g h i j = simp append_assoc refl

-- Literals.

-- a test of a literal
abbrev pub is_free : List ℕ → Bool
is_free [] = true
is_free (b ∷ bytes) = not (is_blank b) && is_free bytes

not_of : (t : Bool) → not t ≡ true → t ≡ false
not_of true h = sym h
not_of false h = refl

pub free : (bytes : List ℕ) → is_free bytes ≡ true → HasNoBlank bytes
free [] h = tt
free (b ∷ bytes) h = let parts = and_parts (not (is_blank b)) (is_free bytes) h in (not_of (is_blank b) parts.0, free bytes parts.1)

-- a literal in front of a value
pub keyed : (b : ℕ) (key value : List ℕ) → is_free (b ∷ key) ≡ true → HasNoBlank value → IsOneWord ((b ∷ key) ++ value)
keyed b key value h none = no_blank-append (b ∷ key) value (free (b ∷ key) h) none

-- all of these literals are words
abbrev pub are_free : List (List ℕ) → Bool
are_free [] = true
are_free ([] ∷ texts) = false
are_free ((b ∷ bytes) ∷ texts) = is_free (b ∷ bytes) && are_free texts

-- bytes without a blank are a word where there is one
pub one_word : (bytes : List ℕ) → 0 < length bytes → HasNoBlank bytes → IsOneWord bytes
one_word [] some none = absurd (omega arith)
one_word (byte ∷ bytes) some none = none

-- Names of hosts.

name_free : (bytes : List ℕ) → list_all is_name_byte bytes ≡ true → HasNoBlank bytes
name_free [] all = tt
name_free (b ∷ bytes) all =
    let parts = and_parts (is_name_byte b) (list_all is_name_byte bytes) all in
    (byte_free b parts.0, name_free bytes parts.1)
  where
    byte_free : (b : ℕ) → is_name_byte b ≡ true → is_blank b ≡ false
    byte_free b is = grind (arith, nat_tests)

pub name_is_word : (name : List ℕ) → is_host_name name ≡ true → IsOneWord name
unfolding is_host_name
name_is_word name is =
    one_word name (grind (arith, nat_tests)) (name_free name (grind (arith, nat_tests)))

pub name_back : (name : List ℕ) → is_host_name name ≡ true → name_of name ≡ Some name
name_back name is = ap (λ (t : Bool). cond t (Some name) None) is

-- UUIDs.

indexed_free : (n : ℕ) (f : ℕ → ℕ) → ((k : ℕ) → is_blank (f k) ≡ false) → HasNoBlank (by_index n f)
unfolding by_index
indexed_free zero f none = tt
indexed_free (suc n) f none = no_blank-append (by_index n f) (f n ∷ []) (indexed_free n f none) (none n, tt)

digit_free : (d : ℕ) → d < 16 → is_blank (uuid_digit lower d) ≡ false
digit_free d small = grind (arith, nat_tests)

place_free : (t : Bool) (d : ℕ) → is_blank d ≡ false → is_blank (if t then 45 else d) ≡ false
place_free true d is = refl
place_free false d is = is

pub uuid_is_word : (id : List ℕ) → IsOneWord (hyphenated_text lower id)
uuid_is_word id =
    one_word (hyphenated_text lower id) (omega (arith, by_index_length {X = ℕ} 36 (λ k. if is_hyphen_place k then 45 else uuid_digit lower (nibble id (digit_place k)))))
    (indexed_free 36 (λ k. if is_hyphen_place k then 45 else uuid_digit lower (nibble id (digit_place k)))
    (λ k. place_free (is_hyphen_place k) _ (digit_free (nibble id (digit_place k)) (nibble_small id (digit_place k)))))

all_bytes : (id : List ℕ) → ((i : ℕ) → slice_index id i < 256) → All (λ b. b < 256) id
all_bytes [] fits = All-nil (λ b. b < 256)
all_bytes (b ∷ id) fits = All-cons (λ b. b < 256) b id (fits 0) (all_bytes id (λ i. fits (suc i)))

pub uuid_back : (id : List ℕ) → IsUuid id → uuid_of (hyphenated_text lower id) ≡ Some id
unfolding uuid_of
uuid_back id is =
    ap (λ (t : Bool). cond t (parsed (hyphenated_text lower id)) None)
    (is_utf8-from_IsUtf8 (hyphenated_text lower id) (IsUtf8-from_ascii (hyphenated_text lower id) (hyphenated_ascii lower id (inl refl))))
    ∙ sym (parses_hyphenated lower id (inl refl) is.count (all_bytes id is.fits))

-- Names of files.

small_bytes : (bytes : List ℕ) → AreBytes bytes → AreSmall bytes
small_bytes [] all = tt
small_bytes (b ∷ bytes) all = (All-head (λ b. b < 256) b bytes all, small_bytes bytes (All-tail (λ b. b < 256) b bytes all))

escaped_some : (bytes : List ℕ) → 0 < length bytes → 0 < length (escaped bytes)
unfolding escaped
escaped_some [] some = absurd (omega arith)
escaped_some (byte ∷ bytes) some =
    elim (is_plain byte) as (λ t. 0 < length (cond t (byte ∷ []) (0x5c ∷ 0x78 ∷ hex_digit (byte / 16) ∷ hex_digit (byte % 16) ∷ []) ++ flat_map escaped_byte bytes)) [
      | true ↦ omega arith
      | false ↦ omega arith
    ]

name_some : (name : List ℕ) → is_file_name name ≡ true → 0 < length name
name_some name is = grind (arith, nat_tests)

pub file_is_word : (name : List ℕ) → is_file_name name ≡ true → AreBytes name → IsOneWord (escaped name)
file_is_word name is bytes = one_word (escaped name) (escaped_some name (name_some name is)) (escaped_no_blank name (small_bytes name bytes))

pub file_back : (name : List ℕ) → is_file_name name ≡ true → AreBytes name → file_of (escaped name) ≡ Some name
unfolding file_of
file_back name is bytes = rw (unescaped-escaped name (small_bytes name bytes), is) refl
