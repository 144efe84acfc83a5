-- The tests of a slot: what each says of the words.
use Rattle.std.proofs.Common.{◌≡◌, ℕ, ◌+◌, ◌-◌, ◌*◌, ◌/◌, ◌%◌, ◌^◌, ◌<◌, ◌≤◌, ◌⊎◌, ◌==◌, ◌&&◌, not, Bool, true, false, nat_lt, nat_le, if◌then◌else◌, List, length, get_or, Some, None, inl, inr, refl, sym, ap, ◌∙◌, arith}
use Rattle.std.specs.List.{range_with_len, list_any, find}
use Rattle.std.proofs.lemmas.Bool.{cases_lt, cases_eq, lt-ltb, le-ltb}
use Rattle.std.proofs.lemmas.Bool.Decides.{nat_tests}
use Rattle.std.proofs.lemmas.List.{get_or_past}
use Rattle.fam_base.specs.declared.entry.Entry.{Entry}
use Rattle.fam_base.specs.declared.entry.Kind.{Kind}
use Rattle.fam_base.specs.declared.entry.Kind.TheVariants.{File, Directory}
use Rattle.fam_base.specs.declared.entry.MapKind.{MapKind}
use Rattle.fam_base.specs.declared.entry.MapKind.TheVariants.{Empty, Simple, Striped}
use Rattle.fam_base.specs.declared.extents.Extent.{Extent}
use Rattle.fam_base.specs.ExtentLists.{no_extent}
use Rattle.fam_base.specs.Image.{byte_of}
use Rattle.fam_base.specs.Paths.{is_path}
use Rattle.fam_format.specs.declared.faults.Reason.TheVariants as reason
use Rattle.fam_format.specs.Layout.{Geometry}
use Rattle.fam_format.specs.Slot.{extents_word, path_word, extent_limit, mode_limit, kind_word, map_word, chunk_word, extent_word, slot_word_at, spelling, kind_of, map_of, path_of, kind_fault, attribute_fault, path_fault, is_map_words, is_stray, rest_fault}
use Rattle.fam_format.proofs.Filling.{word_of_spelling}
use Rattle.fam_format.proofs.WordRounds.{byte_of_word}
use Rattle.fam_format.proofs.RoundTrip.{HasRoom, field_read, word_behind, word_between}
use Rattle.fam_format.proofs.Stops.{mapped_none, none_mapped, find_none, none_found, any_false, each_false}

-- The kind.

-- a kind's word passes
kind_told : (kind : Kind) → (if kind_word kind == 1 then None else if kind_word kind == 2 then None else Some (reason.BadKind (kind_word kind))) ≡ None
kind_told File = refl
kind_told Directory = refl

-- the test passes at such a word
pub kind_passes : (words : List ℕ) (kind : Kind) → get_or words 1 0 ≡ kind_word kind → kind_fault words ≡ None
kind_passes words kind is = rw is (kind_told kind)

-- a word that passes is 1 or 2
told_kind : (word : ℕ) → (if word == 1 then None else if word == 2 then None else Some (reason.BadKind word)) ≡ None → (word ≡ 1) ⊎ (word ≡ 2)
told_kind word h =
    elim (cases_eq word 1) [
      | inl one ↦ inl one
      | inr other ↦ elim (cases_eq word 2) [ inl two ↦ inr two | inr neither ↦ absurd (grind (arith, nat_tests)) ]
    ]

-- each of them is the word of its kind
kind_back_at : (word : ℕ) → (word ≡ 1) ⊎ (word ≡ 2) → word ≡ kind_word (kind_of word)
kind_back_at word (inl one) = one ∙ sym (ap (λ (w : ℕ). kind_word (kind_of w)) one)
kind_back_at word (inr two) = two ∙ sym (ap (λ (w : ℕ). kind_word (kind_of w)) two)

-- where the test passes the kind says its word again
pub kind_back : (words : List ℕ) → kind_fault words ≡ None → get_or words 1 0 ≡ kind_word (kind_of (get_or words 1 0))
kind_back words h = kind_back_at (get_or words 1 0) (told_kind (get_or words 1 0) h)

-- Mode, uid and gid.

-- they are in range
pub record AttributesFit (mode uid gid : ℕ) : Type 0 where
  pub mode_fits : mode ≤ mode_limit
  pub uid_fits : uid < 2 ^ 32
  pub gid_fits : gid < 2 ^ 32

-- in range, they pass
attributes_at : (mode uid gid : ℕ) → AttributesFit mode uid gid →
    (if nat_lt mode_limit mode then Some (reason.Attribute 3) else if nat_le (2 ^ 32) uid then Some (reason.Attribute 4) else if nat_le (2 ^ 32) gid then Some (reason.Attribute 5) else None) ≡ None
attributes_at mode uid gid h = grind (arith, nat_tests)

-- the test passes at such words
pub attributes_pass : (words : List ℕ) (mode uid gid : ℕ) → get_or words 3 0 ≡ mode → get_or words 4 0 ≡ uid → get_or words 5 0 ≡ gid → AttributesFit mode uid gid → attribute_fault words ≡ None
attributes_pass words mode uid gid a b c h = rw (a, b, c) (attributes_at mode uid gid h)

-- where they pass, they are in range
attributes_back_at : (mode uid gid : ℕ) →
    (if nat_lt mode_limit mode then Some (reason.Attribute 3) else if nat_le (2 ^ 32) uid then Some (reason.Attribute 4) else if nat_le
    (2 ^ 32) gid then Some (reason.Attribute 5) else None) ≡ None → AttributesFit mode uid gid
attributes_back_at mode uid gid h = record { mode_fits = grind (arith, nat_tests); uid_fits = grind (arith, nat_tests); gid_fits = grind (arith, nat_tests) }

-- so are the words that the test passes
pub attributes_back : (words : List ℕ) → attribute_fault words ≡ None → AttributesFit (get_or words 3 0) (get_or words 4 0) (get_or words 5 0)
attributes_back words h = attributes_back_at (get_or words 3 0) (get_or words 4 0) (get_or words 5 0) h

-- The path.

-- a path that is short enough passes
path_at : (limit count : ℕ) (good : Bool) → count ≤ limit → good ≡ true → (if nat_lt limit count then Some reason.BadPath else if good then None else Some reason.BadPath) ≡ None
path_at limit count good a b = grind (arith, nat_tests)

-- the test passes at its words
pub path_passes : (g : Geometry) (words path : List ℕ) → get_or words 6 0 ≡ length path → path_of words ≡ path → length path ≤ g.path_limit → is_path path ≡ true → path_fault g words ≡ None
path_passes g words path count same short good = path_at g.path_limit (get_or words 6 0) (is_path (path_of words)) (omega arith) (ap is_path same ∙ good)

-- what the test says of the path that is read
pub record PathPasses (limit count : ℕ) (good : Bool) : Type 0 where
  pub short : count ≤ limit
  pub path : good ≡ true

-- what passes is a path that is short enough
path_back_at : (limit count : ℕ) (good : Bool) → (if nat_lt limit count then Some reason.BadPath else if good then None else Some reason.BadPath) ≡ None → PathPasses limit count good
path_back_at limit count good h = record { short = grind (arith, nat_tests); path = grind (arith, nat_tests) }

-- so is what is read where the test passes
pub path_back : (g : Geometry) (words : List ℕ) → path_fault g words ≡ None → PathPasses g.path_limit (get_or words 6 0) (is_path (path_of words))
path_back g words h = path_back_at g.path_limit (get_or words 6 0) (is_path (path_of words)) h

-- The map.

-- what the test of the map's words says of kind, chunk and count
pub record MapWordsFit (kind chunk count : ℕ) : Type 0 where
  pub known : kind ≤ 2
  pub few : count ≤ extent_limit
  pub bare : (kind ≡ 2 → ⊥) → chunk ≡ 0

-- three words that fit pass
map_words_at : (kind chunk count : ℕ) → MapWordsFit kind chunk count →
    (if nat_lt 2 kind then false else if nat_lt extent_limit count then false else if kind == 2 then true else chunk == 0) ≡ true
map_words_at kind chunk count h = grind (arith, nat_tests)

-- what passes fits
map_words_back_at : (kind chunk count : ℕ) →
    (if nat_lt 2 kind then false else if nat_lt extent_limit count then false else if kind == 2 then true else chunk == 0) ≡ true → MapWordsFit kind chunk count
map_words_back_at kind chunk count h = record { known = grind (arith, nat_tests); few = grind (arith, nat_tests); bare = λ other. grind (arith, nat_tests) }

-- so do the words that the test passes
pub map_words_back : (words : List ℕ) → is_map_words words ≡ true → MapWordsFit (get_or words 7 0) (get_or words 8 0) (get_or words 9 0)
map_words_back words h = map_words_back_at (get_or words 7 0) (get_or words 8 0) (get_or words 9 0) h

-- the words of a map fit
map_words_of : (map : MapKind) (count : ℕ) → count ≤ extent_limit → MapWordsFit (map_word map) (chunk_word map) count
map_words_of Empty count few = record { known = omega arith; few = few; bare = λ other. refl }
map_words_of Simple count few = record { known = omega arith; few = few; bare = λ other. refl }
map_words_of (Striped chunk) count few = record { known = omega arith; few = few; bare = λ other. absurd (other refl) }

-- the test passes at them
pub map_words_pass : (words : List ℕ) (map : MapKind) (count : ℕ) → get_or words 7 0 ≡ map_word map → get_or words 8 0 ≡ chunk_word map
    → get_or words 9 0 ≡ count → count ≤ extent_limit → is_map_words words ≡ true
map_words_pass words map count a b c few = rw (a, b, c) (map_words_at (map_word map) (chunk_word map) count (map_words_of map count few))

-- the two words of the map say again what they tell
pub record MapBack (kind chunk : ℕ) : Type 0 where
  pub same_kind : kind ≡ map_word (map_of kind chunk)
  pub same_chunk : chunk ≡ chunk_word (map_of kind chunk)

-- the same at equal words
map_back_as : (kind chunk k c : ℕ) → kind ≡ k → chunk ≡ c → MapBack k c → MapBack kind chunk
map_back_as kind chunk k c a b h = rw (a, b) h

-- words that fit say again the map that they tell
pub map_back : (kind chunk count : ℕ) → MapWordsFit kind chunk count → MapBack kind chunk
map_back kind chunk count h =
    let known : kind ≤ 2 = h.known in
    elim (cases_eq kind 2) [
      | inl two ↦ map_back_as kind chunk 2 chunk two refl record { same_kind = refl; same_chunk = refl }
      | inr fewer ↦ elim (cases_eq kind 1) [
        | inl one ↦ map_back_as kind chunk 1 0 one (h.bare fewer) record { same_kind = refl; same_chunk = refl }
        | inr none ↦ map_back_as kind chunk 0 0 (omega arith) (h.bare fewer) record { same_kind = refl; same_chunk = refl }
      ]
    ]

-- two tests, one behind the other
pub both_pass : (a b : Bool) → a ≡ true → b ≡ true → (if a then (if b then None else Some reason.Map) else Some reason.Map) ≡ None
both_pass a b ha hb = rw (ha, hb) refl

-- where no fault is told, both passed
pub both_passed : (a b : Bool) → (if a then (if b then None else Some reason.Map) else Some reason.Map) ≡ None → (a ≡ true) × (b ≡ true)
both_passed true true h = (refl, refl)
both_passed true false h = absurd (cc)
both_passed false b h = absurd (cc)

-- The unused parts.

-- a word that holds something from a place on: the test fails where what lies behind is zero
stray_extent : (word from i : ℕ) → (from ≤ i → word ≡ 0) → (nat_le from i && not (word == 0)) ≡ false
stray_extent word from i h = elim (cases_lt i from) [ inl before ↦ grind (arith, nat_tests) | inr behind ↦ let zero : word ≡ 0 = h behind in grind (arith, nat_tests) ]

-- where it fails, what lies behind is zero
pub no_stray : (word from i : ℕ) → (nat_le from i && not (word == 0)) ≡ false → from ≤ i → word ≡ 0
no_stray word from i h behind = grind (arith, nat_tests)

-- an extent's word past the count is zero
extent_word_past : (xs : List Extent) (j : ℕ) → 2 * length xs ≤ j → extent_word xs j ≡ 0
extent_word_past xs j past =
    let none : get_or xs (j / 2) no_extent ≡ no_extent = get_or_past xs (j / 2) no_extent (omega arith) in
    rw none (elim (j % 2 == 0) as (λ b. (if b then no_extent.offset else no_extent.length) ≡ 0) [ true ↦ refl | false ↦ refl ])

-- byte b of word i, past the path's length, holds something
abbrev stray_byte : List ℕ → ℕ → ℕ → Bool
stray_byte words i b = nat_le (get_or words 6 0) (8 * (i - path_word) + b) && not (byte_of (get_or words i 0) b == 0)

-- `is_stray` by the number of bytes of a word
abbrev stray_of : ℕ → List ℕ → ℕ → Bool
stray_of n words i = if nat_lt i path_word then nat_le (extents_word + 2 * get_or words 9 0) i && not (get_or words i 0 == 0) else list_any (stray_byte words i) (range_with_len 0 n)

-- the test before the path
stray_before : (n : ℕ) (words : List ℕ) (i : ℕ) → i < path_word → stray_of n words i ≡ (nat_le (extents_word + 2 * get_or words 9 0) i && not (get_or words i 0 == 0))
stray_before n words i before = let test : nat_lt i path_word ≡ true = lt-ltb i path_word before in rw test refl

-- the test from the path on
stray_behind : (n : ℕ) (words : List ℕ) (i : ℕ) → path_word ≤ i → stray_of n words i ≡ list_any (stray_byte words i) (range_with_len 0 n)
stray_behind n words i behind = let test : nat_lt i path_word ≡ false = le-ltb i path_word behind in rw test refl

-- in a spelling the extents' words past the count are zero
spelled_extent : (g : Geometry) (e : Entry) (seq i : ℕ) → HasRoom g e → extents_word ≤ i → i < path_word → extents_word + 2 * get_or (spelling g e seq) 9 0 ≤ i → get_or (spelling g e seq) i 0 ≡ 0
unfolding slot_word_at
spelled_extent g e seq i room from before behind =
    let prefix : path_word ≤ g.words - 1 = room.prefix in
    let count : get_or (spelling g e seq) 9 0 ≡ length e.extents = field_read g e seq 9 (length e.extents) room (omega arith) refl in
    word_of_spelling g e seq i (omega arith) ∙ word_between e seq i from before ∙ extent_word_past e.extents (i - extents_word) (omega arith)

-- and the path's bytes past its length are zero
spelled_byte : (g : Geometry) (e : Entry) (seq i b : ℕ) → HasRoom g e → path_word ≤ i → i < g.words - 1 → b < 8
    → get_or (spelling g e seq) 6 0 ≤ 8 * (i - path_word) + b → byte_of (get_or (spelling g e seq) i 0) b ≡ 0
unfolding slot_word_at
spelled_byte g e seq i b room from below small behind =
    let count : get_or (spelling g e seq) 6 0 ≡ length e.path = field_read g e seq 6 (length e.path) room (omega arith) refl in
    ap (λ (w : ℕ). byte_of w b) (word_of_spelling g e seq i below ∙ word_behind e seq i from) ∙ byte_of_word e.path (i - path_word) b room.bytes small
    ∙ get_or_past e.path (8 * (i - path_word) + b) 0 (omega arith)

-- so no word of a spelling is stray
none_stray : (n : ℕ) (g : Geometry) (e : Entry) (seq i : ℕ) → n ≡ 8 → HasRoom g e → extents_word ≤ i → i < g.words - 1 → stray_of n (spelling g e seq) i ≡ false
none_stray n g e seq i eight room from below =
    elim (cases_lt i path_word) [
      | inl before ↦ stray_before n (spelling g e seq) i before ∙ stray_extent (get_or (spelling g e seq) i 0)
          (extents_word + 2 * get_or (spelling g e seq) 9 0) i (spelled_extent g e seq i room from before)
      | inr behind ↦ stray_behind n (spelling g e seq) i behind
          ∙ any_false (stray_byte (spelling g e seq) i) 0 n
          (λ b first small. stray_extent (byte_of (get_or (spelling g e seq) i 0) b) (get_or (spelling g e seq) 6 0) (8 * (i - path_word) + b)
          (spelled_byte g e seq i b room behind below (omega arith)))
    ]

-- and the test finds none
pub rest_passes : (g : Geometry) (e : Entry) (seq : ℕ) → HasRoom g e → rest_fault g (spelling g e seq) ≡ None
rest_passes g e seq room =
    let prefix : path_word ≤ g.words - 1 = room.prefix in
    none_mapped reason.Rest (find (is_stray (spelling g e seq)) (range_with_len extents_word (g.words - 1 - extents_word)))
    (find_none (is_stray (spelling g e seq)) extents_word (g.words - 1 - extents_word) (λ i from below. none_stray 8 g e seq i refl room from (omega arith)))

-- where the test finds nothing, the words past the count's extents are zero
extent_zero : (n : ℕ) (words : List ℕ) (i : ℕ) → stray_of n words i ≡ false → i < path_word → extents_word + 2 * get_or words 9 0 ≤ i → get_or words i 0 ≡ 0
extent_zero n words i h before behind = no_stray (get_or words i 0) (extents_word + 2 * get_or words 9 0) i (sym (stray_before n words i before) ∙ h) behind

-- and so are the bytes past the path's length
byte_zero : (n : ℕ) (words : List ℕ) (i b : ℕ) → stray_of n words i ≡ false → path_word ≤ i → b < n → get_or words 6 0 ≤ 8 * (i - path_word) + b → byte_of (get_or words i 0) b ≡ 0
byte_zero n words i b h from small behind =
    no_stray (byte_of (get_or words i 0) b) (get_or words 6 0) (8 * (i - path_word) + b)
    (each_false (stray_byte words i) 0 n (sym (stray_behind n words i from) ∙ h) b (omega arith) (omega arith)) behind

-- what the test says of the unused parts
pub record RestIsZero (g : Geometry) (words : List ℕ) : Type 0 where
  pub extents : (i : ℕ) → i < path_word → extents_word + 2 * get_or words 9 0 ≤ i → i < g.words - 1 → get_or words i 0 ≡ 0
  pub path : (i b : ℕ) → path_word ≤ i → i < g.words - 1 → b < 8 → get_or words 6 0 ≤ 8 * (i - path_word) + b → byte_of (get_or words i 0) b ≡ 0

-- where the test finds no word, the unused parts are zero
pub rest_back : (g : Geometry) (words : List ℕ) → rest_fault g words ≡ None → RestIsZero g words
rest_back g words h =
    let none : find (is_stray words) (range_with_len extents_word (g.words - 1 - extents_word)) ≡ None =
    mapped_none reason.Rest (find (is_stray words) (range_with_len extents_word (g.words - 1 - extents_word))) h in
    let each : (i : ℕ) → extents_word ≤ i → i < g.words - 1 → is_stray words i ≡ false = λ i from below. none_found (is_stray words) extents_word
    (g.words - 1 - extents_word) none i from (omega arith) in
    record {
      extents = λ i before behind below. extent_zero 8 words i (each i (omega arith) below) before behind;
      path = λ i b from below small behind. byte_zero 8 words i b (each i (omega arith) below) from small behind;
    }
