-- What is spelled is read: each field by itself, and the entry.
use Rattle.std.proofs.Common.{◌≡◌, ℕ, zero, suc, ◌+◌, ◌-◌, ◌*◌, ◌/◌, ◌%◌, ◌<◌, ◌≤◌, true, List, [], ◌∷◌, length, map, get_or, refl, sym, ap, eqb, ◌∙◌, arith}
use Rattle.std.specs.Cmp.Lexicographic.{pointwise}
use Rattle.std.proofs.lemmas.Bool.{and_parts, eqb-true}
use Rattle.std.proofs.lemmas.Bool.Decides.{nat_tests}
use Rattle.std.proofs.lemmas.List.FromFn.{get_or-map-range_with_len, length-map-range_with_len, fill_by_all}
use Rattle.fam_base.specs.declared.entry.Entry.{Entry}
use Rattle.fam_base.specs.declared.entry.Kind.{Kind}
use Rattle.fam_base.specs.declared.entry.Kind.TheVariants.{File, Directory}
use Rattle.fam_base.specs.declared.entry.MapKind.{MapKind}
use Rattle.fam_base.specs.declared.entry.MapKind.TheVariants.{Empty, Simple, Striped}
use Rattle.fam_base.specs.declared.extents.Extent.{Extent}
use Rattle.fam_base.specs.ExtentLists.{no_extent}
use Rattle.fam_format.specs.Layout.{Geometry}
use Rattle.fam_format.specs.Words.{word_of_bytes, bytes_from}
use Rattle.fam_format.specs.Slot.{extents_word, path_word, extent_limit, kind_word, map_word, chunk_word, extent_word, slot_word_at, spelling, kind_of, map_of, extent_of, extents_of, path_of, fields_of}
use Rattle.fam_format.proofs.Filling.{word_of_spelling}
use Rattle.fam_format.proofs.WordRounds.{bytes_back}

-- an entry whose fields have room in the words of a slot
pub record HasRoom (g : Geometry) (e : Entry) : Type 0 where
  -- the path's numbers are bytes
  pub bytes : (i : ℕ) → get_or e.path i 0 < 256
  -- the path ends before the checksum
  pub path : length e.path + 8 * path_word ≤ 8 * (g.words - 1)
  -- the extents end before the path
  pub extents : length e.extents ≤ extent_limit
  -- the path begins before the checksum
  pub prefix : path_word ≤ g.words - 1

-- two lists that `==` finds equal are one
pub same_words : (xs ys : List ℕ) → pointwise eqb xs ys ≡ true → xs ≡ ys
same_words [] [] h = refl
same_words [] (y ∷ ys) h = cc
same_words (x ∷ xs) [] h = cc
same_words (x ∷ xs) (y ∷ ys) h =
    let both = and_parts (eqb x y) (pointwise eqb xs ys) h in
    ap (λ (z : ℕ). z ∷ xs) (eqb-true x y both.0) ∙ ap (λ (l : List ℕ). y ∷ l) (same_words xs ys both.1)

-- the words of the path
pub word_behind : (e : Entry) (seq i : ℕ) → path_word ≤ i → slot_word_at e seq i ≡ word_of_bytes e.path (i - path_word)
unfolding slot_word_at
word_behind e seq i behind = grind (arith, nat_tests)

-- the words of the extents
pub word_between : (e : Entry) (seq i : ℕ) → extents_word ≤ i → i < path_word → slot_word_at e seq i ≡ extent_word e.extents (i - extents_word)
unfolding slot_word_at
word_between e seq i behind before = grind (arith, nat_tests)

-- the words before the extents: what holds of the ten by place holds of each
pub words_before : (f : ℕ → ℕ) (e : Entry) (seq : ℕ) → f 0 ≡ seq → f 1 ≡ kind_word e.kind → f 2 ≡ e.size → f 3 ≡ e.mode → f 4 ≡ e.uid → f 5 ≡ e.gid
    → f 6 ≡ length e.path → f 7 ≡ map_word e.map → f 8 ≡ chunk_word e.map → f 9 ≡ length e.extents →
    (k : ℕ) → k < extents_word → f k ≡ slot_word_at e seq k
unfolding slot_word_at
words_before f e seq a b c d p q r s t u zero below = a
words_before f e seq a b c d p q r s t u (suc zero) below = b
words_before f e seq a b c d p q r s t u (suc (suc zero)) below = c
words_before f e seq a b c d p q r s t u (suc (suc (suc zero))) below = d
words_before f e seq a b c d p q r s t u (suc (suc (suc (suc zero)))) below = p
words_before f e seq a b c d p q r s t u (suc (suc (suc (suc (suc zero))))) below = q
words_before f e seq a b c d p q r s t u (suc (suc (suc (suc (suc (suc zero)))))) below = r
words_before f e seq a b c d p q r s t u (suc (suc (suc (suc (suc (suc (suc zero))))))) below = s
words_before f e seq a b c d p q r s t u (suc (suc (suc (suc (suc (suc (suc (suc zero)))))))) below = t
words_before f e seq a b c d p q r s t u (suc (suc (suc (suc (suc (suc (suc (suc (suc zero))))))))) below = u
words_before f e seq a b c d p q r s t u (suc (suc (suc (suc (suc (suc (suc (suc (suc (suc k)))))))))) below = absurd (omega arith)

-- a field's word in a spelling
pub field_read : (g : Geometry) (e : Entry) (seq k word : ℕ) → HasRoom g e → k < path_word → slot_word_at e seq k ≡ word → get_or (spelling g e seq) k 0 ≡ word
field_read g e seq k word room below is = let prefix : path_word ≤ g.words - 1 = room.prefix in word_of_spelling g e seq k (omega arith) ∙ is

-- the path is read back
pub path_read : (g : Geometry) (e : Entry) (seq : ℕ) → HasRoom g e → bytes_from path_word (spelling g e seq) (length e.path) ≡ e.path
path_read g e seq room =
    let ends : length e.path + 8 * path_word ≤ 8 * (g.words - 1) = room.path in
    bytes_back path_word (spelling g e seq) (length e.path) e.path refl room.bytes
    (λ k below.
    let at : path_word + k - path_word ≡ k = omega arith in
    word_of_spelling g e seq (path_word + k) (omega arith) ∙ word_behind e seq (path_word + k) (omega arith) ∙ ap (word_of_bytes e.path) at)

-- the offset of extent k, and its length
extent_word_even : (xs : List Extent) (k : ℕ) → extent_word xs (2 * k) ≡ (get_or xs k no_extent).offset
extent_word_even xs k =
    let even : 2 * k % 2 ≡ 0 = omega arith in
    let half : 2 * k / 2 ≡ k = omega arith in
    rw (even, half) refl

-- an odd word is a length
extent_word_odd : (xs : List Extent) (k : ℕ) → extent_word xs (2 * k + 1) ≡ (get_or xs k no_extent).length
extent_word_odd xs k =
    let odd : (2 * k + 1) % 2 ≡ 1 = omega arith in
    let half : (2 * k + 1) / 2 ≡ k = omega arith in
    rw (odd, half) refl

-- an extent by its two numbers
abbrev extent : ℕ → ℕ → Extent
extent offset length = record { offset = offset; length = length }

-- two equal numbers make the extent
same_extent : (offset length : ℕ) (x : Extent) → offset ≡ x.offset → length ≡ x.length → extent offset length ≡ x
same_extent offset length x a b = rw (a, b) refl

-- extent k is read back
pub extent_read : (g : Geometry) (e : Entry) (seq k : ℕ) → HasRoom g e → k < length e.extents → extent_of (spelling g e seq) k ≡ get_or e.extents k no_extent
extent_read g e seq k room below =
    let few : length e.extents ≤ extent_limit = room.extents in
    let prefix : path_word ≤ g.words - 1 = room.prefix in
    let first : extents_word + 2 * k - extents_word ≡ 2 * k = omega arith in
    let second : extents_word + 1 + 2 * k - extents_word ≡ 2 * k + 1 = omega arith in
    let a : get_or (spelling g e seq) (extents_word + 2 * k) 0 ≡ (get_or e.extents k no_extent).offset =
    word_of_spelling g e seq (extents_word + 2 * k) (omega arith) ∙ word_between e seq (extents_word + 2 * k) (omega arith) (omega arith)
    ∙ ap (extent_word e.extents) first ∙ extent_word_even e.extents k in
    let b : get_or (spelling g e seq) (extents_word + 1 + 2 * k) 0 ≡ (get_or e.extents k no_extent).length =
    word_of_spelling g e seq (extents_word + 1 + 2 * k) (omega arith) ∙ word_between e seq (extents_word + 1 + 2 * k) (omega arith) (omega arith)
    ∙ ap (extent_word e.extents) second ∙ extent_word_odd e.extents k in
    same_extent _ _ (get_or e.extents k no_extent) a b

-- the extents are read back
pub extents_read : (g : Geometry) (e : Entry) (seq : ℕ) → HasRoom g e → extents_of (spelling g e seq) (length e.extents) ≡ e.extents
unfolding extents_of
extents_read g e seq room =
    sym (fill_by_all (extent_of (spelling g e seq)) e.extents (length e.extents) no_extent refl (λ k below. sym (extent_read g e seq k room below)))

-- how many extents are read
pub length_of_extents : (words : List ℕ) (count : ℕ) → length (extents_of words count) ≡ count
unfolding extents_of
length_of_extents words count = length-map-range_with_len (extent_of words) 0 count

-- extent k of those that are read
pub extent_of_extents : (words : List ℕ) (count k : ℕ) → k < count → get_or (extents_of words count) k no_extent ≡ extent_of words k
unfolding extents_of
extent_of_extents words count k below = get_or-map-range_with_len (extent_of words) 0 count k k no_extent below (omega arith)

-- the kind is read back
kind_read : (kind : Kind) → kind_of (kind_word kind) ≡ kind
kind_read File = refl
kind_read Directory = refl

-- the kind of map is read back
map_read : (kind : MapKind) → map_of (map_word kind) (chunk_word kind) ≡ kind
map_read Empty = refl
map_read Simple = refl
map_read (Striped chunk) = refl

-- an entry by its fields
abbrev entry : Kind → List ℕ → ℕ → ℕ → ℕ → ℕ → MapKind → List Extent → Entry
entry kind path size mode uid gid map extents = record { kind = kind; path = path; size = size; mode = mode; uid = uid; gid = gid; map = map; extents = extents }

-- equal fields make the entry
same_entry : (e : Entry) (kind : Kind) (path : List ℕ) (size mode uid gid : ℕ) (map : MapKind) (extents : List Extent) → kind ≡ e.kind → path ≡ e.path
    → size ≡ e.size → mode ≡ e.mode → uid ≡ e.uid → gid ≡ e.gid → map ≡ e.map → extents ≡ e.extents →
    entry kind path size mode uid gid map extents ≡ e
same_entry e kind path size mode uid gid map extents a b c d p q r s = rw (a, b, c, d, p, q, r, s) refl

-- the path of a spelling's words
pub path_of_spelling : (g : Geometry) (e : Entry) (seq : ℕ) → HasRoom g e → path_of (spelling g e seq) ≡ e.path
unfolding slot_word_at
path_of_spelling g e seq room = ap (bytes_from path_word (spelling g e seq)) (field_read g e seq 6 (length e.path) room (omega arith) refl) ∙ path_read g e seq room

-- the fields of a spelling tell its entry
pub fields_read : (g : Geometry) (e : Entry) (seq : ℕ) → HasRoom g e → fields_of (spelling g e seq) ≡ e
unfolding fields_of slot_word_at
fields_read g e seq room =
    let words : List ℕ = spelling g e seq in
    same_entry e _ _ _ _ _ _ _ _
    (ap kind_of (field_read g e seq 1 (kind_word e.kind) room (omega arith) refl) ∙ kind_read e.kind)
    (path_of_spelling g e seq room)
    (field_read g e seq 2 e.size room (omega arith) refl)
    (field_read g e seq 3 e.mode room (omega arith) refl)
    (field_read g e seq 4 e.uid room (omega arith) refl)
    (field_read g e seq 5 e.gid room (omega arith) refl)
    (ap (λ (k : ℕ). map_of k (get_or words 8 0)) (field_read g e seq 7 (map_word e.map) room (omega arith) refl) ∙ ap (map_of (map_word e.map))
    (field_read g e seq 8 (chunk_word e.map) room (omega arith) refl) ∙ map_read e.map)
    (ap (extents_of words) (field_read g e seq 9 (length e.extents) room (omega arith) refl) ∙ extents_read g e seq room)
