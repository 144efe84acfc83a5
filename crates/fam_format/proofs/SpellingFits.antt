-- The words of a spelling are words of 64 bits.
use Rattle.std.proofs.Common.{◌≡◌, ℕ, ◌+◌, ◌-◌, ◌*◌, ◌/◌, ◌%◌, ◌^◌, ◌<◌, ◌≤◌, ◌==◌, Bool, true, false, nat_lt, if◌then◌else◌, List, [], ◌∷◌, length, take, get_or, inl, inr, sym, ap, subst, ◌∙◌, arith}
use Rattle.std.specs.List.{All}
use Rattle.std.specs.Int.{to_le_bytes, w64}
use Rattle.std.proofs.lemmas.Bool.{cases_lt}
use Rattle.std.proofs.lemmas.List.{get_or_past}
use Rattle.std.proofs.lemmas.List.Elements.{All-nil, All-append, All-get_or, All-from_get_or}
use Rattle.fam_base.specs.declared.entry.Entry.{Entry}
use Rattle.fam_base.specs.declared.entry.Kind.{Kind}
use Rattle.fam_base.specs.declared.entry.Kind.TheVariants.{File, Directory}
use Rattle.fam_base.specs.declared.entry.MapKind.{MapKind}
use Rattle.fam_base.specs.declared.entry.MapKind.TheVariants.{Empty, Simple, Striped}
use Rattle.fam_base.specs.declared.extents.Extent.{Extent}
use Rattle.fam_base.specs.ExtentLists.{no_extent}
use Rattle.fam_crc.specs.Crc.{crc32, bytes_of_words}
use Rattle.fam_crc.proofs.Division.{crc_fits}
use Rattle.fam_format.specs.Layout.{Geometry}
use Rattle.fam_format.specs.Words.{word_of_bytes}
use Rattle.fam_format.specs.Slot.{extents_word, path_word, extent_limit, kind_word, map_word, extent_word, slot_word_at, spelling, slot_crc}
use Rattle.fam_format.specs.EntryLaws.{ExtentFits, FitsWords}
use Rattle.fam_format.proofs.Filling.{word_of_spelling, length_of_spelling, crc_of_spelling}
use Rattle.fam_format.proofs.WordRounds.{le_byte}

-- a word of bytes fits
pub word_of_bytes_fits : (bytes : List ℕ) (k : ℕ) → ((i : ℕ) → get_or bytes i 0 < 256) → word_of_bytes bytes k < 2 ^ 64
unfolding word_of_bytes
word_of_bytes_fits bytes k h = omega (arith, h (8 * k + 0), h (8 * k + 1), h (8 * k + 2), h (8 * k + 3), h (8 * k + 4), h (8 * k + 5), h (8 * k + 6), h (8 * k + 7))

-- The checksum.

-- the eight bytes of a word are bytes
le_bytes_fit : (n : ℕ) → All (λ b. b < 256) (to_le_bytes w64 n)
le_bytes_fit n = All-from_get_or (λ b. b < 256) (to_le_bytes w64 n) 0 (λ j below. omega (arith, le_byte n j below))

-- so are those of a list of words
bytes_fit : (words : List ℕ) → All (λ b. b < 256) (bytes_of_words words)
bytes_fit [] = All-nil (λ b. b < 256)
bytes_fit (word ∷ words) = All-append (λ b. b < 256) (to_le_bytes w64 word) (bytes_of_words words) (le_bytes_fit word) (bytes_fit words)

-- and zeros behind
each_fits : (bytes : List ℕ) → All (λ b. b < 256) bytes → (i : ℕ) → get_or bytes i 0 < 256
each_fits bytes all i =
    elim (cases_lt i (length bytes)) [
      | inl inside ↦ All-get_or (λ b. b < 256) bytes i 0 inside all
      | inr past ↦ omega (arith, get_or_past bytes i 0 past)
    ]

-- the checksum of any words fits
pub crc_of_words_fits : (words : List ℕ) → crc32 (bytes_of_words words) < 2 ^ 32
crc_of_words_fits words = crc_fits (bytes_of_words words) (each_fits (bytes_of_words words) (bytes_fit words))

-- The table.

-- the word of a kind
kind_word_fits : (kind : Kind) → kind_word kind < 2 ^ 64
kind_word_fits File = omega arith
kind_word_fits Directory = omega arith

-- the word of a map
map_word_fits : (kind : MapKind) → map_word kind < 2 ^ 64
map_word_fits Empty = omega arith
map_word_fits Simple = omega arith
map_word_fits (Striped chunk) = omega arith

-- one of two words that fit
fits_if : (bound : ℕ) (test : Bool) (x y : ℕ) → x < bound → y < bound → (if test then x else y) < bound
fits_if bound true x y a b = a
fits_if bound false x y a b = b

-- the extent at a place, or none
extent_fits : (xs : List Extent) (i : ℕ) → All ExtentFits xs → ExtentFits (get_or xs i no_extent)
extent_fits xs i all =
    elim (cases_lt i (length xs)) [
      | inl inside ↦ All-get_or ExtentFits xs i no_extent inside all
      | inr past ↦ subst ExtentFits (sym (get_or_past xs i no_extent past)) record { offset = omega arith; length = omega arith }
    ]

-- a word of the extents
extent_word_fits : (xs : List Extent) (j : ℕ) → All ExtentFits xs → extent_word xs j < 2 ^ 64
extent_word_fits xs j all = let x = extent_fits xs (j / 2) all in fits_if (2 ^ 64) (j % 2 == 0) (get_or xs (j / 2) no_extent).offset (get_or xs (j / 2) no_extent).length x.offset x.length

-- the other numbers of an entry
pub record OthersFit (e : Entry) (seq : ℕ) : Type 0 where
  pub number : seq < 2 ^ 64
  pub mode : e.mode < 2 ^ 64
  pub uid : e.uid < 2 ^ 64
  pub gid : e.gid < 2 ^ 64
  pub count : length e.path < 2 ^ 64
  pub path : (i : ℕ) → get_or e.path i 0 < 256

-- each word before the checksum fits
word_fits : (e : Entry) (seq k : ℕ) → FitsWords e → OthersFit e seq → slot_word_at e seq k < 2 ^ 64
unfolding slot_word_at
word_fits e seq k fits others =
    let few : length e.extents ≤ extent_limit = fits.count in
    fits_if _ (k == 0) _ _ others.number
    (fits_if _ (k == 1) _ _ (kind_word_fits e.kind)
    (fits_if _ (k == 2) _ _ fits.size
    (fits_if _ (k == 3) _ _ others.mode
    (fits_if _ (k == 4) _ _ others.uid
    (fits_if _ (k == 5) _ _ others.gid
    (fits_if _ (k == 6) _ _ others.count
    (fits_if _ (k == 7) _ _ (map_word_fits e.map)
    (fits_if _ (k == 8) _ _ fits.chunk
    (fits_if _ (k == 9) _ _ (omega arith)
    (fits_if _ (nat_lt k path_word) _ _ (extent_word_fits e.extents (k - extents_word) fits.extents)
    (word_of_bytes_fits e.path (k - path_word) others.path)))))))))))

-- each word of a spelling fits
pub spelling_fits : (g : Geometry) (e : Entry) (seq i : ℕ) → 0 < g.words → FitsWords e → OthersFit e seq → get_or (spelling g e seq) i 0 < 2 ^ 64
spelling_fits g e seq i some fits others =
    elim (cases_lt i (g.words - 1)) [
      | inl before ↦ subst (λ (w : ℕ). w < 2 ^ 64) (sym (word_of_spelling g e seq i before)) (word_fits e seq i fits others)
      | inr behind ↦ elim (cases_lt i g.words) [
        | inl last ↦
            let at : i ≡ g.words - 1 = omega arith in
            let crc : slot_crc g (spelling g e seq) < 2 ^ 64 = omega (arith, crc_of_words_fits (take (g.words - 1) (spelling g e seq))) in
            subst (λ (w : ℕ). w < 2 ^ 64) (sym (ap (λ (k : ℕ). get_or (spelling g e seq) k 0) at ∙ crc_of_spelling g e seq)) crc
        | inr past ↦ omega (arith, get_or_past (spelling g e seq) i 0 (omega (arith, length_of_spelling g e seq some)))
      ]
    ]
