-- Texts without control bytes: no line feed ends their line early, and no carriage return ends them.
use Rattle.std.proofs.Common.{◌≡◌, ℕ, zero, suc, ◌+◌, ◌/◌, ◌%◌, ◌^◌, ◌<◌, Bool, true, false, cond, List, [], ◌∷◌, ◌++◌, map, refl, ap, ap₂, ◌∙◌, arith, decimal}
use Rattle.std.specs.Prelude.{◌&&◌, nat_le, if◌then◌else◌}
use Rattle.std.specs.List.{AllByRecursion, flat_map, list_all, join_with_byte}
use Rattle.std.specs.Int.Digits.{digits_of}
use Rattle.std.proofs.lemmas.Bool.{and_parts}
use Rattle.std.proofs.lemmas.Bool.Decides.{nat_tests}
use Rattle.std.proofs.lemmas.Fmt.{decimal-digits_of, decimal_digit}
use Rattle.std.proofs.lemmas.Int.Digits.{all_below_base_digits_of}
use Rattle.std.proofs.lemmas.List.Elements.{All-head, All-tail}
use Rattle.uuid.specs.Text.{by_index, digit_place, hex_digit as uuid_digit, hyphenated_text, is_hyphen_place, lower, nibble}
use Rattle.fam_base.specs.declared.entry.Entry.{Entry}
use Rattle.fam_base.specs.declared.entry.Kind.{Kind}
use Rattle.fam_base.specs.declared.entry.Kind.TheVariants.{File, Directory}
use Rattle.fam_base.specs.declared.entry.MapKind.{MapKind}
use Rattle.fam_base.specs.declared.entry.MapKind.TheVariants.{Empty, Simple, Striped}
use Rattle.fam_base.specs.declared.extents.Extent.{Extent}
use Rattle.fam_base.specs.Escapes.{escaped, escaped_byte, hex_digit, is_plain}
use Rattle.fam_base.specs.HostNames.{is_host_name, is_name_byte}
use Rattle.fam_tree.specs.Lines.{entry_line, entry_words, extent_text, extents_text, kind_letter, map_text, mode_text, octal_digit}
use Rattle.fam_tree.specs.Listings.{AreWordExtents, IsListed, IsWordExtent, MapListed}
use Rattle.fam_outcomes.specs.Texts.{byte_text, bytes_text}

-- no control byte
abbrev pub is_clean : List ℕ → Bool
is_clean [] = true
is_clean (byte ∷ bytes) = nat_le 32 byte && is_clean bytes

-- a text is clean where its parts are
pub clean-append : (a b : List ℕ) → is_clean (a ++ b) ≡ is_clean a && is_clean b
clean-append [] b = refl
clean-append (byte ∷ bytes) b = ap (λ (t : Bool). nat_le 32 byte && t) (clean-append bytes b) ∙ assoc (nat_le 32 byte) (is_clean bytes) (is_clean b)
  where
    assoc : (x y z : Bool) → x && (y && z) ≡ (x && y) && z
    assoc true y z = refl
    assoc false y z = refl

-- two clean texts are a clean one
pub both : (a b : List ℕ) → is_clean a ≡ true → is_clean b ≡ true → is_clean (a ++ b) ≡ true
both a b first second = clean-append a b ∙ ap₂ (λ (x y : Bool). x && y) first second

more : (byte : ℕ) (bytes : List ℕ) → nat_le 32 byte ≡ true → is_clean bytes ≡ true → is_clean (byte ∷ bytes) ≡ true
more byte bytes first rest = ap₂ (λ (x y : Bool). x && y) first rest

-- Numbers.

digits_clean : (ds : List ℕ) → AllByRecursion (λ d. d < 10) ds → is_clean (map (λ d. 48 + d) ds) ≡ true
digits_clean [] all = refl
digits_clean (d ∷ ds) all = more (48 + d) (map (λ d. 48 + d) ds) (grind (arith, nat_tests)) (digits_clean ds all.1)

-- a number in decimal is clean
pub number_clean : (n : ℕ) → n < 2 ^ 64 → is_clean (decimal n) ≡ true
number_clean zero fits = ap is_clean (decimal_digit 0 (omega arith))
number_clean (suc n) fits =
    ap is_clean (decimal-digits_of (suc n) (omega arith) fits) ∙ digits_clean (digits_of 10 (suc n)) (all_below_base_digits_of 10 (suc n) (omega arith))

-- Names, UUIDs and bytes.

digit_clean : (n : ℕ) → nat_le 32 (hex_digit n) ≡ true
digit_clean n = grind (arith, nat_tests)

-- the two digits of a byte are clean
pub byte_clean : (byte : ℕ) → is_clean (byte_text byte) ≡ true
byte_clean byte =
    more (hex_digit (byte / 16)) (hex_digit (byte % 16) ∷ []) (digit_clean (byte / 16)) (more (hex_digit (byte % 16)) [] (digit_clean (byte % 16)) refl)

flat_clean : (f : ℕ → List ℕ) (bytes : List ℕ) → ((byte : ℕ) → is_clean (f byte) ≡ true) → is_clean (flat_map f bytes) ≡ true
flat_clean f [] each = refl
flat_clean f (byte ∷ bytes) each = both (f byte) (flat_map f bytes) (each byte) (flat_clean f bytes each)

-- so are bytes in print
pub bytes_clean : (bytes : List ℕ) → is_clean (bytes_text bytes) ≡ true
bytes_clean [] = refl
bytes_clean (byte ∷ bytes) = flat_clean byte_text (byte ∷ bytes) byte_clean

escape_clean : (byte : ℕ) → is_clean (escaped_byte byte) ≡ true
escape_clean byte = by (is_plain byte) refl
  where
    plain : is_plain byte ≡ true → nat_le 32 byte ≡ true
    plain is = grind (arith, nat_tests)

    by : (t : Bool) → is_plain byte ≡ t → is_clean (cond t (byte ∷ []) (0x5c ∷ 0x78 ∷ hex_digit (byte / 16) ∷ hex_digit (byte % 16) ∷ [])) ≡ true
    by true is = more byte [] (plain is) refl
    by false is = byte_clean byte

-- a name with its escapes is clean
pub name_clean : (bytes : List ℕ) → is_clean (escaped bytes) ≡ true
unfolding escaped
name_clean bytes = flat_clean escaped_byte bytes escape_clean

indexed_clean : (n : ℕ) (f : ℕ → ℕ) → ((k : ℕ) → nat_le 32 (f k) ≡ true) → is_clean (by_index n f) ≡ true
unfolding by_index
indexed_clean zero f each = refl
indexed_clean (suc n) f each = both (by_index n f) (f n ∷ []) (indexed_clean n f each) (more (f n) [] (each n) refl)

place_clean : (t : Bool) (d : ℕ) → nat_le 32 (if t then 45 else uuid_digit lower d) ≡ true
place_clean true d = refl
place_clean false d = grind (arith, nat_tests)

-- a UUID in print is clean
pub uuid_clean : (id : List ℕ) → is_clean (hyphenated_text lower id) ≡ true
uuid_clean id =
    indexed_clean 36 (λ k. if is_hyphen_place k then 45 else uuid_digit lower (nibble id (digit_place k))) (λ k. place_clean (is_hyphen_place k) (nibble id (digit_place k)))

-- Names of hosts.

bytes_of_name : (bytes : List ℕ) → list_all is_name_byte bytes ≡ true → is_clean bytes ≡ true
bytes_of_name [] all = refl
bytes_of_name (byte ∷ bytes) all =
    let parts = and_parts (is_name_byte byte) (list_all is_name_byte bytes) all in
    more byte bytes (here byte parts.0) (bytes_of_name bytes parts.1)
  where
    here : (b : ℕ) → is_name_byte b ≡ true → nat_le 32 b ≡ true
    here b is = grind (arith, nat_tests)

-- a host's name is clean
pub host_clean : (name : List ℕ) → is_host_name name ≡ true → is_clean name ≡ true
unfolding is_host_name
host_clean name is = bytes_of_name name (grind (arith, nat_tests))

-- Entries.

-- a mode in print is clean
pub mode_clean : (m : ℕ) → is_clean (mode_text m) ≡ true
mode_clean m =
    more (octal_digit (m / 512)) (octal_digit (m / 64) ∷ octal_digit (m / 8) ∷ octal_digit m ∷ []) (octal (m / 512))
    (more (octal_digit (m / 64)) (octal_digit (m / 8) ∷ octal_digit m ∷ []) (octal (m / 64))
    (more (octal_digit (m / 8)) (octal_digit m ∷ []) (octal (m / 8)) (more (octal_digit m) [] (octal m) refl)))
  where
    octal : (n : ℕ) → nat_le 32 (octal_digit n) ≡ true
    octal n = grind (arith, nat_tests)

kind_clean : (kind : Kind) → is_clean (kind_letter kind) ≡ true
kind_clean Directory = refl
kind_clean File = refl

extent_clean : (x : Extent) → IsWordExtent x → is_clean (extent_text x) ≡ true
extent_clean x fits = both (decimal x.offset) (0x2b ∷ decimal x.length) (number_clean x.offset fits.0) (number_clean x.length fits.1)

extents_clean : (xs : List Extent) → AreWordExtents xs → is_clean (extents_text xs) ≡ true
extents_clean [] fits = refl
extents_clean (x ∷ []) fits = extent_clean x (All-head (λ (y : Extent). IsWordExtent y) x [] fits)
extents_clean (x ∷ y ∷ xs) fits =
    both (extent_text x) (0x2c ∷ extents_text (y ∷ xs)) (extent_clean x (All-head (λ (z : Extent). IsWordExtent z) x (y ∷ xs) fits))
    (extents_clean (y ∷ xs) (All-tail (λ (z : Extent). IsWordExtent z) x (y ∷ xs) fits))

map_clean : (m : MapKind) (xs : List Extent) → MapListed m xs → AreWordExtents xs → is_clean (map_text m xs) ≡ true
map_clean Empty xs listed fits = refl
map_clean Simple xs listed fits = extents_clean xs fits
map_clean (Striped chunk) xs listed fits = both (decimal chunk) (0x3a ∷ extents_text xs) (number_clean chunk listed.0) (extents_clean xs fits)

AreClean : List (List ℕ) → Type 0
AreClean [] = Unit {0}
AreClean (text ∷ texts) = (is_clean text ≡ true) × AreClean texts

joined_clean : (texts : List (List ℕ)) → AreClean texts → is_clean (join_with_byte 32 texts) ≡ true
unfolding AreClean
joined_clean [] clean = refl
joined_clean (text ∷ []) clean = clean.0
joined_clean (text ∷ next ∷ texts) clean = both text (32 ∷ join_with_byte 32 (next ∷ texts)) clean.0 (joined_clean (next ∷ texts) clean.1)

-- an entry in print is clean
pub entry_clean : (e : Entry) → IsListed e → is_clean (entry_line e) ≡ true
unfolding entry_line AreClean
entry_clean e is = joined_clean (entry_words e) (
  kind_clean e.kind,
  (
    mode_clean e.mode,
    (
      number_clean e.uid (omega (arith, is.uid)),
      (
        number_clean e.gid (omega (arith, is.gid)),
        (number_clean e.size is.size, (map_clean e.map e.extents is.map is.extents, (name_clean e.path, tt))),
      ),
    ),
  ),
)
