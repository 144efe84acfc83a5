-- What the map rule says of an entry.
use Rattle.std.proofs.Common.{◌≡◌, ℕ, ◌+◌, ◌*◌, ◌%◌, ◌^◌, ◌<◌, ◌≤◌, ◌==◌, ◌&&◌, Bool, nat_lt, nat_le, true, List, [], length, get_or, inl, inr, refl, sym, ap, ◌∙◌, arith}
use Rattle.std.specs.List.{All, list_all, sum_by}
use Rattle.std.specs.Int.{div_ceil}
use Rattle.std.proofs.Math.Nat.{div-mul-le_self, le-mul_of_pos_right, mul-le-mul, mul-le-mul_right}
use Rattle.std.proofs.lemmas.Bool.{and_parts, ltb-true, leb-true, eqb-true, cases_eq, false≢true}
use Rattle.std.proofs.lemmas.Bool.Decides.{nat_tests}
use Rattle.std.proofs.lemmas.Grind.{div_ceil_times}
use Rattle.std.proofs.lemmas.List.{nil_from_length}
use Rattle.std.proofs.lemmas.List.Elements.{All-weaker, All-same, All-nil, All-get_or}
use Rattle.std.proofs.lemmas.List.Sums.{AllPass-from_list_all, sum_by-le}
use Rattle.fam_base.specs.declared.entry.Params.{Params}
use Rattle.fam_base.specs.declared.entry.Entry.{Entry}
use Rattle.fam_base.specs.declared.entry.Kind.{Kind}
use Rattle.fam_base.specs.declared.entry.Kind.TheVariants.{File, Directory}
use Rattle.fam_base.specs.declared.entry.MapKind.{MapKind}
use Rattle.fam_base.specs.declared.entry.MapKind.TheVariants.{Empty, Simple, Striped}
use Rattle.fam_base.specs.declared.extents.Extent.{Extent}
use Rattle.fam_base.specs.ExtentLists.{no_extent}
use Rattle.fam_base.specs.Units.{strip_bytes}
use Rattle.fam_format.specs.Layout.{log_end, device_units, device_limit}
use Rattle.fam_format.specs.Params.{is_unit}
use Rattle.fam_format.specs.Slot.{extent_limit, chunk_word, is_bare, is_placed, is_within, has_extents, adds_up, is_striped, fits_map, is_map}
use Rattle.fam_format.specs.EntryLaws.{IsInDevice, ExtentFits, FitsWords}

-- four tests in a row
pub record Four (a b c d : Bool) : Type 0 where
  pub first : a ≡ true
  pub second : b ≡ true
  pub third : c ≡ true
  pub fourth : d ≡ true

-- each of them passes
four : (a b c d : Bool) → (a && b && c && d) ≡ true → Four a b c d
four a b c d h = record { first = grind (arith, nat_tests); second = grind (arith, nat_tests); third = grind (arith, nat_tests); fourth = grind (arith, nat_tests) }

-- a file with bytes
pub record HasExtents (p : Params) (e : Entry) : Type 0 where
  pub size : 0 < e.size
  pub some : 0 < length e.extents
  pub few : length e.extents ≤ extent_limit
  pub placed : list_all (is_placed p) e.extents ≡ true

-- the test says so
has_all : (p : Params) (e : Entry) → has_extents p e ≡ true → HasExtents p e
has_all p e h =
    let parts = four (nat_lt 0 e.size) (nat_lt 0 (length e.extents)) (nat_le (length e.extents) extent_limit) (list_all (is_placed p) e.extents) h in
    record {
      size = ltb-true 0 e.size parts.first;
      some = ltb-true 0 (length e.extents) parts.second;
      few = leb-true (length e.extents) extent_limit parts.third;
      placed = parts.fourth;
    }

-- what the rule says, by kind and map: nothing, or extents and their sum or their strips
pub data ByMap (p : Params) (e : Entry) : Type 0 where
  bare : e.size ≡ 0 → e.extents ≡ [] → e.map ≡ Empty → ByMap p e
  simple : HasExtents p e → adds_up p e ≡ true → e.map ≡ Simple → ByMap p e
  striped : (chunk : ℕ) → HasExtents p e → is_striped p e chunk ≡ true → e.map ≡ Striped chunk → ByMap p e

-- a bare entry has neither bytes nor extents
bare_is : (p : Params) (e : Entry) → is_bare e ≡ true → e.map ≡ Empty → ByMap p e
bare_is p e h map =
    let both = and_parts (e.size == 0) (length e.extents == 0) h in
    bare (eqb-true e.size 0 both.0) (nil_from_length e.extents (eqb-true (length e.extents) 0 both.1)) map

-- the rule by cases
by_kinds : (p : Params) (e : Entry) (kind : Kind) (map : MapKind) → e.map ≡ map → fits_map p e kind map ≡ true → ByMap p e
by_kinds p e Directory Empty is h = bare_is p e h is
by_kinds p e Directory Simple is h = absurd (cc)
by_kinds p e Directory (Striped chunk) is h = absurd (cc)
by_kinds p e File Empty is h = bare_is p e h is
by_kinds p e File Simple is h = let both = and_parts (has_extents p e) (adds_up p e) h in simple (has_all p e both.0) both.1 is
by_kinds p e File (Striped chunk) is h = let both = and_parts (has_extents p e) (is_striped p e chunk) h in striped chunk (has_all p e both.0) both.1 is

-- each entry that the rule lets pass is one of the three
pub by_map : (p : Params) (e : Entry) → is_map p e ≡ true → ByMap p e
unfolding is_map
by_map p e h = by_kinds p e e.kind e.map refl h

-- in each case there are at most sixteen
few_by : (p : Params) (e : Entry) → ByMap p e → length e.extents ≤ extent_limit
few_by p e (bare size none map) = omega (arith, ap length none)
few_by p e (simple has sum map) = has.few
few_by p e (striped chunk has strips map) = has.few

-- an entry has at most sixteen extents
pub few_extents : (p : Params) (e : Entry) → is_map p e ≡ true → length e.extents ≤ extent_limit
few_extents p e h = few_by p e (by_map p e h)

-- each in whole units, at its place
inside : (p : Params) (x : Extent) → is_placed p x ≡ true → IsInDevice p x
inside p x h =
    let parts = four (x.offset % p.unit == 0) (x.length % p.unit == 0) (nat_lt 0 x.length) (is_within p x) h in
    let ends = and_parts (nat_le (log_end p) x.offset) (nat_le (x.offset + x.length) (device_units p * p.unit)) parts.fourth in
    record {
      offset = eqb-true (x.offset % p.unit) 0 parts.first;
      length = eqb-true (x.length % p.unit) 0 parts.second;
      some = ltb-true 0 x.length parts.third;
      behind = leb-true (log_end p) x.offset ends.0;
      before = leb-true (x.offset + x.length) (device_units p * p.unit) ends.1;
    }

-- where all pass, all lie inside
placed_all : (p : Params) (xs : List Extent) → list_all (is_placed p) xs ≡ true → All (IsInDevice p) xs
placed_all p xs h = All-weaker (λ x. is_placed p x ≡ true) (IsInDevice p) (inside p) xs (AllPass-from_list_all (is_placed p) xs h)

-- in each case all of them lie inside
inside_by : (p : Params) (e : Entry) → ByMap p e → All (IsInDevice p) e.extents
inside_by p e (bare size none map) = All-same (IsInDevice p) e.extents [] none (All-nil (IsInDevice p))
inside_by p e (simple has sum map) = placed_all p e.extents has.placed
inside_by p e (striped chunk has strips map) = placed_all p e.extents has.placed

-- all extents of an entry lie inside
pub all_inside : (p : Params) (e : Entry) → is_map p e ≡ true → All (IsInDevice p) e.extents
all_inside p e h = inside_by p e (by_map p e h)

-- an extent ends with the device, or before
pub ends_in_device : (p : Params) (x : Extent) → IsInDevice p x → x.offset + x.length ≤ p.device
ends_in_device p x h = omega (arith, h.before, div-mul-le_self p.device p.unit)

-- The numbers of a proper entry.

-- the first and the last of three tests
three : (a b c : Bool) → (a && b && c) ≡ true → (a ≡ true) × (c ≡ true)
three a b c h = (grind (arith, nat_tests), grind (arith, nat_tests))

-- strips within the device bound size and chunk
bounds : (size chunk n strip device : ℕ) → size ≤ n * strip → chunk ≤ strip → n ≤ extent_limit → strip ≤ device → (size ≤ extent_limit * device) × (chunk ≤ device)
bounds size chunk n strip device a b c d = (omega (arith, mul-le-mul c d), omega arith)

-- a size is at most what its strips hold, and a chunk at most one strip
pub record StripsHold (size chunk nstrips : ℕ) : Type 0 where
  pub size_fits : size ≤ nstrips * strip_bytes size chunk nstrips
  pub chunk_fits : chunk ≤ strip_bytes size chunk nstrips

-- rounding up gives no less
rounded_up : (a b : ℕ) → 0 < b → a ≤ div_ceil a b * b
rounded_up a b some = (div_ceil_times a b some).0

-- a product with something in it has something in both factors
factor_pos : (n a b : ℕ) → 0 < n → n ≤ a * b → 0 < a
factor_pos n a b some h = elim (cases_eq a 0) [ inl zero ↦ absurd (omega (arith, ap (λ (x : ℕ). x * b) zero)) | inr other ↦ omega arith ]

-- by the count of chunks and of rows
hold_at : (size chunk nstrips chunks rows : ℕ) → 0 < size → size ≤ chunks * chunk → chunks ≤ rows * nstrips → (size ≤ nstrips * (rows * chunk)) × (chunk ≤ rows * chunk)
hold_at size chunk nstrips chunks rows some first second =
    let chunks_pos : 0 < chunks = factor_pos size chunks chunk some first in
    let rows_pos : 0 < rows = factor_pos chunks rows nstrips chunks_pos second in
    (omega (arith, mul-le-mul_right chunk second), omega (arith, le-mul_of_pos_right chunk rows_pos))

-- each byte has its place on a strip
pub strips_hold : (size chunk nstrips : ℕ) → 0 < size → 0 < chunk → 0 < nstrips → StripsHold size chunk nstrips
strips_hold size chunk nstrips bytes some strips =
    let both = hold_at size chunk nstrips (div_ceil size chunk) (div_ceil (div_ceil size chunk) nstrips) bytes (rounded_up size chunk some) (rounded_up (div_ceil size chunk) nstrips strips) in
    record { size_fits = both.0; chunk_fits = both.1 }

-- no unit is zero
unit_pos : (u : ℕ) → is_unit u ≡ true → 0 < u
unit_pos u h = elim (cases_eq u 0) [ inl zero ↦ absurd (false≢true (sym (ap is_unit zero) ∙ h)) | inr other ↦ omega arith ]

-- no extent is longer than the device
lengths_fit : (p : Params) (xs : List Extent) → All (IsInDevice p) xs → All (λ x. x.length ≤ p.device) xs
lengths_fit p xs h = All-weaker (IsInDevice p) (λ x. x.length ≤ p.device) (λ x i. omega (arith, ends_in_device p x i)) xs h

-- a simple file has no more bytes than its extents
simple_fits : (p : Params) (e : Entry) → 0 < p.unit → HasExtents p e → adds_up p e ≡ true → e.size ≤ extent_limit * p.device
simple_fits p e unit has sum =
    let few : length e.extents ≤ extent_limit = has.few in
    let total : sum_by (λ x. x.length) e.extents ≡ div_ceil e.size p.unit * p.unit = eqb-true (sum_by (λ x. x.length) e.extents) (div_ceil e.size p.unit * p.unit) sum in
    let bound : sum_by (λ x. x.length) e.extents ≤ length e.extents * p.device = sum_by-le (λ x. x.length) p.device e.extents (lengths_fit p e.extents (placed_all p e.extents has.placed)) in
    omega (arith, rounded_up e.size p.unit unit, mul-le-mul_right p.device few)

-- the first extent has the length that the test wants of each
first_strip : (xs : List Extent) (strip : ℕ) → 0 < length xs → list_all (λ x. x.length == strip) xs ≡ true → (get_or xs 0 no_extent).length ≡ strip
first_strip xs strip some h = eqb-true (get_or xs 0 no_extent).length strip (All-get_or (λ x. (x.length == strip) ≡ true) xs 0 no_extent some (AllPass-from_list_all (λ x. x.length == strip) xs h))

-- nor has a striped one, and its chunk is no more than a strip
striped_fits : (p : Params) (e : Entry) (chunk : ℕ) → HasExtents p e → is_striped p e chunk ≡ true → (e.size ≤ extent_limit * p.device) × (chunk ≤ p.device)
striped_fits p e chunk has strips =
    let parts = three (nat_lt 0 chunk) (chunk % p.unit == 0) (list_all (λ x. x.length == strip_bytes e.size chunk (length e.extents)) e.extents) strips in
    let few : length e.extents ≤ extent_limit = has.few in
    let some : 0 < length e.extents = has.some in
    let hold = strips_hold e.size chunk (length e.extents) has.size (ltb-true 0 chunk parts.0) some in
    let first : (get_or e.extents 0 no_extent).length ≡ strip_bytes e.size chunk (length e.extents) = first_strip e.extents (strip_bytes e.size chunk (length e.extents)) some parts.1 in
    let fits : (get_or e.extents 0 no_extent).length ≤ p.device = All-get_or (λ x. x.length ≤ p.device) e.extents 0 no_extent some (lengths_fit p e.extents (placed_all p e.extents has.placed)) in
    let strip : strip_bytes e.size chunk (length e.extents) ≤ p.device = omega (arith, first, fits) in
    bounds e.size chunk (length e.extents) (strip_bytes e.size chunk (length e.extents)) p.device hold.size_fits hold.chunk_fits few strip

-- The bounds by the device.
numbers_by : (p : Params) (e : Entry) → 0 < p.unit → ByMap p e → (e.size ≤ extent_limit * p.device) × (chunk_word e.map ≤ p.device)
numbers_by p e unit (bare size none map) = (omega arith, omega (arith, ap chunk_word map))
numbers_by p e unit (simple has sum map) = (simple_fits p e unit has sum, omega (arith, ap chunk_word map))
numbers_by p e unit (striped chunk has strips map) = let both = striped_fits p e chunk has strips in (both.0, omega (arith, ap chunk_word map, both.1))

-- the limit of a device is far below a word
below_limit : (device size chunk : ℕ) → device ≤ device_limit → (size ≤ extent_limit * device) × (chunk ≤ device) → (size < 2 ^ 64) × (chunk < 2 ^ 64)
below_limit device size chunk limit both = (omega (arith, both.0), omega (arith, both.1))

-- the entry's numbers fit words of 64 bits
pub fits_words : (p : Params) (e : Entry) → is_unit p.unit ≡ true → p.device ≤ device_limit → is_map p e ≡ true → FitsWords e
fits_words p e unit limit h =
    let both = below_limit p.device e.size (chunk_word e.map) limit (numbers_by p e (unit_pos p.unit unit) (by_map p e h)) in
    record {
      size = both.0;
      chunk = both.1;
      count = few_extents p e h;
      extents = All-weaker (IsInDevice p) ExtentFits (λ x i. record { offset = omega (arith, ends_in_device p x i); length = omega (arith, ends_in_device p x i) }) e.extents (all_inside p e h);
    }
