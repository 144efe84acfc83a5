-- The place of a proper file's byte.
use Rattle.std.proofs.Common.{◌≡◌, ℕ, ◌+◌, ◌-◌, ◌*◌, ◌/◌, ◌%◌, ◌^◌, ◌<◌, ◌≤◌, ◌==◌, ◌&&◌, true, nat_lt, List, length, get_or, sym, ap, subst, ◌∙◌, inl, inr, arith}
use Rattle.std.specs.List.{All, Contains, list_all}
use Rattle.std.specs.Int.{div_ceil}
use Rattle.std.proofs.Math.Nat.{mul-mod_right}
use Rattle.std.proofs.Math.Pow.{pow_mono}
use Rattle.std.proofs.lemmas.Grind.{div_ceil_times}
use Rattle.std.proofs.lemmas.Bool.{cases_lt, and_parts, eqb-true, ltb-true}
use Rattle.std.proofs.lemmas.Nat.{pow-add, mod_below, same_from_place}
use Rattle.std.proofs.lemmas.Nat.Gcd.{dvd_trans, dvd_of_mod-eq-zero, mod-eq-zero_of_dvd}
use Rattle.std.proofs.lemmas.List.{get_or_default}
use Rattle.std.proofs.lemmas.List.Elements.{All-weaker, All-get_or}
use Rattle.std.proofs.lemmas.List.Sums.{AllPass-from_list_all}
use Rattle.fam_base.specs.declared.entry.Params.{Params}
use Rattle.fam_base.specs.declared.entry.Entry.{Entry}
use Rattle.fam_base.specs.declared.entry.MapKind.{MapKind}
use Rattle.fam_base.specs.declared.entry.MapKind.TheVariants.{Simple, Striped}
use Rattle.fam_base.specs.declared.extents.Extent.{Extent}
use Rattle.fam_base.specs.ExtentLists.{no_extent}
use Rattle.fam_base.specs.Units.{strip_bytes}
use Rattle.fam_format.specs.Layout.{log_end, device_units}
use Rattle.fam_format.specs.Params.{SoundParams}
use Rattle.fam_format.specs.Slot.{Proper, adds_up, is_striped}
use Rattle.fam_format.specs.EntryLaws.{IsInDevice}
use Rattle.fam_format.specs.Units.{units_in}
use Rattle.fam_format.proofs.UnitPowers.{unit_told}
use Rattle.fam_format.proofs.MapFits.{HasExtents, ByMap, bare, simple, striped, by_map}
use Rattle.fam_format.proofs.EntryLawsProofs.{proper_inside}
use Rattle.fam_rules.specs.Place.{line_bytes, total_length, simple_place, striped_place, place_by, strip_of, place_in_strip, place, IsIn, IsOnce}
use Rattle.fam_rules.proofs.SimplePlaces.{IsLined, OneLine, simple_in, simple_line}
use Rattle.fam_rules.proofs.UnitPlaces.{StandsIn, stands_unit, stands_once, simple_stands, strip_stands}
use Rattle.fam_rules.proofs.StripPlaces.{within_strip, same_in_strip, OneStrip, one_strip}

-- A sound unit.

-- a power of two from 64 on is whole lines
power_lined : (k : ℕ) → 6 ≤ k → 2 ^ k % line_bytes ≡ 0
power_lined k some =
    let sum : 6 + (k - 6) ≡ k = omega arith in
    let product : 2 ^ k ≡ line_bytes * 2 ^ (k - 6) = sym (ap (λ (n : ℕ). 2 ^ n) sum) ∙ pow-add 2 6 (k - 6) in
    ap (λ (n : ℕ). n % line_bytes) product ∙ mul-mod_right line_bytes (2 ^ (k - 6))

-- a unit has some bytes
pub unit_some : (p : Params) → SoundParams p → 0 < p.unit
unit_some p sound = omega (arith, (unit_told p.unit sound.unit).least)

-- and is whole lines
pub unit_lined : (p : Params) → SoundParams p → p.unit % line_bytes ≡ 0
unit_lined p sound =
    let is = unit_told p.unit sound.unit in
    ap (λ (n : ℕ). n % line_bytes) is.power.1 ∙ power_lined is.power.0 (
    elim (cases_lt is.power.0 6) [
      | inl low ↦ absurd (let small : 2 ^ is.power.0 ≤ 2 ^ 5 = pow_mono {i = is.power.0} {j = 5} (omega arith) in omega (arith, is.least, is.power.1))
      | inr over ↦ over
    ])

-- whole units are whole lines
pub units_lined : (p : Params) (n : ℕ) → SoundParams p → n % p.unit ≡ 0 → n % line_bytes ≡ 0
units_lined p n sound whole =
    mod-eq-zero_of_dvd line_bytes (dvd_trans line_bytes (dvd_of_mod-eq-zero line_bytes (unit_lined p sound)) (dvd_of_mod-eq-zero p.unit whole))

-- A proper file by its map.

-- a simple map: the size is no more than its extents hold
pub record IsSimple (p : Params) (e : Entry) : Type 0 where
  pub map : e.map ≡ Simple
  pub inside : All (IsInDevice p) e.extents
  pub size : e.size ≤ total_length e.extents

-- a striped map: chunks of whole units, on strips of one length
pub record IsStriped (p : Params) (e : Entry) (chunk : ℕ) : Type 0 where
  pub map : e.map ≡ Striped chunk
  pub inside : All (IsInDevice p) e.extents
  pub some : 0 < length e.extents
  pub chunk_some : 0 < chunk
  pub chunk_whole : chunk % p.unit ≡ 0
  pub lengths : All (λ x. x.length ≡ strip_bytes e.size chunk (length e.extents)) e.extents

-- a file with bytes is one of these
pub data HasMap (p : Params) (e : Entry) : Type 0 where
  is_simple : IsSimple p e → HasMap p e
  is_dealt : (chunk : ℕ) → IsStriped p e chunk → HasMap p e

-- the sum of the lengths is the size, rounded up to units
simple_map : (p : Params) (e : Entry) → SoundParams p → Proper p e → adds_up p e ≡ true → e.map ≡ Simple → IsSimple p e
simple_map p e sound proper sum map =
    let total : total_length e.extents ≡ div_ceil e.size p.unit * p.unit = eqb-true (total_length e.extents) (div_ceil e.size p.unit * p.unit) sum in
    record { map = map; inside = proper_inside p e proper; size = omega (arith, total, (div_ceil_times e.size p.unit (unit_some p sound)).0) }

-- what the tests of chunk and strips say
dealt_map : (p : Params) (e : Entry) (chunk : ℕ) → Proper p e → HasExtents p e → is_striped p e chunk ≡ true → e.map ≡ Striped chunk → IsStriped p e chunk
dealt_map p e chunk proper has strips map =
    let first = and_parts (nat_lt 0 chunk && (chunk % p.unit == 0)) (list_all (λ x. x.length == strip_bytes e.size chunk (length e.extents)) e.extents) strips in
    let tests = and_parts (nat_lt 0 chunk) (chunk % p.unit == 0) first.0 in
    record {
      map = map;
      inside = proper_inside p e proper;
      some = has.some;
      chunk_some = ltb-true 0 chunk tests.0;
      chunk_whole = eqb-true (chunk % p.unit) 0 tests.1;
      lengths = All-weaker (λ x. (x.length == strip_bytes e.size chunk (length e.extents)) ≡ true)
          (λ x. x.length ≡ strip_bytes e.size chunk (length e.extents)) (λ x h. eqb-true x.length (strip_bytes e.size chunk (length e.extents)) h)
          e.extents (AllPass-from_list_all (λ x. x.length == strip_bytes e.size chunk (length e.extents)) e.extents first.1);
    }

-- by the cases of the map rule
by_maps : (p : Params) (e : Entry) → SoundParams p → Proper p e → 0 < e.size → ByMap p e → HasMap p e
by_maps p e sound proper bytes (bare size none map) = absurd (omega (arith, size))
by_maps p e sound proper bytes (simple has sum map) = is_simple (simple_map p e sound proper sum map)
by_maps p e sound proper bytes (striped chunk has strips map) = is_dealt chunk (dealt_map p e chunk proper has strips map)

-- a proper entry with bytes has a map
pub has_map : (p : Params) (e : Entry) → SoundParams p → Proper p e → 0 < e.size → HasMap p e
has_map p e sound proper bytes = by_maps p e sound proper bytes (by_map p e proper.map)

-- Where a byte stands.

-- by a simple map
pub place_simple : (p : Params) (e : Entry) (o : ℕ) → IsSimple p e → simple_place e.extents o ≡ place e o
unfolding place
place_simple p e o is = ap (λ (m : MapKind). place_by e.extents m o) (sym is.map)

-- and by a striped one
pub place_dealt : (p : Params) (e : Entry) (chunk o : ℕ) → IsStriped p e chunk → striped_place e.extents chunk o ≡ place e o
unfolding place
place_dealt p e chunk o is = ap (λ (m : MapKind). place_by e.extents m o) (sym is.map)

-- there is such a strip
strip_below : (p : Params) (e : Entry) (chunk o : ℕ) → IsStriped p e chunk → strip_of (length e.extents) chunk o < length e.extents
strip_below p e chunk o is = mod_below (o / chunk) (length e.extents) is.some

-- and the byte is within it
in_strip : (p : Params) (e : Entry) (chunk o : ℕ) → IsStriped p e chunk → o < e.size → place_in_strip (length e.extents) chunk o < strip_bytes e.size chunk (length e.extents)
in_strip p e chunk o is below = within_strip e.size chunk (length e.extents) o is.chunk_some is.some below

-- the strip's extent has the byte
dealt_in : (p : Params) (e : Entry) (chunk o : ℕ) → IsStriped p e chunk → o < e.size → IsIn e.extents (striped_place e.extents chunk o)
dealt_in p e chunk o is below =
    let s : ℕ = strip_of (length e.extents) chunk o in
    let x : Extent = get_or e.extents s no_extent in
    let at : s < length e.extents = strip_below p e chunk o is in
    let long : x.length ≡ strip_bytes e.size chunk (length e.extents) = All-get_or (λ y. y.length ≡ strip_bytes e.size chunk (length e.extents)) e.extents s no_extent at is.lengths in
    (s, x, at, get_or_default e.extents s x no_extent at, record { from = omega arith; to = omega (arith, long, in_strip p e chunk o is below) })

-- by the map, the byte lies in an extent
place_in_by : (p : Params) (e : Entry) (o : ℕ) → HasMap p e → o < e.size → IsIn e.extents (place e o)
place_in_by p e o (is_simple is) below = subst (IsIn e.extents) (place_simple p e o is) (simple_in e.extents o (omega (arith, is.size)))
place_in_by p e o (is_dealt chunk is) below = subst (IsIn e.extents) (place_dealt p e chunk o is) (dealt_in p e chunk o is below)

-- each byte of the file lies in one of its extents
pub place_in : (p : Params) (e : Entry) (o : ℕ) → SoundParams p → Proper p e → o < e.size → IsIn e.extents (place e o)
place_in p e o sound proper below = place_in_by p e o (has_map p e sound proper (omega arith)) below

-- a byte in one of the extents is behind the log and in the device's whole units
pub in_bounds : (p : Params) (extents : List Extent) (b : ℕ) → All (IsInDevice p) extents → IsIn extents b → (log_end p ≤ b) × (b < device_units p * p.unit)
in_bounds p extents b inside (k, x, below, is, has) =
    let at : IsInDevice p x = subst (IsInDevice p) is (All-get_or (IsInDevice p) extents k x below inside) in
    (omega (arith, at.behind, has.from), omega (arith, at.before, has.to))

-- so a byte of a file is behind the log
pub place_behind : (p : Params) (e : Entry) (o : ℕ) → SoundParams p → Proper p e → o < e.size → log_end p ≤ place e o
place_behind p e o sound proper below = (in_bounds p e.extents (place e o) (proper_inside p e proper) (place_in p e o sound proper below)).0

-- and in the whole units
pub place_before : (p : Params) (e : Entry) (o : ℕ) → SoundParams p → Proper p e → o < e.size → place e o < device_units p * p.unit
place_before p e o sound proper below = (in_bounds p e.extents (place e o) (proper_inside p e proper) (place_in p e o sound proper below)).1

-- The unit of a byte.

-- a byte of a simple file stands at its own place in the units
simple_unit : (p : Params) (e : Entry) (o : ℕ) → SoundParams p → IsSimple p e → o < e.size → StandsIn p.unit (units_in p.unit e.extents) o (place e o)
simple_unit p e o sound is below =
    subst (StandsIn p.unit (units_in p.unit e.extents) o) (place_simple p e o is) (simple_stands p e.extents o (unit_some p sound) is.inside (omega (arith, is.size)))

-- the place of a striped file's byte in its extents laid end to end
end_to_end : Entry → ℕ → ℕ → ℕ
end_to_end e chunk o = strip_of (length e.extents) chunk o * strip_bytes e.size chunk (length e.extents) + place_in_strip (length e.extents) chunk o

-- there a striped file's byte stands
dealt_unit : (p : Params) (e : Entry) (chunk o : ℕ) → SoundParams p → IsStriped p e chunk → o < e.size → StandsIn p.unit (units_in p.unit e.extents) (end_to_end e chunk o) (place e o)
unfolding end_to_end
dealt_unit p e chunk o sound is below =
    subst (StandsIn p.unit (units_in p.unit e.extents) (end_to_end e chunk o)) (place_dealt p e chunk o is)
    (strip_stands p e.extents (strip_bytes e.size chunk (length e.extents)) (strip_of (length e.extents) chunk o)
    (place_in_strip (length e.extents) chunk o) (unit_some p sound) is.inside is.lengths (strip_below p e chunk o is)
    (in_strip p e chunk o is below))

-- two bytes at one such place are one
dealt_once : (p : Params) (e : Entry) (chunk a b : ℕ) → IsStriped p e chunk → a < e.size → b < e.size → end_to_end e chunk a ≡ end_to_end e chunk b → a ≡ b
unfolding end_to_end
dealt_once p e chunk a b is a_below b_below same =
    let both = same_from_place (strip_of (length e.extents) chunk a) (place_in_strip (length e.extents) chunk a) (strip_of (length e.extents) chunk b)
    (place_in_strip (length e.extents) chunk b) (strip_bytes e.size chunk (length e.extents)) (in_strip p e chunk a is a_below)
    (in_strip p e chunk b is b_below) same in
    same_in_strip chunk (length e.extents) a b is.chunk_some both.0 both.1

-- by the map, the byte's unit
place_unit_by : (p : Params) (e : Entry) (o : ℕ) → SoundParams p → HasMap p e → o < e.size → Contains (units_in p.unit e.extents) (place e o / p.unit)
place_unit_by p e o sound (is_simple is) below = stands_unit p.unit (units_in p.unit e.extents) o (place e o) (simple_unit p e o sound is below)
place_unit_by p e o sound (is_dealt chunk is) below = stands_unit p.unit (units_in p.unit e.extents) (end_to_end e chunk o) (place e o) (dealt_unit p e chunk o sound is below)

-- the byte's unit is one of the entry's
pub place_unit : (p : Params) (e : Entry) (o : ℕ) → SoundParams p → Proper p e → o < e.size → Contains (units_in p.unit e.extents) (place e o / p.unit)
place_unit p e o sound proper below = place_unit_by p e o sound (has_map p e sound proper (omega arith)) below

-- by the map, one byte at one place
place_once_by : (p : Params) (e : Entry) (a b : ℕ) → SoundParams p → HasMap p e → IsOnce (units_in p.unit e.extents) → a < e.size → b < e.size → place e a ≡ place e b → a ≡ b
place_once_by p e a b sound (is_simple is) once a_below b_below same =
    stands_once p.unit (units_in p.unit e.extents) a b (place e b) once
    (subst (StandsIn p.unit (units_in p.unit e.extents) a) same (simple_unit p e a sound is a_below))
    (simple_unit p e b sound is b_below)
place_once_by p e a b sound (is_dealt chunk is) once a_below b_below same =
    dealt_once p e chunk a b is a_below b_below
    (stands_once p.unit (units_in p.unit e.extents) (end_to_end e chunk a) (end_to_end e chunk b) (place e b) once
    (subst (StandsIn p.unit (units_in p.unit e.extents) (end_to_end e chunk a)) same (dealt_unit p e chunk a sound is a_below))
    (dealt_unit p e chunk b sound is b_below))

-- where no unit stands twice, two bytes of a file have two places
pub place_once : (p : Params) (e : Entry) (a b : ℕ) → SoundParams p → Proper p e → IsOnce (units_in p.unit e.extents) → a < e.size → b < e.size → place e a ≡ place e b → a ≡ b
place_once p e a b sound proper once a_below b_below same =
    place_once_by p e a b sound (has_map p e sound proper (omega arith)) once a_below b_below same

-- Lines.

-- extents of whole units are whole lines
lined : (p : Params) (xs : List Extent) → SoundParams p → All (IsInDevice p) xs → All IsLined xs
lined p xs sound inside = All-weaker (IsInDevice p) IsLined (λ x h. record { offset = units_lined p x.offset sound h.offset; length = units_lined p x.length sound h.length }) xs inside

-- bytes that begin a line and lie side by side are a line
pub record OnLine (e : Entry) (o b : ℕ) : Type 0 where
  pub next : place e (o + b) ≡ place e o + b
  pub start : place e o % line_bytes ≡ 0

-- a line of a striped file
dealt_line : (p : Params) (e : Entry) (chunk o b : ℕ) → SoundParams p → IsStriped p e chunk → o % line_bytes ≡ 0 → b < line_bytes → OnLine e o b
dealt_line p e chunk o b sound is offset below =
    let k : ℕ = length e.extents in
    let one : OneStrip k chunk o b = one_strip k chunk o b is.chunk_some (units_lined p chunk sound is.chunk_whole) offset below in
    let head = All-get_or IsLined e.extents (strip_of k chunk o) no_extent (strip_below p e chunk o is) (lined p e.extents sound is.inside) in
    let strip : (get_or e.extents (strip_of k chunk (o + b)) no_extent).offset ≡ (get_or e.extents (strip_of k chunk o) no_extent).offset =
    ap (λ (s : ℕ). (get_or e.extents s no_extent).offset) one.strip in
    record {
      next = omega (arith, place_dealt p e chunk (o + b) is, place_dealt p e chunk o is, strip, one.place);
      start = omega (arith, place_dealt p e chunk o is, head.offset, one.start);
    }

-- a line of a file, by its map
on_line_by : (p : Params) (e : Entry) (o b : ℕ) → SoundParams p → HasMap p e → o % line_bytes ≡ 0 → o < e.size → b < line_bytes → OnLine e o b
on_line_by p e o b sound (is_simple is) offset below within =
    let one : OneLine e.extents o b = simple_line e.extents o b (lined p e.extents sound is.inside) offset (omega (arith, is.size)) within in
    record {
      next = omega (arith, place_simple p e (o + b) is, place_simple p e o is, one.place);
      start = omega (arith, place_simple p e o is, one.start);
    }
on_line_by p e o b sound (is_dealt chunk is) offset below within = dealt_line p e chunk o b sound is offset within

-- the bytes of the file's line j lie in one line of the device
pub line_place : (p : Params) (e : Entry) (j b : ℕ) → SoundParams p → Proper p e → line_bytes * j < e.size → b < line_bytes
    → place e (line_bytes * j + b) ≡ line_bytes * (place e (line_bytes * j) / line_bytes) + b
line_place p e j b sound proper below within =
    let on : OnLine e (line_bytes * j) b = on_line_by p e (line_bytes * j) b sound (has_map p e sound proper (omega arith)) (omega arith) below within in
    omega (arith, on.next, on.start)
