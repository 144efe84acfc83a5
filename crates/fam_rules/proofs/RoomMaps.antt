-- The extents of a new file keep the map rule.
use Rattle.std.proofs.Common.{◌≡◌, ℕ, ◌+◌, ◌-◌, ◌*◌, ◌/◌, ◌%◌, ◌^◌, ◌<◌, ◌≤◌, ◌==◌, ◌&&◌, Bool, true, false, min, nat_lt, nat_le, List, length, map, refl, sym, ap, subst, ◌∙◌, inl, inr, arith}
use Rattle.std.specs.Int.{div_ceil}
use Rattle.std.specs.List.{All, list_all, list_any}
use Rattle.std.proofs.Math.Nat.{dvd-mul_left, mul-mod_left, mul-mod_right, mul-add-mod_self_right, mul-le-mul_right, le-mul_of_pos_right}
use Rattle.std.proofs.lemmas.Nat.Gcd.{dvd_trans, dvd_of_mod-eq-zero, mod-eq-zero_of_dvd}
use Rattle.std.proofs.Math.Pow.{pow_mono}
use Rattle.std.proofs.lemmas.Bool.{cases_eq, cases_lt, and_parts, or_parts, eqb-true, eq-eqb, le-leb, lt-ltb, ltb-false}
use Rattle.std.proofs.lemmas.Grind.{div_ceil_times}
use Rattle.std.proofs.lemmas.List.Elements.{All-weaker, All-map}
use Rattle.std.proofs.lemmas.List.Sums.{list_all-from_AllPass}
use Rattle.std.proofs.lemmas.Nat.{pow-add, div-add-mod'}
use Rattle.fam_base.specs.declared.entry.Params.{Params}
use Rattle.fam_base.specs.declared.entry.Entry.{Entry}
use Rattle.fam_base.specs.declared.extents.Extent.{Extent}
use Rattle.fam_base.specs.Units.{strip_bytes}
use Rattle.fam_base.proofs.UnitLemmas.{strip_below}
use Rattle.fam_format.specs.Layout.{log_offset, log_end, head_units, device_units}
use Rattle.fam_format.specs.Params.{SoundParams}
use Rattle.fam_format.specs.EntryLaws.{IsInDevice}
use Rattle.fam_format.specs.Slot.{extent_limit, is_within, is_placed, has_extents}
use Rattle.fam_format.specs.Units.{is_used, list_units}
use Rattle.fam_format.proofs.MapFits.{HasExtents, StripsHold, strips_hold}
use Rattle.fam_format.proofs.UnitPowers.{unit_told}
use Rattle.fam_rules.specs.Decide.{extent_from}
use Rattle.fam_rules.specs.Room.{Fits}
use Rattle.fam_rules.proofs.FilePlaces.{unit_some}

-- The end of the log.

-- 2 MiB are whole units
power_divides : (k : ℕ) → 2 ^ k ≤ 2 ^ 21 → log_offset % 2 ^ k ≡ 0
power_divides k most =
    elim (cases_lt k 22) [
      | inl low ↦
          let sum : k + (21 - k) ≡ 21 = omega arith in
          let product : 2 ^ 21 ≡ 2 ^ k * 2 ^ (21 - k) = sym (ap (λ (n : ℕ). 2 ^ n) sum) ∙ pow-add 2 k (21 - k) in
          ap (λ (n : ℕ). n % 2 ^ k) product ∙ mul-mod_right (2 ^ k) (2 ^ (21 - k))
      | inr high ↦ absurd (let big : 2 ^ 22 ≤ 2 ^ k = pow_mono {i = 22} {j = k} high in omega arith)
    ]

-- sums of whole units are whole units
whole_sum : (a b unit : ℕ) → a % unit ≡ 0 → b % unit ≡ 0 → (a + b) / unit * unit ≡ a + b
whole_sum a b unit first second =
    let prefix : a / unit * unit ≡ a = omega (arith, first, div-add-mod' a unit) in
    let rest : (a + b) % unit ≡ 0 = sym (ap (λ (n : ℕ). (n + b) % unit) prefix) ∙ mul-add-mod_self_right (a / unit) unit b ∙ second in
    omega (arith, rest, div-add-mod' (a + b) unit)

-- the log ends with a unit
log_whole : (p : Params) → SoundParams p → head_units p * p.unit ≡ log_end p
log_whole p sound =
    let is = unit_told p.unit sound.unit in
    let offset : log_offset % p.unit ≡ 0 = ap (λ (n : ℕ). log_offset % n) is.power.1 ∙ power_divides is.power.0 (omega (arith, is.most, is.power.1)) in
    let tests = and_parts (nat_lt 0 p.log_length && (p.log_length % p.unit == 0)) (nat_le p.log_length 67108864) sound.log_length in
    let whole : p.log_length % p.unit ≡ 0 = eqb-true (p.log_length % p.unit) 0 (and_parts (nat_lt 0 p.log_length) (p.log_length % p.unit == 0) tests.0).1 in
    whole_sum log_offset p.log_length p.unit offset whole

-- A run of free units.

-- a free unit is behind the log
behind_head : (p : Params) (list : List Entry) (u : ℕ) → is_used p list u ≡ false → head_units p ≤ u
behind_head p list u free = ltb-false u (head_units p) (or_parts (nat_lt u (head_units p)) (list_any (λ v. v == u) (list_units p.unit list)) free).0

-- so its extent lies where files may stand
pub run_inside : (p : Params) (list : List Entry) (k s : ℕ) → SoundParams p → 0 < k → Fits (is_used p list) (device_units p) k s → IsInDevice p (extent_from p.unit k s)
run_inside p list k s sound some fits =
    let head : head_units p ≤ s = behind_head p list s (fits.free s (omega arith) (omega arith)) in record {
      offset = mul-mod_left s p.unit;
      length = mul-mod_left k p.unit;
      some = omega (arith, le-mul_of_pos_right k (unit_some p sound));
      behind = omega (arith, log_whole p sound, mul-le-mul_right p.unit head);
      before = omega (arith, mul-le-mul_right p.unit fits.within);
    }

-- four tests in a row
four_pass : (a b c d : Bool) → a ≡ true → b ≡ true → c ≡ true → d ≡ true → (a && b && c && d) ≡ true
four_pass a b c d e f g h = rw (e, f, g, h) refl

-- the test of an extent
placed : (p : Params) (x : Extent) → IsInDevice p x → is_placed p x ≡ true
placed p x is =
    four_pass (x.offset % p.unit == 0) (x.length % p.unit == 0) (nat_lt 0 x.length) (is_within p x)
    (eq-eqb (x.offset % p.unit) 0 is.offset) (eq-eqb (x.length % p.unit) 0 is.length) (lt-ltb 0 x.length is.some)
    (rw (le-leb (log_end p) x.offset is.behind, le-leb (x.offset + x.length) (device_units p * p.unit) is.before) refl)

-- extents of k units from these starts on
pub all_placed : (p : Params) (list : List Entry) (k : ℕ) (starts : List ℕ) → SoundParams p → 0 < k
    → All (Fits (is_used p list) (device_units p) k) starts → list_all (is_placed p) (map (extent_from p.unit k) starts) ≡ true
all_placed p list k starts sound some fits =
    list_all-from_AllPass (is_placed p) (map (extent_from p.unit k) starts)
    (All-map (λ x. is_placed p x ≡ true) (extent_from p.unit k) starts
    (All-weaker (Fits (is_used p list) (device_units p) k) (λ s. is_placed p (extent_from p.unit k s) ≡ true)
    (λ s h. placed p (extent_from p.unit k s) (run_inside p list k s sound some h)) starts fits))

-- the test of a file's extents
pub extents_pass : (p : Params) (e : Entry) → HasExtents p e → has_extents p e ≡ true
extents_pass p e has =
    four_pass (nat_lt 0 e.size) (nat_lt 0 (length e.extents)) (nat_le (length e.extents) extent_limit) (list_all (is_placed p) e.extents)
    (lt-ltb 0 e.size has.size) (lt-ltb 0 (length e.extents) has.some) (le-leb (length e.extents) extent_limit has.few) has.placed

-- Counts of units.

-- a product with something in it has something in its first factor
first_some : (a b product : ℕ) → a * b ≡ product → 0 < product → 0 < a
first_some a b product is some = elim (cases_eq a 0) [ inl none ↦ absurd (omega (arith, ap (λ (n : ℕ). n * b) none)) | inr other ↦ omega arith ]

-- bytes take some units
pub units_some : (size unit : ℕ) → 0 < size → 0 < unit → 0 < div_ceil size unit
units_some size unit bytes some =
    first_some (div_ceil size unit) unit (div_ceil size unit * unit) refl (omega (arith, (div_ceil_times size unit some).0))

-- what is known of a strip of a file with bytes
pub record IsStripCount (size unit chunk nstrips k : ℕ) : Type 0 where
  pub some : 0 < k
  pub bytes : k * unit ≡ strip_bytes size chunk nstrips

-- whole units times a number are whole units
whole_product : (rows chunk unit : ℕ) → chunk % unit ≡ 0 → rows * chunk / unit * unit ≡ rows * chunk
whole_product rows chunk unit whole =
    let rest : rows * chunk % unit ≡ 0 = mod-eq-zero_of_dvd unit (dvd_trans unit (dvd_of_mod-eq-zero unit whole) (dvd-mul_left chunk rows)) in
    omega (arith, rest, div-add-mod' (rows * chunk) unit)

-- whole units make up a strip
strip_whole : (size unit chunk nstrips : ℕ) → chunk % unit ≡ 0 → strip_bytes size chunk nstrips / unit * unit ≡ strip_bytes size chunk nstrips
strip_whole size unit chunk nstrips whole = whole_product (div_ceil (div_ceil size chunk) nstrips) chunk unit whole

-- the count of a strip's units, whose cap isn't reached
pub strip_count : (p : Params) (size chunk nstrips : ℕ) → SoundParams p → 0 < size → size < 2 ^ 64 → chunk < 2 ^ 64 → 0 < chunk → chunk % p.unit ≡ 0
    → 0 < nstrips → IsStripCount size p.unit chunk nstrips (min (strip_bytes size chunk nstrips / p.unit) (2 ^ 64 - 1))
strip_count p size chunk nstrips sound bytes size_fits chunk_fits some whole strips =
    let is = unit_told p.unit sound.unit in
    let units : strip_bytes size chunk nstrips / p.unit * p.unit ≡ strip_bytes size chunk nstrips = strip_whole size p.unit chunk nstrips whole in
    let few : strip_bytes size chunk nstrips / p.unit < 2 ^ 53 = strip_below size p.unit chunk nstrips size_fits chunk_fits is.least some strips in
    let holds : StripsHold size chunk nstrips = strips_hold size chunk nstrips bytes some strips in
    subst (IsStripCount size p.unit chunk nstrips) (let e : strip_bytes size chunk nstrips / p.unit ≡ min (strip_bytes size chunk nstrips / p.unit) (2 ^ 64 - 1) = omega arith in e)
    (record { some = first_some (strip_bytes size chunk nstrips / p.unit) p.unit (strip_bytes size chunk nstrips) units (omega (arith, holds.chunk_fits)); bytes = units })
