-- What holds of a slot's shape, whatever the format.
use Rattle.std.proofs.Common.{ℕ, ◌≡◌, ◌<◌, ◌≤◌, ◌+◌, ◌-◌, ◌*◌, ◌/◌, ◌⊎◌, inl, inr, Bool, true, false, refl, ap, arith}
use Rattle.std.proofs.Math.Nat.{mul-le-mul_left}
use Rattle.std.specs.Prelude.{◌==◌, if◌then◌else◌}
use Rattle.fam_base.specs.declared.entry.Params.{Params}
use Rattle.fam_format.specs.Layout.{Geometry, shape_of, geometry, slots_of, first_format, second_format}

-- lines of eight words; the fields and the path stand before the checksum
pub record IsShape (g : Geometry) : Type 0 where
  pub words : g.words ≡ 8 * g.lines
  pub bytes : g.bytes ≡ 64 * g.lines
  pub lines : 8 ≤ g.lines
  pub most : g.lines ≤ 16
  pub path : 8 * 42 + g.path_limit + 8 ≤ 8 * g.words
  pub limit : g.path_limit ≤ 512
  pub least : 168 ≤ g.path_limit

-- by the test for the second format
shape_by : (is_second : Bool) → IsShape (if is_second then second_format else first_format)
shape_by true = record { words = refl; bytes = refl; lines = omega arith; most = omega arith; path = omega arith; limit = omega arith; least = omega arith }
shape_by false = record { words = refl; bytes = refl; lines = omega arith; most = omega arith; path = omega arith; limit = omega arith; least = omega arith }

-- the shape of a format's slots is one
pub shape_is : (format : ℕ) → IsShape (shape_of format)
unfolding shape_of
shape_is format = shape_by (format == 2)

-- that of a file system's slots is
pub shape : (p : Params) → IsShape (geometry p)
shape p = shape_is p.format

-- a slot has 64 words at least
pub slot_long : (p : Params) → 64 ≤ (geometry p).words
slot_long p = let is : IsShape (geometry p) = shape p in omega (arith, is.words, is.lines)

-- and 128 at most
pub slot_short : (p : Params) → (geometry p).words ≤ 128
slot_short p = let is : IsShape (geometry p) = shape p in omega (arith, is.words, is.most)

-- and allows a path of 168 bytes
pub slot_allows : (p : Params) → 168 ≤ (geometry p).path_limit
slot_allows p = (shape p).least

either_by : (P : Geometry → Type 0) → P first_format → P second_format → (is_second : Bool) → P (if is_second then second_format else first_format)
either_by P one two true = two
either_by P one two false = one

-- what holds of both shapes holds of a file system's
pub either : (P : Geometry → Type 0) → P first_format → P second_format → (p : Params) → P (geometry p)
unfolding shape_of
either P one two p = either_by P one two (p.format == 2)

-- slots of w lines each, of which there are n
pub record AreOf (g : Geometry) (w n : ℕ) : Type 0 where
  pub lines : g.lines ≡ w
  pub words : g.words ≡ 8 * w
  pub all_lines : g.lines * n ≡ w * n
  pub all_words : g.words * n ≡ 8 * w * n

-- by the test
times_by : (is_second : Bool) (n : ℕ) → AreOf (if is_second then second_format else first_format) 8 n ⊎ AreOf (if is_second then second_format else first_format) 16 n
times_by true n = inr (record { lines = refl; words = refl; all_lines = refl; all_words = refl })
times_by false n = inl (record { lines = refl; words = refl; all_lines = refl; all_words = refl })

-- a file system's slots have eight lines each, or sixteen
pub times : (p : Params) (n : ℕ) → AreOf (geometry p) 8 n ⊎ AreOf (geometry p) 16 n
unfolding shape_of
times p n = times_by (p.format == 2) n

-- by the test
ends_by : (is_second : Bool) (length n : ℕ) → n < length / (if is_second then second_format else first_format).bytes - 1
    → 64 * ((if is_second then second_format else first_format).lines * n + 2 * (if is_second then second_format else first_format).lines) ≤ length
ends_by true length n below = omega arith
ends_by false length n below = omega arith

-- a slot and the header lie in the log
pub slot_ends : (format length n : ℕ) → n < slots_of format length → 64 * ((shape_of format).lines * n + 2 * (shape_of format).lines) ≤ length
unfolding shape_of
slot_ends format length n below = ends_by (format == 2) length n below

-- by the test
some_by : (is_second : Bool) (length : ℕ) → 4096 ≤ length → 0 < length / (if is_second then second_format else first_format).bytes - 1
some_by true length long = omega (arith, long)
some_by false length long = omega (arith, long)

-- a log of a unit or more has a slot
pub slots_some : (format length : ℕ) → 4096 ≤ length → 0 < slots_of format length
unfolding shape_of
slots_some format length long = some_by (format == 2) length long

-- of pieces of so many each, an earlier one ends where a later one begins, or before
pub piece_ends : (m i n : ℕ) → i < n → m * i + m ≤ m * n
piece_ends m i n below = omega (arith, mul-le-mul_left {m = i + 1} {n = n} m (omega arith))

-- so many pieces are those up to an earlier one, and the others
pub piece_span : (m f i : ℕ) → f ≤ i → m * i ≡ m * f + m * (i - f)
piece_span m f i behind = let same : m * i ≡ m * (f + (i - f)) = ap (λ (n : ℕ). m * n) (omega arith) in omega (arith, same)

-- none of them
pub piece_none : (m f : ℕ) → m * (f - f) ≡ 0
piece_none m f = let same : m * (f - f) ≡ m * 0 = ap (λ (n : ℕ). m * n) (omega arith) in omega (arith, same)

-- with one piece more
pub piece_more : (m f i : ℕ) → f ≤ i → m * (i + 1 - f) ≡ m * (i - f) + m
piece_more m f i behind = let same : m * (i + 1 - f) ≡ m * (i - f + 1) = ap (λ (n : ℕ). m * n) (omega arith) in omega (arith, same)

-- the words of so many slots, by their lines
pub all_words : (p : Params) (n : ℕ) → (geometry p).words * n ≡ 8 * ((geometry p).lines * n)
all_words p n = omega (arith, ap (λ (w : ℕ). w * n) (shape p).words)

first_by : (n : ℕ) → n ≡ 1 → (if n == 2 then second_format else first_format) ≡ first_format
first_by n is = ap (λ (m : ℕ). if m == 2 then second_format else first_format) is

-- slots of format 1
pub first : (p : Params) → p.format ≡ 1 → geometry p ≡ first_format
unfolding shape_of
first p is = first_by p.format is

second_by : (n : ℕ) → n ≡ 2 → (if n == 2 then second_format else first_format) ≡ second_format
second_by n is = ap (λ (m : ℕ). if m == 2 then second_format else first_format) is

-- slots of format 2
pub second : (p : Params) → p.format ≡ 2 → geometry p ≡ second_format
unfolding shape_of
second p is = second_by p.format is
