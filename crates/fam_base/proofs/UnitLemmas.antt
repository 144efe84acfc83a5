-- Counts of units.
use Rattle.std.proofs.Common.{◌≡◌, ℕ, ◌+◌, ◌*◌, ◌/◌, ◌%◌, ◌^◌, ◌<◌, ◌≤◌, arith}
use Rattle.std.specs.Int.{div_ceil}
use Rattle.std.proofs.Math.Nat.{mul-div_assoc, le-mul_of_pos_right, mul-le-mul_right}
use Rattle.std.proofs.lemmas.Nat.{div-add-mod', div_below}
use Rattle.std.proofs.lemmas.Nat.Gcd.{dvd_of_mod-eq-zero}
use Rattle.std.proofs.lemmas.Grind.{div_ceil_times}
use Rattle.fam_base.specs.Units.{least_unit, strip_bytes}

-- whole chunks in units
pub strips : (rows chunk unit : ℕ) → chunk % unit ≡ 0 → rows * chunk / unit ≡ rows * (chunk / unit)
strips rows chunk unit whole = mul-div_assoc unit rows (dvd_of_mod-eq-zero unit whole)

-- some units hold the bytes
pub units_enough : (size unit : ℕ) → 0 < unit → size ≤ div_ceil size unit * unit
units_enough size unit some = (div_ceil_times size unit some).0

-- and no unit is wholly empty
pub units_least : (size unit : ℕ) → 0 < unit → div_ceil size unit * unit < size + unit
units_least size unit some = (div_ceil_times size unit some).1

-- a share, rounded up, is no more than the whole
share : (whole n : ℕ) → 0 < n → div_ceil whole n ≤ whole
share whole n some = omega (arith, div-add-mod' whole n, le-mul_of_pos_right (whole / n) some)

-- a strip has fewer than 2 ^ 53 units
pub strip_below : (size unit chunk nstrips : ℕ) → size < 2 ^ 64 → chunk < 2 ^ 64 → least_unit ≤ unit → 0 < chunk → 0 < nstrips → strip_bytes size chunk nstrips / unit < 2 ^ 53
strip_below size unit chunk nstrips a b c some strips =
    let rows = mul-le-mul_right chunk (share (div_ceil size chunk) nstrips strips) in
    let bytes : strip_bytes size chunk nstrips < 2 ^ 65 = omega (arith, rows, units_least size chunk some) in
    div_below (strip_bytes size chunk nstrips) unit (2 ^ 53) (omega arith) (omega arith)
