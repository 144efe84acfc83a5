-- The place of a byte among strips, in numbers.
use Rattle.std.proofs.Common.{◌≡◌, ℕ, ◌+◌, ◌*◌, ◌/◌, ◌%◌, ◌<◌, sym, ap, ◌∙◌, arith}
use Rattle.std.specs.Int.{div_ceil}
use Rattle.std.proofs.Math.Nat.{mul_assoc, mul-add-mod_self_right}
use Rattle.std.proofs.lemmas.Grind.{div_ceil_times}
use Rattle.std.proofs.lemmas.Nat.{div-add-mod', div_below, div-mul-add, mod-mul-add, mod_below, mul-add-lt, same_from_place}
use Rattle.fam_base.specs.Units.{strip_bytes}
use Rattle.fam_rules.specs.Place.{line_bytes, strip_of, place_in_strip}

-- rounding up leaves a place for each byte
pub below_rounded : (n size o : ℕ) → 0 < n → o < size → o < div_ceil size n * n
below_rounded n size o some below = omega (arith, (div_ceil_times size n some).0)

-- a byte of the file is within its strip
pub within_strip : (size chunk k o : ℕ) → 0 < chunk → 0 < k → o < size → place_in_strip k chunk o < strip_bytes size chunk k
within_strip size chunk k o some strips below =
    let chunks : o / chunk < div_ceil size chunk = div_below o chunk (div_ceil size chunk) some (below_rounded chunk size o some below) in
    let row : o / chunk / k < div_ceil (div_ceil size chunk) k = div_below (o / chunk) k (div_ceil (div_ceil size chunk) k) strips (below_rounded k (div_ceil size chunk) (o / chunk) strips chunks) in
    omega (arith, mul-add-lt (o / chunk / k) chunk (o % chunk) (div_ceil (div_ceil size chunk) k) row (mod_below o chunk some))

-- two numbers with one quotient and one rest are one
same_division : (a b n : ℕ) → a / n ≡ b / n → a % n ≡ b % n → a ≡ b
same_division a b n quotients rests =
    let products : a / n * n ≡ b / n * n = ap (λ (q : ℕ). q * n) quotients in
    omega (arith, products, rests, div-add-mod' a n, div-add-mod' b n)

-- two bytes at one place of one strip are one
pub same_in_strip : (chunk k a b : ℕ) → 0 < chunk → strip_of k chunk a ≡ strip_of k chunk b → place_in_strip k chunk a ≡ place_in_strip k chunk b → a ≡ b
same_in_strip chunk k a b some strips places =
    let both = same_from_place (a / chunk / k) (a % chunk) (b / chunk / k) (b % chunk) chunk (mod_below a chunk some) (mod_below b chunk some) places in
    same_division a b chunk (same_division (a / chunk) (b / chunk) k both.0 strips) both.1

-- Lines.

-- chunks of whole lines are whole lines, and so is what they leave of whole lines
chunks_lined : (q chunk : ℕ) → chunk % line_bytes ≡ 0 → q * chunk ≡ q * (chunk / line_bytes) * line_bytes
chunks_lined q chunk lined =
    let whole : chunk ≡ chunk / line_bytes * line_bytes = omega arith in
    ap (λ (n : ℕ). q * n) whole ∙ sym (mul_assoc q (chunk / line_bytes) line_bytes)

-- chunks before some bytes leave the bytes' place in their line
behind_chunks : (q chunk t : ℕ) → chunk % line_bytes ≡ 0 → (q * chunk + t) % line_bytes ≡ t % line_bytes
behind_chunks q chunk t lined =
    ap (λ (n : ℕ). (n + t) % line_bytes) (chunks_lined q chunk lined) ∙ mul-add-mod_self_right (q * (chunk / line_bytes)) line_bytes t

-- so whole lines leave whole lines in their chunk
rest_lined : (o chunk : ℕ) → chunk % line_bytes ≡ 0 → o % line_bytes ≡ 0 → o % chunk % line_bytes ≡ 0
rest_lined o chunk lined offset =
    sym (behind_chunks (o / chunk) chunk (o % chunk) lined) ∙ ap (λ (n : ℕ). n % line_bytes) (div-add-mod' o chunk) ∙ offset

-- a line's bytes lie in one chunk
one_chunk : (o chunk b : ℕ) → 0 < chunk → chunk % line_bytes ≡ 0 → o % line_bytes ≡ 0 → b < line_bytes → ((o + b) / chunk ≡ o / chunk) × ((o + b) % chunk ≡ o % chunk + b)
one_chunk o chunk b some chunks offset below =
    let rest : o % chunk + b < chunk = omega (arith, rest_lined o chunk chunks offset, mod_below o chunk some) in
    let sum : o / chunk * chunk + (o % chunk + b) ≡ o + b = omega (arith, div-add-mod' o chunk) in (
      sym (ap (λ (n : ℕ). n / chunk) sum) ∙ div-mul-add (o / chunk) chunk (o % chunk + b) rest,
      sym (ap (λ (n : ℕ). n % chunk) sum) ∙ mod-mul-add (o / chunk) chunk (o % chunk + b) rest,
    )

-- bytes that lie in one strip, side by side, from the front of a line on
pub record OneStrip (k chunk o b : ℕ) : Type 0 where
  pub strip : strip_of k chunk (o + b) ≡ strip_of k chunk o
  pub place : place_in_strip k chunk (o + b) ≡ place_in_strip k chunk o + b
  pub start : place_in_strip k chunk o % line_bytes ≡ 0

-- as the bytes of a line do
pub one_strip : (k chunk o b : ℕ) → 0 < chunk → chunk % line_bytes ≡ 0 → o % line_bytes ≡ 0 → b < line_bytes → OneStrip k chunk o b
one_strip k chunk o b some chunks offset below =
    let both = one_chunk o chunk b some chunks offset below in
    let row : (o + b) / chunk / k * chunk ≡ o / chunk / k * chunk = ap (λ (q : ℕ). q / k * chunk) both.0 in
    record {
      strip = ap (λ (q : ℕ). q % k) both.0;
      place = omega (arith, row, both.1);
      start = behind_chunks (o / chunk / k) chunk (o % chunk) chunks ∙ rest_lined o chunk chunks offset;
    }
