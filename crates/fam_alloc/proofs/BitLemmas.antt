-- Bits of a word.
use Rattle.std.proofs.Common.{◌≡◌, ℕ, true, not, ◌+◌, ◌-◌, ◌*◌, ◌/◌, ◌%◌, ◌^◌, ◌<◌, ◌≤◌, ◌&&◌, ◌||◌, eqb, ltb, min, max, bit_and, bit_or, w64, sym, ap, ◌∙◌, inl, inr, arith}
use Rattle.std.specs.Int.{bit_at, trailing_zeros}
use Rattle.std.proofs.lemmas.Bool.{cases_lt}
use Rattle.std.proofs.lemmas.Bool.Decides.{nat_tests}
use Rattle.std.proofs.lemmas.Nat.{shr-shr, shr_split, pow_pos, mod_below, one_shl}
use Rattle.std.proofs.lemmas.Nat.Bits.{bit_at_and, bit_at_or, bit_at_not, bit_at-lt, bit_at_ones, bit_at_ones_above, bit_at-trailing_zeros, bit_at_above}
use Rattle.fam_alloc.specs.Next.{has_bit, is_between, IsNext}

-- tests of a digit that is 0 or 1
test_other : (a b : ℕ) → a < 2 → b ≡ 1 - a → eqb b 1 ≡ not (eqb a 1)
test_other a b small e = grind (arith, nat_tests)

test_both : (a b c : ℕ) → a < 2 → b < 2 → c ≡ min a b → eqb c 1 ≡ (eqb a 1 && eqb b 1)
test_both a b c p q e = grind (arith, nat_tests)

test_either : (a b c : ℕ) → a < 2 → b < 2 → c ≡ max a b → eqb c 1 ≡ (eqb a 1 || eqb b 1)
test_either a b c p q e = grind (arith, nat_tests)

-- a bit of the other bits
pub has_bit-not : (word i : ℕ) → word < 2 ^ 64 → i < 64 → has_bit (2 ^ 64 - 1 - word) i ≡ not (has_bit word i)
has_bit-not word i fits below = test_other (bit_at word i) _ (bit_at-lt word i) (bit_at_not w64 word i fits below)

-- a bit of two words together
pub has_bit-and : (a b i : ℕ) → has_bit (bit_and a b) i ≡ (has_bit a i && has_bit b i)
has_bit-and a b i = test_both (bit_at a i) (bit_at b i) _ (bit_at-lt a i) (bit_at-lt b i) (bit_at_and a b i)

pub has_bit-or : (a b i : ℕ) → has_bit (bit_or a b) i ≡ (has_bit a i || has_bit b i)
has_bit-or a b i = test_either (bit_at a i) (bit_at b i) _ (bit_at-lt a i) (bit_at-lt b i) (bit_at_or a b i)

test_below : (a i n : ℕ) → (i < n → a ≡ 1) → (n ≤ i → a ≡ 0) → eqb a 1 ≡ ltb i n
test_below a i n yes_below zero_above = grind (arith, nat_tests)

-- a bit of the n low ones
pub has_bit_ones : (n i : ℕ) → has_bit (2 ^ n - 1) i ≡ ltb i n
has_bit_ones n i = test_below (bit_at (2 ^ n - 1) i) i n (bit_at_ones n i) (bit_at_ones_above n i)

pub has_bit_shl : (n i : ℕ) → n < 64 → has_bit (1 * 2 ^ n % 2 ^ 64 - 1) i ≡ ltb i n
has_bit_shl n i below = ap (λ (p : ℕ). has_bit (p - 1) i) (one_shl n 64 below) ∙ has_bit_ones n i

pub has_bit_all : (n i : ℕ) → 64 ≤ n → i < 64 → has_bit (2 ^ 64 - 1) i ≡ ltb i n
has_bit_all n i large below = has_bit_ones 64 i ∙ grind (arith, nat_tests)

-- units within a span of a word
pub within_word : (a b from to first i : ℕ) → a ≡ to - first → b ≡ from - first → (ltb i a && not (ltb i b)) ≡ is_between from to (first + i)
within_word a b from to first i p q = grind (arith, nat_tests)

-- a word without bits from `from` on
pub no_bits : (word from to : ℕ) → word / 2 ^ from ≡ 0 → from ≤ to → IsNext (has_bit word) true from to to
no_bits word from to e low =
    let small : word < 2 ^ from = omega (arith, shr_split word from, ap (λ (q : ℕ). q * 2 ^ from) e, mod_below word (2 ^ from) (pow_pos from)) in
    record {
      low = low;
      high = omega arith;
      before = λ u above below. ap (λ (d : ℕ). eqb d 1) (bit_at_above word from u small above);
      here = λ h. absurd (omega arith);
    }

bit_of_rest : (word from u : ℕ) → from ≤ u → bit_at (word / 2 ^ from) (u - from) ≡ bit_at word u
bit_of_rest word from u low =
    let e : from + (u - from) ≡ u = omega arith in
    ap (λ (d : ℕ). d % 2) (shr-shr word from (u - from)) ∙ ap (λ (k : ℕ). bit_at word k) e

-- the lowest bit from `from` on
pub first_of_rest : (word from : ℕ) → word < 2 ^ 64 → from < 64 → 0 < word / 2 ^ from → word / 2 ^ from < 2 ^ 64 → IsNext (has_bit word) true from 64 (from + trailing_zeros w64 (word / 2 ^ from))
first_of_rest word from fits below some small =
    let zeros = bit_at-trailing_zeros w64 (word / 2 ^ from) some small in
    let z : ℕ = trailing_zeros w64 (word / 2 ^ from) in
    let e : from + z - from ≡ z = omega arith in
    let at : bit_at word (from + z) ≡ 1 = sym (bit_of_rest word from (from + z) (omega arith)) ∙ ap (λ (k : ℕ). bit_at (word / 2 ^ from) k) e ∙ zeros.1 in
    let within : from + z < 64 = elim (cases_lt (from + z) 64) [ inl h ↦ h | inr past ↦ absurd (omega (arith, at, bit_at_above word 64 (from + z) fits past)) ] in
    record {
      low = omega arith;
      high = omega arith;
      before = λ u above under. ap (λ (d : ℕ). eqb d 1) (sym (bit_of_rest word from u above) ∙ zeros.2 (u - from) (omega arith));
      here = λ h. ap (λ (d : ℕ). eqb d 1) at;
    }
