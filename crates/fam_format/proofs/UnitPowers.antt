-- The units are the powers of two in their range.
use Rattle.std.proofs.Common.{◌≡◌, ℕ, zero, suc, ◌+◌, ◌-◌, ◌*◌, ◌/◌, ◌%◌, ◌^◌, ◌<◌, ◌≤◌, ◌||◌, ◌&&◌, Bool, true, eqb, leb, count_ones, inl, inr, lit<, refl, sym, ap, ap₂, zero-add, ◌∙◌, arith}
use Rattle.std.specs.Int.{IsPowerOfTwo}
use Rattle.std.proofs.Math.Nat.{pow-suc}
use Rattle.std.proofs.Math.Pow.{pow_mono}
use Rattle.std.proofs.lemmas.Bool.{cases_lt, or_cases, eqb-true}
use Rattle.std.proofs.lemmas.Bool.Decides.{nat_tests, same_from_decides}
use Rattle.std.proofs.lemmas.Nat.{zero_from_ones, ones_le_self}
use Rattle.fam_format.specs.Params.{is_unit}
use Rattle.fam_format.specs.SuperLaws.{least_unit, most_unit, IsUnit}
use lib.Count.{ones, ones_step}

-- a number below d with one bit is a power of two
one_bit : (d n : ℕ) → n ≤ d → count_ones n ≡ 1 → IsPowerOfTwo n
one_bit zero n within one = absurd (omega (arith, ones_le_self n))
one_bit (suc d) n within one =
    elim (cases_lt 0 (n % 2)) [
      | inl odd ↦
          let none : count_ones (n / 2) ≡ 0 = omega (arith, ones_step n) in
          let half : n / 2 ≡ 0 = zero_from_ones (n / 2) none in
          (0, omega arith)
      | inr even ↦
          let some : 0 < n = omega (arith, ones_le_self n) in
          let half = one_bit d (n / 2) (omega arith) (omega (arith, ones_step n)) in
          (suc half.0, let double : n ≡ 2 ^ half.0 * 2 = omega (arith, half.1) in double ∙ sym (pow-suc 2 half.0))
    ]

-- a number is the last of a list of numbers, or one of the others
among : {P : Type 0} (u n : ℕ) (others : Bool) → (others || eqb u n) ≡ true → (u ≡ n → P) → (others ≡ true → P) → P
among u n others is here there = elim (or_cases others (eqb u n) is) [ inl more ↦ there more | inr e ↦ here (eqb-true u n e) ]

-- each unit is one of ten powers
abbrev OneOfTen : ℕ → Type 0
OneOfTen u = (j : ℕ) × (j < 10) × (u ≡ 2 ^ (12 + j))

-- each unit, from the largest on
unit_is_power : (u : ℕ) → is_unit u ≡ true → OneOfTen u
unit_is_power u is =
    among u 2097152 _ is (λ e. (9, lit< tt, e)) (λ is_9.
    among u 1048576 _ is_9 (λ e. (8, lit< tt, e)) (λ is_8.
    among u 524288 _ is_8 (λ e. (7, lit< tt, e)) (λ is_7.
    among u 262144 _ is_7 (λ e. (6, lit< tt, e)) (λ is_6.
    among u 131072 _ is_6 (λ e. (5, lit< tt, e)) (λ is_5.
    among u 65536 _ is_5 (λ e. (4, lit< tt, e)) (λ is_4.
    among u 32768 _ is_4 (λ e. (3, lit< tt, e)) (λ is_3.
    among u 16384 _ is_3 (λ e. (2, lit< tt, e)) (λ is_2.
    among u 8192 _ is_2 (λ e. (1, lit< tt, e)) (λ is_1. (0, lit< tt, eqb-true u 4096 is_1))))))))))

-- the ten units
power_is_unit : (j : ℕ) → j < 10 → is_unit (2 ^ (12 + j)) ≡ true
power_is_unit zero below = refl
power_is_unit (suc zero) below = refl
power_is_unit (suc (suc zero)) below = refl
power_is_unit (suc (suc (suc zero))) below = refl
power_is_unit (suc (suc (suc (suc zero)))) below = refl
power_is_unit (suc (suc (suc (suc (suc zero))))) below = refl
power_is_unit (suc (suc (suc (suc (suc (suc zero)))))) below = refl
power_is_unit (suc (suc (suc (suc (suc (suc (suc zero))))))) below = refl
power_is_unit (suc (suc (suc (suc (suc (suc (suc (suc zero)))))))) below = refl
power_is_unit (suc (suc (suc (suc (suc (suc (suc (suc (suc zero))))))))) below = refl
power_is_unit (suc (suc (suc (suc (suc (suc (suc (suc (suc (suc j)))))))))) below = absurd (omega arith)

-- a power of two from the least unit to the most is one of the ten
in_range : (k u : ℕ) → u ≡ 2 ^ k → least_unit ≤ u → u ≤ most_unit → is_unit u ≡ true
in_range k u e least most =
    elim (cases_lt k 12) [
      | inl low ↦ absurd (let small : 2 ^ k ≤ 2 ^ 11 = pow_mono {i = k} {j = 11} (omega arith) in omega arith)
      | inr over ↦
          elim (cases_lt k 22) [
            | inl below ↦
                let j : 12 + (k - 12) ≡ k = omega arith in
                let unit : is_unit (2 ^ (12 + (k - 12))) ≡ true = power_is_unit (k - 12) (omega arith) in
                ap (λ (n : ℕ). is_unit n) (e ∙ ap (λ (i : ℕ). 2 ^ i) (sym j)) ∙ unit
            | inr high ↦ absurd (let big : 2 ^ 22 ≤ 2 ^ k = pow_mono {i = 22} {j = k} high in omega arith)
          ]
    ]

-- a unit is a power of two in the range
pub unit_told : (u : ℕ) → is_unit u ≡ true → IsUnit u
unit_told u is =
    let ten : OneOfTen u = unit_is_power u is in
    let least : 2 ^ 12 ≤ 2 ^ (12 + ten.0) = pow_mono {i = 12} {j = 12 + ten.0} (omega arith) in
    let most : 2 ^ (12 + ten.0) ≤ 2 ^ 21 = pow_mono {i = 12 + ten.0} {j = 21} (omega (arith, ten.1)) in
    let e : u ≡ 2 ^ (12 + ten.0) = ten.2 in
    record { power = (12 + ten.0, e); least = omega arith; most = omega arith }

-- and such a power is a unit
pub unit_from : (u : ℕ) → IsUnit u → is_unit u ≡ true
unit_from u is = in_range is.power.0 u is.power.1 is.least is.most

-- what the tests of a range and of a number of bits say
record InRange (low high u bits : ℕ) : Type 0 where
  least : low ≤ u
  most : u ≤ high
  one : bits ≡ 1

-- the tests say so
in_range_told : (low high u bits : ℕ) → (leb low u && leb u high && eqb bits 1) ≡ true → InRange low high u bits
in_range_told low high u bits h = record { least = grind (arith, nat_tests); most = grind (arith, nat_tests); one = grind (arith, nat_tests) }

-- and hold there
in_range_from : (low high u bits : ℕ) → low ≤ u → u ≤ high → bits ≡ 1 → (leb low u && leb u high && eqb bits 1) ≡ true
in_range_from low high u bits least most one = grind (arith, nat_tests)

-- in the range they come down to the last one
only_bits : (low high u : ℕ) (bits : Bool) → low ≤ u → u ≤ high → (leb low u && leb u high && bits) ≡ bits
only_bits low high u bits least most = grind (arith, nat_tests)

-- a power of two has one bit
one_bit_of_power : (k : ℕ) → count_ones (2 ^ k) ≡ 1
unfolding ones
one_bit_of_power zero = refl
one_bit_of_power (suc k) =
    let double : 2 ^ suc k ≡ 2 ^ k * 2 = pow-suc 2 k in
    let low : 2 ^ suc k % 2 ≡ 0 = omega arith in
    let half : 2 ^ suc k / 2 ≡ 2 ^ k = omega arith in
    ones_step (2 ^ suc k) ∙ ap₂ (λ (a b : ℕ). a + count_ones b) low half ∙ zero-add _ ∙ one_bit_of_power k

-- the test of the code, a range and one bit, tells units
pub unit_test : (u : ℕ) → (leb least_unit u && leb u most_unit && eqb (count_ones u) 1) ≡ is_unit u
unit_test u = same_from_decides {P = IsUnit u} _ _ (told, from) (unit_told u, unit_from u)
  where
    told : (leb least_unit u && leb u most_unit && eqb (count_ones u) 1) ≡ true → IsUnit u
    told h =
        let tests = in_range_told least_unit most_unit u (count_ones u) h in
        record { power = one_bit u u (omega arith) tests.one; least = tests.least; most = tests.most }

    from : IsUnit u → (leb least_unit u && leb u most_unit && eqb (count_ones u) 1) ≡ true
    from is = in_range_from least_unit most_unit u (count_ones u) is.least is.most (ap (λ (n : ℕ). count_ones n) is.power.1 ∙ one_bit_of_power is.power.0)

-- in the range the bits alone tell
pub unit_within : (u : ℕ) → least_unit ≤ u → u ≤ most_unit → eqb (count_ones u) 1 ≡ is_unit u
unit_within u least most = sym (only_bits least_unit most_unit u (eqb (count_ones u) 1) least most) ∙ unit_test u
