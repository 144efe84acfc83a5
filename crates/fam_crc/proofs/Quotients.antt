-- A multiple of the generator below 2 ^ 32 is 0, so a remainder is the only one.
use Rattle.std.proofs.Common.{◌≡◌, ℕ, zero, suc, ◌*◌, ◌/◌, ◌%◌, ◌^◌, ◌<◌, ◌≤◌, Bool, true, false, List, [], ◌∷◌, get_or, ◌⊎◌, inl, inr, refl, sym, ap, subst, ◌∙◌, arith}
use Rattle.std.proofs.Math.Nat.{pow-suc}
use Rattle.std.proofs.lemmas.Nat.{pow_pos}
use Rattle.std.specs.Int.Bits.{bit_xor, xor_zero_l, xor_zero_r, xor_comm, xor_assoc, xor_shr, xor_lt}
use Rattle.fam_crc.specs.Crc.{all_ones, crc32}
use Rattle.fam_crc.specs.Polynomial.{generator, IsMultiple, itself, times_x, sum, reversed, dividend, remainder_of, IsRemainder}
use Rattle.fam_crc.proofs.Steps.{parity, cancel}
use Rattle.fam_crc.proofs.Division.{reversed_fits, reversed_xor, twice, joined, xor_times, crc_is_remainder}

-- the generator where the coefficient is 1
unfoldable part : Bool → ℕ
part true = generator
part false = 0

-- the product of a quotient and the generator; the quotient by its coefficients, that of x ^ 0 first
unfoldable product : List Bool → ℕ
product [] = 0
product (b ∷ q) = bit_xor (product q * 2) (part b)

-- the sum of two coefficients
unfoldable plus : Bool → Bool → Bool
plus true true = false
plus true false = true
plus false b = b

-- the sum of two quotients
unfoldable together : List Bool → List Bool → List Bool
together [] q = q
together (a ∷ p) [] = a ∷ p
together (a ∷ p) (b ∷ q) = plus a b ∷ together p q

-- the generator where a sum of coefficients is 1
part_plus : (a b : Bool) → part (plus a b) ≡ bit_xor (part a) (part b)
unfolding part plus
part_plus true true = refl
part_plus true false = refl
part_plus false true = refl
part_plus false false = refl

-- (a + b) + (c + d) in another order
regrouped : (a b c d : ℕ) → bit_xor (bit_xor a b) (bit_xor c d) ≡ bit_xor (bit_xor a c) (bit_xor b d)
regrouped a b c d =
    xor_assoc a b (bit_xor c d)
    ∙ ap (bit_xor a) (sym (xor_assoc b c d) ∙ ap (λ (x : ℕ). bit_xor x d) (xor_comm b c) ∙ xor_assoc c b d)
    ∙ sym (xor_assoc a c (bit_xor b d))

-- a product with a sum is the sum of the products
product_together : (p q : List Bool) → product (together p q) ≡ bit_xor (product p) (product q)
unfolding product together
product_together [] q = sym (xor_zero_l (product q))
product_together (a ∷ p) [] = sym (xor_zero_r (bit_xor (product p * 2) (part a)))
product_together (a ∷ p) (b ∷ q) =
    ap (λ (x : ℕ). bit_xor (x * 2) (part (plus a b))) (product_together p q)
    ∙ ap (bit_xor (bit_xor (product p) (product q) * 2)) (part_plus a b)
    ∙ ap (λ (x : ℕ). bit_xor x (bit_xor (part a) (part b))) (xor_times 1 (product p) (product q))
    ∙ regrouped (product p * 2) (product q * 2) (part a) (part b)

-- a multiple has a quotient
record HasQuotient (a : ℕ) : Type 0 where
  quotient : List Bool
  whole : product quotient ≡ a

-- each way to make a multiple gives its quotient
quotient_of : (a : ℕ) → IsMultiple a → HasQuotient a
unfolding product part together
quotient_of a itself = record { quotient = true ∷ []; whole = refl }
quotient_of a (times_x b m) =
    let h : HasQuotient b = quotient_of b m in
    record {
      quotient = false ∷ h.quotient;
      whole = xor_zero_r (product h.quotient * 2) ∙ ap (λ (x : ℕ). x * 2) h.whole;
    }
quotient_of a (sum b c m n) =
    let h : HasQuotient b = quotient_of b m in
    let k : HasQuotient c = quotient_of c n in
    record {
      quotient = together h.quotient k.quotient;
      whole = product_together h.quotient k.quotient ∙ ap (λ (x : ℕ). bit_xor x (product k.quotient)) h.whole ∙ ap (bit_xor b) k.whole;
    }

-- the generator has 33 bits
part_fits : (b : Bool) → part b < 2 ^ 33
unfolding part
part_fits true = omega arith
part_fits false = omega arith

-- the generator or 0
part_large : (b : Bool) → (part b ≡ 0) ⊎ (2 ^ 32 ≤ part b)
unfolding part
part_large true = inr (omega arith)
part_large false = inl refl

-- a number of at least 33 bits stays so, moved up and with 33 bits changed
stays_large : (a b : ℕ) → 2 ^ 32 ≤ a → b < 2 ^ 33 → 2 ^ 32 ≤ bit_xor (a * 2) b
stays_large a b h i =
    let none : b / 2 ^ 33 ≡ 0 = omega arith in
    let high : bit_xor (a * 2) b / 2 ^ 33 ≡ a * 2 / 2 ^ 33 = xor_shr (a * 2) b 33 ∙ ap (bit_xor (a * 2 / 2 ^ 33)) none ∙ xor_zero_r (a * 2 / 2 ^ 33) in
    omega arith

-- a product is 0 or has a power from 32 on
product_large : (q : List Bool) → (product q ≡ 0) ⊎ (2 ^ 32 ≤ product q)
unfolding product
product_large [] = inl refl
product_large (b ∷ q) =
    elim (product_large q) [
      | inl none ↦
          let e : bit_xor (product q * 2) (part b) ≡ part b = ap (λ (x : ℕ). bit_xor (x * 2) (part b)) none ∙ xor_zero_l (part b) in
          elim (part_large b) [ inl z ↦ inl (e ∙ z) | inr l ↦ inr (omega (arith, e, l)) ]
      | inr large ↦ inr (stays_large (product q) (part b) large (part_fits b))
    ]

-- no multiple but 0 has only powers below 32
pub small_multiple : (a : ℕ) → IsMultiple a → a < 2 ^ 32 → a ≡ 0
small_multiple a m h =
    let k : HasQuotient a = quotient_of a m in
    elim (product_large k.quotient) [
      | inl z ↦ sym k.whole ∙ z
      | inr l ↦ absurd (omega (arith, k.whole, l, h))
    ]

-- only 0 is 0 in the other order
reversed_zero : (n a : ℕ) → a < 2 ^ n → reversed n a ≡ 0 → a ≡ 0
unfolding reversed
reversed_zero zero a h e = omega arith
reversed_zero (suc n) a h e =
    let p : 2 ^ suc n ≡ 2 ^ n * 2 = pow-suc 2 n in
    let half : a / 2 < 2 ^ n = omega arith in
    let rest : reversed n (a / 2) ≡ 0 = omega arith in
    let none : a / 2 ≡ 0 = reversed_zero n (a / 2) half rest in
    elim (parity a) [
      | inl even ↦ omega arith
      | inr odd ↦
          let top : a % 2 * 2 ^ n ≡ 2 ^ n = ap (λ (x : ℕ). x * 2 ^ n) odd ∙ omega arith in
          absurd (omega (arith, e, top, pow_pos n))
    ]

-- two numbers whose sum is 0 are equal
same_of_sum : (a b : ℕ) → bit_xor a b ≡ 0 → a ≡ b
same_of_sum a b e =
    sym (xor_zero_r a) ∙ ap (bit_xor a) (sym e) ∙ twice a b

-- the sum of two checksums stands for the sum of their remainders
remainders_xor : (a b : ℕ) → bit_xor (remainder_of a) (remainder_of b) ≡ reversed 32 (bit_xor a b)
remainders_xor a b =
    sym (reversed_xor 32 (bit_xor a all_ones) (bit_xor b all_ones)) ∙ ap (reversed 32) (cancel a b all_ones)

-- two remainders of one dividend are equal
one_remainder : (d a b : ℕ) → a < 2 ^ 32 → b < 2 ^ 32 → IsMultiple (bit_xor d (remainder_of a)) → IsMultiple (bit_xor d (remainder_of b)) → a ≡ b
one_remainder d a b h i m n =
    let order : bit_xor (bit_xor d (remainder_of a)) (bit_xor d (remainder_of b)) ≡ reversed 32 (bit_xor a b) =
    ap (λ (x : ℕ). bit_xor x (bit_xor d (remainder_of b))) (xor_comm d (remainder_of a)) ∙ joined (remainder_of a) d (remainder_of b) ∙ remainders_xor a b in
    let both : IsMultiple (reversed 32 (bit_xor a b)) = subst (λ (x : ℕ). IsMultiple x) order (sum _ _ m n) in
    same_of_sum a b (reversed_zero 32 (bit_xor a b) (xor_lt 32 a b h i) (small_multiple _ both (reversed_fits 32 (bit_xor a b))))

-- a checksum is the only one
pub only_remainder : (bytes : List ℕ) → ((i : ℕ) → get_or bytes i 0 < 256) → (crc : ℕ) → IsRemainder bytes crc → crc ≡ crc32 bytes
only_remainder bytes h crc r =
    let it : IsRemainder bytes (crc32 bytes) = crc_is_remainder bytes h in
    one_remainder (dividend bytes) crc (crc32 bytes) r.small it.small r.multiple it.multiple
