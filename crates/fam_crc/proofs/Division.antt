-- The register is the remainder so far.
use Rattle.std.proofs.Common.{◌≡◌, ℕ, zero, suc, ◌+◌, ◌*◌, ◌/◌, ◌%◌, ◌^◌, ◌<◌, ◌≤◌, List, [], ◌∷◌, fold, length, get_or, inl, inr, refl, sym, ap, subst, ◌∙◌, arith}
use Rattle.std.proofs.Math.Nat.{pow-suc, mul_assoc, mul_comm, pow-le-pow_right}
use Rattle.std.proofs.lemmas.Nat.{pow_pos, pow-add}
use Rattle.std.specs.Int.Bits.{bit_xor, xor_self, xor_zero_l, xor_zero_r, xor_comm, xor_assoc, xor_block, xor_shr, xor_mod, xor_lt, xor_shifted}
use Rattle.fam_crc.specs.Crc.{reflected_polynomial, all_ones, step, steps, after_byte, crc32}
use Rattle.fam_crc.specs.Polynomial.{generator, IsMultiple, itself, times_x, sum, reversed, message, IsRemainder}
use Rattle.fam_crc.proofs.Steps.{parity, step_even, step_odd}

-- n bits in the other order are n bits
pub reversed_fits : (n b : ℕ) → reversed n b < 2 ^ n
unfolding reversed
reversed_fits zero b = omega arith
reversed_fits (suc n) b =
    let p : 2 ^ suc n ≡ 2 ^ n * 2 = pow-suc 2 n in
    elim (parity b) [
      | inl e ↦ let h : b % 2 * 2 ^ n ≡ 0 = ap (λ (x : ℕ). x * 2 ^ n) e ∙ omega arith in omega (arith, h, reversed_fits n (b / 2), p)
      | inr e ↦ let h : b % 2 * 2 ^ n ≡ 2 ^ n = ap (λ (x : ℕ). x * 2 ^ n) e ∙ omega arith in omega (arith, h, reversed_fits n (b / 2), p)
    ]

-- sums go through
pub reversed_xor : (n a b : ℕ) → reversed n (bit_xor a b) ≡ bit_xor (reversed n a) (reversed n b)
unfolding reversed
reversed_xor zero a b = sym (xor_zero_l 0)
reversed_xor (suc n) a b =
    ap (λ (x : ℕ). x * 2 ^ n + reversed n (bit_xor a b / 2)) (xor_mod a b 1)
    ∙ ap (λ (x : ℕ). bit_xor (a % 2) (b % 2) * 2 ^ n + x) (ap (reversed n) (xor_shr a b 1) ∙ reversed_xor n (a / 2) (b / 2))
    ∙ sym (xor_block n (a % 2) (b % 2) (reversed n (a / 2)) (reversed n (b / 2)) (reversed_fits n (a / 2)) (reversed_fits n (b / 2)))

-- a number with room above is moved up by one
reversed_up : (n b : ℕ) → b < 2 ^ n → reversed (suc n) b ≡ reversed n b * 2
unfolding reversed
reversed_up zero b h = let none : b ≡ 0 = omega arith in ap (λ (x : ℕ). x % 2 * 2 ^ 0 + 0) none
reversed_up (suc n) b h =
    let p : 2 ^ suc n ≡ 2 ^ n * 2 = pow-suc 2 n in
    let half : b / 2 < 2 ^ n = omega arith in
    let q : b % 2 * 2 ^ suc n ≡ b % 2 * 2 ^ n * 2 = ap (λ (x : ℕ). b % 2 * x) p ∙ sym (mul_assoc (b % 2) (2 ^ n) 2) in
    omega (arith, q, reversed_up n (b / 2) half)

-- powers of two in order
two_powers : (i j : ℕ) → i ≤ j → 2 ^ i ≤ 2 ^ j
two_powers i j h = pow-le-pow_right {n = 2} (omega arith) {i = i} {j = j} h

-- k zeros above
reversed_high : (k n b : ℕ) → b < 2 ^ n → reversed (k + n) b ≡ reversed n b * 2 ^ k
reversed_high zero n b h = let e : 0 + n ≡ n = omega arith in ap (λ (x : ℕ). reversed x b) e ∙ omega arith
reversed_high (suc k) n b h =
    let e : suc k + n ≡ suc (k + n) = omega arith in
    let wide : b < 2 ^ (k + n) = omega (arith, two_powers n (k + n) (omega arith)) in
    ap (λ (x : ℕ). reversed x b) e ∙ reversed_up (k + n) b wide ∙ ap (λ (x : ℕ). x * 2) (reversed_high k n b h)
    ∙ mul_assoc (reversed n b) (2 ^ k) 2 ∙ ap (λ (x : ℕ). reversed n b * x) (sym (pow-suc 2 k))

-- half of n + 1 bits has n
half_fits : (n r : ℕ) → r < 2 ^ suc n → r / 2 < 2 ^ n
half_fits n r h = let p : 2 ^ suc n ≡ 2 ^ n * 2 = pow-suc 2 n in omega arith

-- times x, where no power reaches n + 1
even_moves : (n r : ℕ) → r < 2 ^ suc n → r % 2 ≡ 0 → reversed (suc n) r * 2 ≡ reversed (suc n) (r / 2)
unfolding reversed
even_moves n r h e =
    let z : r % 2 * 2 ^ n ≡ 0 = ap (λ (x : ℕ). x * 2 ^ n) e ∙ omega arith in
    omega (arith, z, reversed_up n (r / 2) (half_fits n r h))

-- times x, where the highest power reaches n + 1
odd_moves : (n r : ℕ) → r < 2 ^ suc n → r % 2 ≡ 1 → reversed (suc n) r * 2 ≡ 1 * 2 ^ suc n + reversed (suc n) (r / 2)
unfolding reversed
odd_moves n r h e =
    let z : r % 2 * 2 ^ n ≡ 2 ^ n = ap (λ (x : ℕ). x * 2 ^ n) e ∙ omega arith in
    let p : 2 ^ suc n ≡ 2 ^ n * 2 = pow-suc 2 n in
    omega (arith, z, p, reversed_up n (r / 2) (half_fits n r h))

-- 0 is a multiple
nothing : IsMultiple 0
nothing = subst (λ (x : ℕ). IsMultiple x) (xor_self generator) (sum generator generator itself itself)

-- the register's polynomial in the reflected generator
reflected : reversed 32 reflected_polynomial ≡ 0x04c11db7
unfolding reversed
reflected = refl

-- all ones in the other order
ones_reversed : reversed 32 all_ones ≡ all_ones
unfolding reversed
ones_reversed = refl

-- a + (a + c) is c
pub twice : (a c : ℕ) → bit_xor a (bit_xor a c) ≡ c
twice a c = sym (xor_assoc a a c) ∙ ap (λ (x : ℕ). bit_xor x c) (xor_self a) ∙ xor_zero_l c

-- the power 32 taken off by the generator
top_off : (a c : ℕ) → a < 2 ^ 32 → c < 2 ^ 32 → bit_xor (1 * 2 ^ 32 + a) (bit_xor a c) ≡ 2 ^ 32 + c
top_off a c h i =
    let low : 0 * 2 ^ 32 + bit_xor a c ≡ bit_xor a c = omega arith in
    ap (bit_xor (1 * 2 ^ 32 + a)) (sym low) ∙ xor_block 32 1 0 a (bit_xor a c) h (xor_lt 32 a c h i) ∙ ap (λ (x : ℕ). 2 ^ 32 + x) (twice a c)

-- one step is a multiplication by x, less the generator where it can be taken off
step_divides : (r : ℕ) → r < 2 ^ 32 → IsMultiple (bit_xor (reversed 32 r * 2) (reversed 32 (step r)))
step_divides r h =
    elim (parity r) [
      | inl e ↦ subst (λ (x : ℕ). IsMultiple x)
          (sym (ap (bit_xor (reversed 32 r * 2)) (ap (reversed 32) (step_even r e)) ∙ ap (λ (x : ℕ). bit_xor x (reversed 32 (r / 2)))
          (even_moves 31 r h e) ∙ xor_self (reversed 32 (r / 2)))) nothing
      | inr e ↦ subst (λ (x : ℕ). IsMultiple x)
          (sym (ap (bit_xor (reversed 32 r * 2)) (ap (reversed 32) (step_odd r e) ∙ reversed_xor 32 (r / 2) reflected_polynomial ∙ ap (bit_xor (reversed 32 (r / 2))) reflected)
          ∙ ap (λ (x : ℕ). bit_xor x (bit_xor (reversed 32 (r / 2)) 0x04c11db7)) (odd_moves 31 r h e)
          ∙ top_off (reversed 32 (r / 2)) 0x04c11db7 (reversed_fits 32 (r / 2)) (omega arith))) itself
    ]

-- a step keeps 32 bits
step_fits : (r : ℕ) → r < 2 ^ 32 → step r < 2 ^ 32
step_fits r h =
    elim (parity r) [
      | inl e ↦ subst (λ (x : ℕ). x < 2 ^ 32) (sym (step_even r e)) (omega arith)
      | inr e ↦ subst (λ (x : ℕ). x < 2 ^ 32) (sym (step_odd r e)) (xor_lt 32 (r / 2) reflected_polynomial (omega arith) (omega arith))
    ]

-- a sum times a power
pub xor_times : (k a b : ℕ) → bit_xor a b * 2 ^ k ≡ bit_xor (a * 2 ^ k) (b * 2 ^ k)
xor_times k a b =
    let p : a * 2 ^ k + 0 ≡ a * 2 ^ k = omega arith in
    let q : b * 2 ^ k + 0 ≡ b * 2 ^ k = omega arith in
    let e : bit_xor (a * 2 ^ k + 0) (b * 2 ^ k + 0) ≡ bit_xor a b * 2 ^ k + 0 = xor_block k a b 0 0 (pow_pos k) (pow_pos k) in
    omega (arith, sym (ap (λ (x : ℕ). bit_xor x (b * 2 ^ k + 0)) p ∙ ap (bit_xor (a * 2 ^ k)) q) ∙ e)

-- a multiple times a power
times_power : (k a : ℕ) → IsMultiple a → IsMultiple (a * 2 ^ k)
times_power zero a m = let e : a ≡ a * 2 ^ 0 = omega arith in subst (λ (x : ℕ). IsMultiple x) e m
times_power (suc k) a m =
    subst (λ (x : ℕ). IsMultiple x) (mul_assoc a (2 ^ k) 2 ∙ ap (λ (x : ℕ). a * x) (sym (pow-suc 2 k))) (times_x (a * 2 ^ k) (times_power k a m))

-- (a + b) + (b + c) is a + c
pub joined : (a b c : ℕ) → bit_xor (bit_xor a b) (bit_xor b c) ≡ bit_xor a c
joined a b c = xor_assoc a b (bit_xor b c) ∙ ap (bit_xor a) (twice b c)

-- n steps are a multiplication by x ^ n, less a multiple
steps_divide : (n r : ℕ) → r < 2 ^ 32 → IsMultiple (bit_xor (reversed 32 r * 2 ^ n) (reversed 32 (steps n r)))
unfolding steps
steps_divide zero r h =
    let e : reversed 32 r * 2 ^ 0 ≡ reversed 32 r = omega arith in
    subst (λ (x : ℕ). IsMultiple x) (sym (ap (λ (x : ℕ). bit_xor x (reversed 32 r)) e ∙ xor_self (reversed 32 r))) nothing
steps_divide (suc n) r h =
    let first : IsMultiple (bit_xor (reversed 32 r * 2) (reversed 32 (step r)) * 2 ^ n) = times_power n _ (step_divides r h) in
    let power : reversed 32 r * 2 * 2 ^ n ≡ reversed 32 r * 2 ^ suc n = mul_assoc (reversed 32 r) 2 (2 ^ n) ∙ ap (λ (x : ℕ). reversed 32 r * x) (mul_comm 2 (2 ^ n) ∙ sym (pow-suc 2 n)) in
    let both = sum _ _ first (steps_divide n (step r) (step_fits r h)) in
    subst (λ (x : ℕ). IsMultiple x)
    (ap (λ (x : ℕ). bit_xor x (bit_xor (reversed 32 (step r) * 2 ^ n) (reversed 32 (steps n (step r))))) (xor_times n (reversed 32 r * 2) (reversed 32 (step r)))
    ∙ joined (reversed 32 r * 2 * 2 ^ n) (reversed 32 (step r) * 2 ^ n) (reversed 32 (steps n (step r)))
    ∙ ap (λ (x : ℕ). bit_xor x (reversed 32 (steps n (step r)))) power)
    both

-- steps keep 32 bits
steps_fit : (n r : ℕ) → r < 2 ^ 32 → steps n r < 2 ^ 32
unfolding steps
steps_fit zero r h = h
steps_fit (suc n) r h = steps_fit n (step r) (step_fits r h)

-- the register r is the remainder after n bits of the message m
record IsSoFar (m n r : ℕ) : Type 0 where
  fits : r < 2 ^ 32
  multiple : IsMultiple (bit_xor (bit_xor (m * 2 ^ 32) (all_ones * 2 ^ n)) (reversed 32 r))

-- (a + c) + (b + c) without c, and another order
regroup : (a b e : ℕ) → bit_xor (bit_xor a b) e ≡ bit_xor (bit_xor a e) b
regroup a b e = xor_assoc a b e ∙ ap (bit_xor a) (xor_comm b e) ∙ sym (xor_assoc a e b)

-- the message with a byte more
message_more : (m n b : ℕ) → b < 2 ^ 8 → bit_xor ((m * 2 ^ 8 + b) * 2 ^ 32) (all_ones * 2 ^ (n + 8)) ≡ bit_xor (bit_xor (m * 2 ^ 32) (all_ones * 2 ^ n) * 2 ^ 8) (b * 2 ^ 32)
message_more m n b h =
    let more : m * 2 ^ 8 + b ≡ bit_xor (m * 2 ^ 8) b = sym (xor_shifted m 8 b h) in
    let power : m * 2 ^ 8 * 2 ^ 32 ≡ m * 2 ^ 32 * 2 ^ 8 = omega arith in
    let ones : all_ones * 2 ^ (n + 8) ≡ all_ones * 2 ^ n * 2 ^ 8 = ap (λ (x : ℕ). all_ones * x) (pow-add 2 n 8) ∙ sym (mul_assoc all_ones (2 ^ n) (2 ^ 8)) in
    ap (λ (x : ℕ). bit_xor (x * 2 ^ 32) (all_ones * 2 ^ (n + 8))) more
    ∙ ap (λ (x : ℕ). bit_xor x (all_ones * 2 ^ (n + 8))) (xor_times 32 (m * 2 ^ 8) b ∙ ap (λ (x : ℕ). bit_xor x (b * 2 ^ 32)) power)
    ∙ ap (bit_xor (bit_xor (m * 2 ^ 32 * 2 ^ 8) (b * 2 ^ 32))) ones
    ∙ regroup (m * 2 ^ 32 * 2 ^ 8) (b * 2 ^ 32) (all_ones * 2 ^ n * 2 ^ 8)
    ∙ ap (λ (x : ℕ). bit_xor x (b * 2 ^ 32)) (sym (xor_times 8 (m * 2 ^ 32) (all_ones * 2 ^ n)))

-- a byte comes in at the top
byte_up : (r byte : ℕ) → byte < 256 → reversed 32 (bit_xor r byte) * 2 ^ 8 ≡ bit_xor (reversed 32 r * 2 ^ 8) (reversed 8 byte * 2 ^ 32)
byte_up r byte h =
    let power : reversed 8 byte * 2 ^ 24 * 2 ^ 8 ≡ reversed 8 byte * 2 ^ 32 = omega arith in
    ap (λ (x : ℕ). x * 2 ^ 8) (reversed_xor 32 r byte ∙ ap (bit_xor (reversed 32 r)) (reversed_high 24 8 byte h))
    ∙ xor_times 8 (reversed 32 r) (reversed 8 byte * 2 ^ 24) ∙ ap (bit_xor (reversed 32 r * 2 ^ 8)) power

-- a byte more of the message
one_byte : (m n r byte : ℕ) → byte < 256 → IsSoFar m n r → IsSoFar (m * 2 ^ 8 + reversed 8 byte) (n + 8) (after_byte r byte)
one_byte m n r byte h so =
    let x : ℕ = bit_xor r byte in
    let small : x < 2 ^ 32 = xor_lt 32 r byte so.fits (omega arith) in
    let d : ℕ = bit_xor (m * 2 ^ 32) (all_ones * 2 ^ n) in
    let old : IsMultiple (bit_xor (d * 2 ^ 8) (reversed 32 r * 2 ^ 8)) = subst (λ (z : ℕ). IsMultiple z) (xor_times 8 d (reversed 32 r)) (times_power 8 _ so.multiple) in
    let new : IsMultiple (bit_xor (bit_xor (reversed 32 r * 2 ^ 8) (reversed 8 byte * 2 ^ 32)) (reversed 32 (steps 8 x))) =
    subst (λ (z : ℕ). IsMultiple (bit_xor z (reversed 32 (steps 8 x)))) (byte_up r byte h) (steps_divide 8 x small) in
    let both = sum _ _ old new in
    record {
      fits = steps_fit 8 x small;
      multiple = subst (λ (z : ℕ). IsMultiple z)
          (ap (bit_xor (bit_xor (d * 2 ^ 8) (reversed 32 r * 2 ^ 8))) (xor_assoc (reversed 32 r * 2 ^ 8) (reversed 8 byte * 2 ^ 32) (reversed 32 (steps 8 x)))
          ∙ joined (d * 2 ^ 8) (reversed 32 r * 2 ^ 8) (bit_xor (reversed 8 byte * 2 ^ 32) (reversed 32 (steps 8 x)))
          ∙ sym (xor_assoc (d * 2 ^ 8) (reversed 8 byte * 2 ^ 32) (reversed 32 (steps 8 x)))
          ∙ ap (λ (z : ℕ). bit_xor z (reversed 32 (steps 8 x))) (sym (message_more m n (reversed 8 byte) (reversed_fits 8 byte))))
          both;
    }

-- the bytes one after another
all_bytes : (bytes : List ℕ) (m n r : ℕ) → ((i : ℕ) → get_or bytes i 0 < 256) → IsSoFar m n r →
    IsSoFar (fold (λ a byte. a * 2 ^ 8 + reversed 8 byte) m bytes) (n + 8 * length bytes) (fold after_byte r bytes)
all_bytes [] m n r h so = let e : n ≡ n + 8 * 0 = omega arith in subst (λ (k : ℕ). IsSoFar m k r) e so
all_bytes (b ∷ bytes) m n r h so =
    let e : n + 8 + 8 * length bytes ≡ n + 8 * suc (length bytes) = omega arith in
    subst (λ (k : ℕ). IsSoFar (fold (λ a byte. a * 2 ^ 8 + reversed 8 byte) (m * 2 ^ 8 + reversed 8 b) bytes) k (fold after_byte (after_byte r b) bytes)) e
    (all_bytes bytes (m * 2 ^ 8 + reversed 8 b) (n + 8) (after_byte r b) (λ i. h (suc i)) (one_byte m n r b (h 0) so))

-- the register at first: the remainder of the inverted bits alone
start : IsSoFar 0 0 all_ones
start = record {
  fits = omega arith;
  multiple = subst (λ (x : ℕ). IsMultiple (bit_xor all_ones x)) (sym ones_reversed) nothing;
}

-- a checksum has 32 bits
pub crc_fits : (bytes : List ℕ) → ((i : ℕ) → get_or bytes i 0 < 256) → crc32 bytes < 2 ^ 32
unfolding crc32
crc_fits bytes h =
    let so = all_bytes bytes 0 0 all_ones h start in
    xor_lt 32 (fold after_byte all_ones bytes) all_ones so.fits (omega arith)

-- a checksum is the remainder
pub crc_is_remainder : (bytes : List ℕ) → ((i : ℕ) → get_or bytes i 0 < 256) → IsRemainder bytes (crc32 bytes)
unfolding crc32
crc_is_remainder bytes h =
    let so = all_bytes bytes 0 0 all_ones h start in
    let back : bit_xor (crc32 bytes) all_ones ≡ fold after_byte all_ones bytes =
    xor_assoc (fold after_byte all_ones bytes) all_ones all_ones ∙ xor_zero_r (fold after_byte all_ones bytes) in
    let none : 0 + 8 * length bytes ≡ 8 * length bytes = omega arith in
    record {
      small = crc_fits bytes h;
      multiple = subst (λ (k : ℕ). IsMultiple (bit_xor (bit_xor (message bytes * 2 ^ 32) (all_ones * 2 ^ k)) (reversed 32 (bit_xor (crc32 bytes) all_ones)))) none
          (subst (λ (r : ℕ). IsMultiple (bit_xor (bit_xor (message bytes * 2 ^ 32) (all_ones * 2 ^ (0 + 8 * length bytes))) (reversed 32 r))) (sym back) so.multiple);
    }
