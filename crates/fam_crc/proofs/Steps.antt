-- The register's steps are linear, and a byte that has zeros behind it comes down whole.
use Rattle.std.proofs.Common.{◌≡◌, ℕ, zero, suc, ◌+◌, ◌*◌, ◌/◌, ◌%◌, ◌^◌, ◌<◌, List, [], ◌∷◌, ◌++◌, fold, length, replicate, ◌⊎◌, inl, inr, refl, sym, ap, ◌∙◌, arith}
use Rattle.std.proofs.lemmas.List.Sums.{fold-append}
use Rattle.std.proofs.lemmas.Bool.{cases_lt}
use Rattle.std.proofs.lemmas.Nat.{pow_pos}
use Rattle.std.proofs.Math.Nat.{pow-suc, mul_assoc, mod-lt, div-add-mod', div-div-eq-div-mul}
use Rattle.std.specs.Int.{byte_at, bytes_low_first, to_le_bytes, w64}
use Rattle.std.specs.Int.Bits.{bit_xor, xor_self, xor_zero_l, xor_zero_r, xor_comm, xor_assoc, xor_shr, xor_mod, xor_shifted, xor_lt}
use Rattle.fam_crc.specs.Crc.{reflected_polynomial, all_ones, step, steps, after_byte, bytes_of_words, crc32}

-- a number is even or odd
pub parity : (n : ℕ) → (n % 2 ≡ 0) ⊎ (n % 2 ≡ 1)
parity n = elim (cases_lt (n % 2) 1) [ inl h ↦ inl (omega arith) | inr h ↦ inr (omega arith) ]

-- an even register only moves on
pub step_even : (r : ℕ) → r % 2 ≡ 0 → step r ≡ r / 2
step_even r h = rw h refl

-- from an odd one the polynomial is taken off
pub step_odd : (r : ℕ) → r % 2 ≡ 1 → step r ≡ bit_xor (r / 2) reflected_polynomial
step_odd r h = rw h refl

-- (a + p) + (b + p) is a + b
pub cancel : (a b p : ℕ) → bit_xor (bit_xor a p) (bit_xor b p) ≡ bit_xor a b
cancel a b p =
    xor_assoc a p (bit_xor b p)
    ∙ ap (bit_xor a) (ap (bit_xor p) (xor_comm b p) ∙ sym (xor_assoc p p b) ∙ ap (λ (z : ℕ). bit_xor z b) (xor_self p) ∙ xor_zero_l b)

-- (a + p) + b is (a + b) + p
swap_right : (a b p : ℕ) → bit_xor (bit_xor a p) b ≡ bit_xor (bit_xor a b) p
swap_right a b p = xor_assoc a p b ∙ ap (bit_xor a) (xor_comm p b) ∙ sym (xor_assoc a b p)

-- half of a sum is the sum of the halves
halves : (a b : ℕ) → bit_xor a b / 2 ≡ bit_xor (a / 2) (b / 2)
halves a b = xor_shr a b 1

-- the lowest bit of a sum
low_bits : (a b x y : ℕ) → a % 2 ≡ x → b % 2 ≡ y → bit_xor a b % 2 ≡ bit_xor x y
low_bits a b x y p q = xor_mod a b 1 ∙ ap (λ (z : ℕ). bit_xor z (b % 2)) p ∙ ap (bit_xor x) q

-- a step is linear
pub step_xor : (a b : ℕ) → step (bit_xor a b) ≡ bit_xor (step a) (step b)
step_xor a b =
    elim (parity a) [
      | inl p ↦ elim (parity b) [
        | inl q ↦ step_even _ (low_bits a b 0 0 p q) ∙ halves a b ∙ sym (ap (λ (z : ℕ). bit_xor z (step b)) (step_even a p) ∙ ap (bit_xor (a / 2)) (step_even b q))
        | inr q ↦ step_odd _ (low_bits a b 0 1 p q) ∙ ap (λ (z : ℕ). bit_xor z reflected_polynomial) (halves a b)
            ∙ xor_assoc (a / 2) (b / 2) reflected_polynomial
            ∙ sym (ap (λ (z : ℕ). bit_xor z (step b)) (step_even a p) ∙ ap (bit_xor (a / 2)) (step_odd b q))
      ]
      | inr p ↦ elim (parity b) [
        | inl q ↦ step_odd _ (low_bits a b 1 0 p q) ∙ ap (λ (z : ℕ). bit_xor z reflected_polynomial) (halves a b)
            ∙ sym (swap_right (a / 2) (b / 2) reflected_polynomial)
            ∙ sym (ap (λ (z : ℕ). bit_xor z (step b)) (step_odd a p) ∙ ap (bit_xor (bit_xor (a / 2) reflected_polynomial)) (step_even b q))
        | inr q ↦ step_even _ (low_bits a b 1 1 p q) ∙ halves a b ∙ sym (cancel (a / 2) (b / 2) reflected_polynomial)
            ∙ sym (ap (λ (z : ℕ). bit_xor z (step b)) (step_odd a p) ∙ ap (bit_xor (bit_xor (a / 2) reflected_polynomial)) (step_odd b q))
      ]
    ]

-- steps are linear
pub steps_xor : (n a b : ℕ) → steps n (bit_xor a b) ≡ bit_xor (steps n a) (steps n b)
unfolding steps
steps_xor zero a b = refl
steps_xor (suc n) a b = ap (steps n) (step_xor a b) ∙ steps_xor n (step a) (step b)

-- m steps and then n
pub steps-add : (m n x : ℕ) → steps (m + n) x ≡ steps n (steps m x)
unfolding steps
steps-add zero n x = let e : 0 + n ≡ n = omega arith in ap (λ (k : ℕ). steps k x) e
steps-add (suc m) n x = let e : suc m + n ≡ suc (m + n) = omega arith in ap (λ (k : ℕ). steps k x) e ∙ steps-add m n (step x)

-- a step takes back one power of two
step_double : (m : ℕ) → step (m * 2) ≡ m
step_double m =
    let even : m * 2 % 2 ≡ 0 = omega arith in
    let half : m * 2 / 2 ≡ m = omega arith in
    step_even _ even ∙ half

-- a number above n zeros comes down whole
pub steps_above : (n b : ℕ) → steps n (b * 2 ^ n) ≡ b
unfolding steps
steps_above zero b = let e : b * 2 ^ 0 ≡ b = omega arith in e
steps_above (suc n) b =
    let e : b * 2 ^ suc n ≡ b * 2 ^ n * 2 = ap (λ (p : ℕ). b * p) (pow-suc 2 n) ∙ sym (mul_assoc b (2 ^ n) 2) in
    ap (λ (x : ℕ). steps n (step x)) e ∙ ap (steps n) (step_double (b * 2 ^ n)) ∙ steps_above n b

-- a number is its high part over n bits, and its low bits
pub apart : (n x : ℕ) → bit_xor (x / 2 ^ n * 2 ^ n) (x % 2 ^ n) ≡ x
apart n x = xor_shifted (x / 2 ^ n) n (x % 2 ^ n) (mod-lt x (pow_pos n)) ∙ div-add-mod' x (2 ^ n)

-- the low bits and the others apart
pub steps_split : (n x : ℕ) → steps n x ≡ bit_xor (steps n (x % 2 ^ n)) (x / 2 ^ n)
steps_split n x =
    ap (steps n) (sym (apart n x)) ∙ steps_xor n (x / 2 ^ n * 2 ^ n) (x % 2 ^ n)
    ∙ ap (λ (h : ℕ). bit_xor h (steps n (x % 2 ^ n))) (steps_above n (x / 2 ^ n)) ∙ xor_comm (x / 2 ^ n) (steps n (x % 2 ^ n))

-- the lowest byte and the others apart
pub steps_byte : (n x : ℕ) → steps (8 + n) x ≡ bit_xor (steps (8 + n) (x % 256)) (steps n (x / 256))
steps_byte n x =
    steps-add 8 n x ∙ ap (steps n) (steps_split 8 x) ∙ steps_xor n (steps 8 (x % 256)) (x / 256)
    ∙ ap (λ (h : ℕ). bit_xor h (steps n (x / 256))) (sym (steps-add 8 n (x % 256)))

-- the lowest byte of w comes in first
byte_in : (n r w : ℕ) → steps (8 + n) (bit_xor r w) ≡ steps n (bit_xor (after_byte r (w % 256)) (w / 256))
byte_in n r w =
    steps-add 8 n (bit_xor r w)
    ∙ ap (steps n)
    (ap (λ (x : ℕ). steps 8 (bit_xor r x)) (sym (apart 8 w) ∙ xor_comm (w / 256 * 256) (w % 256))
    ∙ ap (steps 8) (sym (xor_assoc r (w % 256) (w / 256 * 256)))
    ∙ steps_xor 8 (bit_xor r (w % 256)) (w / 256 * 256)
    ∙ ap (bit_xor (after_byte r (w % 256))) (steps_above 8 (w / 256)))

-- the k lowest bytes of w, the lowest first
low_bytes : ℕ → ℕ → List ℕ
low_bytes zero w = []
low_bytes (suc k) w = w % 256 ∷ low_bytes k (w / 256)

-- std's byte at a place, by one division
byte_at_is : (i w : ℕ) → byte_at i w ≡ w / 256 ^ i % 256
byte_at_is zero w = let e : w / 256 ^ 0 ≡ w = omega arith in ap (λ (x : ℕ). x % 256) (sym e)
byte_at_is (suc i) w = refl

-- std's bytes from place i on are the lowest ones of what stands above
low_bytes_are : (k i w : ℕ) → bytes_low_first i k w ≡ low_bytes k (w / 256 ^ i)
unfolding low_bytes
low_bytes_are zero i w = refl
low_bytes_are (suc k) i w =
    let next : w / 256 ^ suc i ≡ w / 256 ^ i / 256 = ap (λ (p : ℕ). w / p) (pow-suc 256 i) ∙ sym (div-div-eq-div-mul w (256 ^ i) 256) in
    ap (λ (b : ℕ). b ∷ bytes_low_first (suc i) k w) (byte_at_is i w)
    ∙ ap (λ (l : List ℕ). (w / 256 ^ i % 256) ∷ l) (low_bytes_are k (suc i) w ∙ ap (low_bytes k) next)

-- k bytes at once: they may come in together
steps_bytes : (k r w : ℕ) → w < 256 ^ k → steps (8 * k) (bit_xor r w) ≡ fold after_byte r (low_bytes k w)
unfolding low_bytes steps
steps_bytes zero r w below = let none : w ≡ 0 = omega arith in ap (bit_xor r) none ∙ xor_zero_r r
steps_bytes (suc k) r w below =
    let e : 8 * suc k ≡ 8 + 8 * k = omega arith in
    let p : 256 ^ suc k ≡ 256 ^ k * 256 = pow-suc 256 k in
    let small : w / 256 < 256 ^ k = omega arith in
    ap (λ (n : ℕ). steps n (bit_xor r w)) e ∙ byte_in (8 * k) r w ∙ steps_bytes k (after_byte r (w % 256)) (w / 256) small

-- a word's eight bytes at once
pub steps_word : (r w : ℕ) → w < 2 ^ 64 → steps 64 (bit_xor r w) ≡ fold after_byte r (to_le_bytes w64 w)
steps_word r w below =
    let whole : w / 256 ^ 0 ≡ w = omega arith in
    steps_bytes 8 r w below ∙ ap (fold after_byte r) (sym (low_bytes_are 8 0 w ∙ ap (low_bytes 8) whole))

-- the register after a byte, by one look-up
pub byte_split : (r byte : ℕ) → byte < 256 → bit_xor (steps 8 (bit_xor r byte % 256)) (r / 256) ≡ after_byte r byte
byte_split r byte below =
    let none : byte / 256 ≡ 0 = omega arith in
    let high : bit_xor r byte / 256 ≡ r / 256 = xor_shr r byte 8 ∙ ap (bit_xor (r / 256)) none ∙ xor_zero_r (r / 256) in
    ap (bit_xor (steps 8 (bit_xor r byte % 256))) (sym high) ∙ sym (steps_split 8 (bit_xor r byte))

-- no bytes
pub crc_of_none : crc32 [] ≡ 0
unfolding crc32
crc_of_none = refl

-- a register that begins with the inverse of a checksum goes on from it
pub goes_on : (before bytes : List ℕ) (crc register : ℕ) → crc32 before ≡ crc → register ≡ fold after_byte (bit_xor crc all_ones) bytes → bit_xor register all_ones ≡ crc32 (before ++ bytes)
unfolding crc32
goes_on before bytes crc register e f =
    let back : bit_xor crc all_ones ≡ fold after_byte all_ones before =
    ap (λ (x : ℕ). bit_xor x all_ones) (sym e) ∙ xor_assoc (fold after_byte all_ones before) all_ones all_ones ∙ xor_zero_r (fold after_byte all_ones before) in
    ap (λ (x : ℕ). bit_xor x all_ones) (f ∙ ap (λ (x : ℕ). fold after_byte x bytes) back ∙ sym (fold-append after_byte all_ones before bytes))

-- one look-up of eight: the lowest byte of what stands above p
pub level : (n p x : ℕ) → steps (8 + n) (x / p) ≡ bit_xor (steps (8 + n) (x / p % 256)) (steps n (x / (p * 256)))
level n p x = steps_byte n (x / p) ∙ ap (λ (q : ℕ). bit_xor (steps (8 + n) (x / p % 256)) (steps n q)) (div-div-eq-div-mul x p 256)

-- the eight look-ups
pub word_split : (r w a b c d e f g h : ℕ) → r < 2 ^ 32 → w < 2 ^ 64 → let x : ℕ = bit_xor w r in
    a ≡ steps 64 (x % 256) → b ≡ steps 56 (x / 2 ^ 8 % 256) → c ≡ steps 48 (x / 2 ^ 16 % 256) → d ≡ steps 40 (x / 2 ^ 24 % 256)
    → e ≡ steps 32 (x / 2 ^ 32 % 256) → f ≡ steps 24 (x / 2 ^ 40 % 256) → g ≡ steps 16 (x / 2 ^ 48 % 256) → h ≡ steps 8 (x / 2 ^ 56) →
    bit_xor (bit_xor (bit_xor (bit_xor (bit_xor (bit_xor (bit_xor a b) c) d) e) f) g) h ≡ fold after_byte r (to_le_bytes w64 w)
word_split r w a b c d e f g h _ below pa pb pc pd pe pf pg ph =
    let x : ℕ = bit_xor w r in
    let sum : bit_xor (steps 64 (x % 256))
    (bit_xor (steps 56 (x / 2 ^ 8 % 256))
    (bit_xor (steps 48 (x / 2 ^ 16 % 256))
    (bit_xor (steps 40 (x / 2 ^ 24 % 256))
    (bit_xor (steps 32 (x / 2 ^ 32 % 256))
    (bit_xor (steps 24 (x / 2 ^ 40 % 256)) (bit_xor (steps 16 (x / 2 ^ 48 % 256)) (steps 8 (x / 2 ^ 56)))))))) ≡ steps 64 x =
    sym (steps_byte 56 x ∙ ap (bit_xor (steps 64 (x % 256)))
    (level 48 (2 ^ 8) x ∙ ap (bit_xor (steps 56 (x / 2 ^ 8 % 256)))
    (level 40 (2 ^ 16) x ∙ ap (bit_xor (steps 48 (x / 2 ^ 16 % 256)))
    (level 32 (2 ^ 24) x ∙ ap (bit_xor (steps 40 (x / 2 ^ 24 % 256)))
    (level 24 (2 ^ 32) x ∙ ap (bit_xor (steps 32 (x / 2 ^ 32 % 256)))
    (level 16 (2 ^ 40) x ∙ ap (bit_xor (steps 24 (x / 2 ^ 40 % 256)))
    (level 8 (2 ^ 48) x))))))) in
    rw (pa, pb, pc, pd, pe, pf, pg, ph) (simp xor_assoc (sum ∙ ap (steps 64) (xor_comm w r) ∙ steps_word r w below))

pub steps_zero : (n : ℕ) → steps n 0 ≡ 0
unfolding steps
steps_zero zero = refl
steps_zero (suc n) = steps_zero n

none_there : (n y : ℕ) → y ≡ 0 → 0 ≡ steps n y
none_there n y none = sym (ap (steps n) none ∙ steps_zero n)

-- the four look-ups of a word of which the higher half adds nothing
pub half_split : (r w a b c d : ℕ) → r < 2 ^ 32 → w < 2 ^ 64 → let x : ℕ = bit_xor w r in
    x < 2 ^ 32 → a ≡ steps 64 (x % 256) → b ≡ steps 56 (x / 2 ^ 8 % 256) → c ≡ steps 48 (x / 2 ^ 16 % 256) → d ≡ steps 40 (x / 2 ^ 24 % 256)
    → bit_xor (bit_xor (bit_xor a b) c) d ≡ fold after_byte r (to_le_bytes w64 w)
half_split r w a b c d fits below small pa pb pc pd =
    let x : ℕ = bit_xor w r in
    sym (xor_zero_r _ ∙ xor_zero_r _ ∙ xor_zero_r _ ∙ xor_zero_r _)
    ∙ word_split r w a b c d 0 0 0 0 fits below pa pb pc pd (none_there 32 (x / 2 ^ 32 % 256) (omega (arith, small)))
    (none_there 24 (x / 2 ^ 40 % 256) (omega (arith, small))) (none_there 16 (x / 2 ^ 48 % 256) (omega (arith, small)))
    (none_there 8 (x / 2 ^ 56) (omega (arith, small)))

-- the highest byte of a word and a register
pub top_fits : (w r : ℕ) → w < 2 ^ 64 → r < 2 ^ 32 → bit_xor w r / 2 ^ 56 < 256
top_fits w r a b = let both : bit_xor w r < 2 ^ 64 = xor_lt 64 w r a (omega arith) in omega arith

-- bytes of zero are steps alone
zero_bytes : (n r : ℕ) → fold after_byte r (replicate n 0) ≡ steps (8 * n) r
unfolding steps
zero_bytes zero r = refl
zero_bytes (suc n) r =
    let e : 8 + 8 * n ≡ 8 * suc n = omega arith in
    ap (λ (x : ℕ). fold after_byte (steps 8 x) (replicate n 0)) (xor_zero_r r) ∙ zero_bytes n (steps 8 r) ∙ sym (steps-add 8 (8 * n) r)
    ∙ ap (λ (k : ℕ). steps k r) e

-- the four look-ups of a register that has zeros behind it
pub zeros_split : (n r a b c d : ℕ) → a ≡ steps (8 + (8 + (8 + n))) (r % 256) → b ≡ steps (8 + (8 + n)) (r / 2 ^ 8 % 256)
    → c ≡ steps (8 + n) (r / 2 ^ 16 % 256) → d ≡ steps n (r / 2 ^ 24) → bit_xor (bit_xor (bit_xor a b) c) d ≡ steps (8 + (8 + (8 + n))) r
zeros_split n r a b c d pa pb pc pd =
    let sum : bit_xor (steps (8 + (8 + (8 + n))) (r % 256))
    (bit_xor (steps (8 + (8 + n)) (r / 2 ^ 8 % 256)) (bit_xor (steps (8 + n) (r / 2 ^ 16 % 256)) (steps n (r / 2 ^ 24))))
    ≡ steps (8 + (8 + (8 + n))) r =
    sym (steps_byte (8 + (8 + n)) r ∙ ap (bit_xor (steps (8 + (8 + (8 + n))) (r % 256)))
    (level (8 + n) (2 ^ 8) r ∙ ap (bit_xor (steps (8 + (8 + n)) (r / 2 ^ 8 % 256)))
    (level n (2 ^ 16) r))) in
    rw (pa, pb, pc, pd) (simp xor_assoc sum)

-- the checksum goes on behind bytes of zero
pub behind_bytes : (n r : ℕ) (words behind : List ℕ) → bytes_of_words words ≡ replicate n 0 ++ bytes_of_words behind
    → fold after_byte (steps (8 * n) r) (bytes_of_words behind) ≡ fold after_byte r (bytes_of_words words)
behind_bytes n r words behind zeros =
    sym (ap (fold after_byte r) zeros
    ∙ fold-append after_byte r (replicate n 0) (bytes_of_words behind) ∙ ap (λ (x : ℕ). fold after_byte x (bytes_of_words behind)) (zero_bytes n r))

-- behind sixteen words of zero
pub behind_sixteen : (r : ℕ) (words behind : List ℕ) → words ≡ 0 ∷ 0 ∷ 0 ∷ 0 ∷ 0 ∷ 0 ∷ 0 ∷ 0 ∷ 0 ∷ 0 ∷ 0 ∷ 0 ∷ 0 ∷ 0 ∷ 0 ∷ 0 ∷ behind
    → fold after_byte (steps 1024 r) (bytes_of_words behind) ≡ fold after_byte r (bytes_of_words words)
behind_sixteen r words behind e = behind_bytes 128 r words behind (ap bytes_of_words e)

-- behind three
pub behind_three : (r : ℕ) (words behind : List ℕ) → words ≡ 0 ∷ 0 ∷ 0 ∷ behind → fold after_byte (steps 192 r) (bytes_of_words behind) ≡ fold after_byte r (bytes_of_words words)
behind_three r words behind e = behind_bytes 24 r words behind (ap bytes_of_words e)

-- no words are left
pub of_none : (r : ℕ) (words : List ℕ) → length words < 1 → fold after_byte r (bytes_of_words words) ≡ r
of_none r [] none = refl
of_none r (word ∷ words) none = absurd (omega arith)
