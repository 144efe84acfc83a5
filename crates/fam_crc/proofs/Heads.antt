-- The register after a head: the steps of its zeros come together with those of the words before them.
use Rattle.std.proofs.Common.{◌≡◌, ℕ, ◌+◌, ◌/◌, ◌%◌, ◌^◌, ◌<◌, List, ◌∷◌, ◌++◌, fold, replicate, refl, sym, ap, ◌∙◌, arith}
use Rattle.std.proofs.lemmas.List.Sums.{fold-append}
use Rattle.std.specs.Int.{to_le_bytes, w64}
use Rattle.std.specs.Int.Bits.{bit_xor, xor_zero_r, xor_assoc}
use Rattle.fam_crc.specs.Crc.{all_ones, steps, after_byte, bytes_of_words}
use Rattle.fam_crc.specs.Heads.{AreSmall, head_steps}
use Rattle.fam_crc.proofs.Steps.{steps_xor, steps-add, steps_byte, steps_word, behind_bytes, level}

-- a word comes in, and its steps are done
word_in : (r w : ℕ) (more : List ℕ) → w < 2 ^ 64 → fold after_byte r (bytes_of_words (w ∷ more)) ≡ fold after_byte (steps 64 (bit_xor r w)) (bytes_of_words more)
word_in r w more below =
    fold-append after_byte r (to_le_bytes w64 w) (bytes_of_words more)
    ∙ ap (λ (x : ℕ). fold after_byte x (bytes_of_words more)) (sym (steps_word r w below))

-- and those of a word of zero behind it
zero_in : (n r : ℕ) (more : List ℕ) → fold after_byte (steps n r) (bytes_of_words (0 ∷ more)) ≡ fold after_byte (steps (n + 64) r) (bytes_of_words more)
zero_in n r more =
    word_in (steps n r) 0 more (omega arith)
    ∙ ap (λ (x : ℕ). fold after_byte x (bytes_of_words more)) (ap (steps 64) (xor_zero_r (steps n r)) ∙ sym (steps-add n 64 r))

-- it is the register behind the head's words
pub behind_head : (a b c d e f : ℕ) (words more behind : List ℕ) → AreSmall a b c d e f → words ≡ a ∷ b ∷ 0 ∷ c ∷ d ∷ e ∷ f ∷ more
    → more ≡ replicate 35 0 ++ behind → fold after_byte (head_steps a b c d e f) (bytes_of_words behind) ≡ fold after_byte all_ones
    (bytes_of_words words)
unfolding head_steps
behind_head a b c d e f words more behind small is zeros =
    let r1 : ℕ = steps 64 (bit_xor all_ones a) in
    let r2 : ℕ = steps 128 (bit_xor r1 b) in
    let r3 : ℕ = steps 64 (bit_xor r2 c) in
    let r4 : ℕ = steps 64 (bit_xor r3 d) in
    let r5 : ℕ = steps 64 (bit_xor r4 e) in
    let r6 : ℕ = steps 64 (bit_xor r5 f) in
    let through : fold after_byte (steps 2240 r6) (bytes_of_words behind) ≡ fold after_byte r6 (bytes_of_words more) =
    behind_bytes 280 r6 more behind (ap bytes_of_words zeros) in
    sym (ap (fold after_byte all_ones) (ap bytes_of_words is)
    ∙ word_in all_ones a (b ∷ 0 ∷ c ∷ d ∷ e ∷ f ∷ more) (omega (arith, small.a))
    ∙ word_in r1 b (0 ∷ c ∷ d ∷ e ∷ f ∷ more) (omega (arith, small.b))
    ∙ zero_in 64 (bit_xor r1 b) (c ∷ d ∷ e ∷ f ∷ more)
    ∙ word_in r2 c (d ∷ e ∷ f ∷ more) (omega (arith, small.c))
    ∙ word_in r3 d (e ∷ f ∷ more) (omega (arith, small.d))
    ∙ word_in r4 e (f ∷ more) (omega (arith, small.e))
    ∙ word_in r5 f more (omega (arith, small.f))
    ∙ sym through
    ∙ ap (λ (x : ℕ). fold after_byte x (bytes_of_words behind)) (sym (steps-add 64 2240 (bit_xor r5 f))))

-- a word that comes in behind steps
apart_at : (m n r w : ℕ) → steps n (bit_xor (steps m r) w) ≡ bit_xor (steps (m + n) r) (steps n w)
apart_at m n r w = steps_xor n (steps m r) w ∙ ap (λ (x : ℕ). bit_xor x (steps n w)) (sym (steps-add m n r))

-- the register that held all ones, after a head's bits
ones : steps 2688 all_ones ≡ 0xd2d7576e
unfolding steps
ones = refl

-- a number of two bytes
two_bytes : (n x : ℕ) → bit_xor (steps (8 + n) (x % 256)) (steps n (x / 256)) ≡ steps (8 + n) x
two_bytes n x = sym (steps_byte n x)

-- a number of three bytes
three_bytes : (n x : ℕ) → bit_xor (steps (8 + (8 + n)) (x % 256)) (bit_xor (steps (8 + n) (x / 2 ^ 8 % 256)) (steps n (x / 2 ^ 16))) ≡ steps (8 + (8 + n)) x
three_bytes n x = sym (steps_byte (8 + n) x ∙ ap (bit_xor (steps (8 + (8 + n)) (x % 256))) (level n (2 ^ 8) x))

-- the register behind a head, by what each of its words makes alone
head_sum : (a b c d e f : ℕ) → bit_xor
    (bit_xor (bit_xor (bit_xor (bit_xor (bit_xor 0xd2d7576e (steps 2688 a)) (steps 2624 b)) (steps 2496 c)) (steps 2432 d)) (steps 2368 e))
    (steps 2304 f) ≡ head_steps a b c d e f
unfolding head_steps
head_sum a b c d e f =
    let r1 : ℕ = steps 64 (bit_xor all_ones a) in
    let r2 : ℕ = steps 128 (bit_xor r1 b) in
    let r3 : ℕ = steps 64 (bit_xor r2 c) in
    let r4 : ℕ = steps 64 (bit_xor r3 d) in
    ap (λ (x : ℕ). bit_xor (bit_xor (bit_xor (bit_xor (bit_xor (bit_xor x (steps 2688 a)) (steps 2624 b)) (steps 2496 c)) (steps 2432 d)) (steps 2368 e)) (steps 2304 f)) (sym ones)
    ∙ sym (apart_at 64 2304 (bit_xor r4 e) f
    ∙ ap (λ (x : ℕ). bit_xor x (steps 2304 f)) (apart_at 64 2368 (bit_xor r3 d) e
    ∙ ap (λ (x : ℕ). bit_xor x (steps 2368 e)) (apart_at 64 2432 (bit_xor r2 c) d
    ∙ ap (λ (x : ℕ). bit_xor x (steps 2432 d)) (apart_at 128 2496 (bit_xor r1 b) c
    ∙ ap (λ (x : ℕ). bit_xor x (steps 2496 c)) (apart_at 64 2624 (bit_xor all_ones a) b
    ∙ ap (λ (x : ℕ). bit_xor x (steps 2624 b)) (steps_xor 2688 all_ones a))))))

-- the look-ups of a word stand together
grouped : (k a1 a2 a3 b1 c1 c2 d1 d2 e1 e2 f1 : ℕ)
    → bit_xor (bit_xor (bit_xor (bit_xor (bit_xor (bit_xor (bit_xor (bit_xor (bit_xor (bit_xor (bit_xor k a1) a2) a3) b1) c1) c2) d1) d2) e1) e2) f1
    ≡ bit_xor (bit_xor (bit_xor (bit_xor (bit_xor (bit_xor k (bit_xor a1 (bit_xor a2 a3))) b1) (bit_xor c1 c2)) (bit_xor d1 d2)) (bit_xor e1 e2)) f1
grouped k a1 a2 a3 b1 c1 c2 d1 d2 e1 e2 f1 = simp xor_assoc refl

-- the look-ups of a head
pub head_split : (a b c d e f a1 a2 a3 b1 c1 c2 d1 d2 e1 e2 f1 : ℕ) → a1 ≡ steps 2688 (a % 256) → a2 ≡ steps 2680 (a / 2 ^ 8 % 256)
    → a3 ≡ steps 2672 (a / 2 ^ 16) → b1 ≡ steps 2624 b → c1 ≡ steps 2496 (c % 256) → c2 ≡ steps 2488 (c / 2 ^ 8) → d1 ≡ steps 2432 (d % 256)
    → d2 ≡ steps 2424 (d / 2 ^ 8) → e1 ≡ steps 2368 (e % 256) → e2 ≡ steps 2360 (e / 2 ^ 8) → f1 ≡ steps 2304 f →
    bit_xor (bit_xor (bit_xor (bit_xor (bit_xor (bit_xor (bit_xor (bit_xor (bit_xor (bit_xor (bit_xor 0xd2d7576e a1) a2) a3) b1) c1) c2) d1) d2) e1) e2) f1 ≡ head_steps a b c d e f
head_split a b c d e f a1 a2 a3 b1 c1 c2 d1 d2 e1 e2 f1 pa1 pa2 pa3 pb pc1 pc2 pd1 pd2 pe1 pe2 pf =
    let first : bit_xor a1 (bit_xor a2 a3) ≡ steps 2688 a = rw (pa1, pa2, pa3) (three_bytes 2672 a) in
    let fourth : bit_xor c1 c2 ≡ steps 2496 c = rw (pc1, pc2) (two_bytes 2488 c) in
    let fifth : bit_xor d1 d2 ≡ steps 2432 d = rw (pd1, pd2) (two_bytes 2424 d) in
    let sixth : bit_xor e1 e2 ≡ steps 2368 e = rw (pe1, pe2) (two_bytes 2360 e) in
    let sum : bit_xor (bit_xor (bit_xor (bit_xor (bit_xor (bit_xor 0xd2d7576e (bit_xor a1 (bit_xor a2 a3))) b1) (bit_xor c1 c2)) (bit_xor d1 d2)) (bit_xor e1 e2)) f1 ≡ head_steps a b c d e f =
    rw (first, pb, fourth, fifth, sixth, pf) (head_sum a b c d e f) in
    grouped 0xd2d7576e a1 a2 a3 b1 c1 c2 d1 d2 e1 e2 f1 ∙ sum
