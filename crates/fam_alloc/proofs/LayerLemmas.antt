-- Hints over a bitmap, and marks that skip what is used.
use Rattle.std.proofs.Common.{◌≡◌, ℕ, Bool, true, false, ◌+◌, ◌-◌, ◌*◌, ◌/◌, ◌%◌, ◌^◌, ◌<◌, ◌≤◌, ◌||◌, List, get_or, replicate, zero, suc, leb, ltb, min, refl, sym, ap, ◌∙◌, inl, inr, arith}
use Rattle.std.proofs.lemmas.Bool.{cases_lt, lt-ltb, ltb-true, leb-true, and_parts, or_cases, false≢true}
use Rattle.std.proofs.lemmas.Bool.Decides.{nat_tests}
use Rattle.std.proofs.lemmas.List.{length-replicate}
use Rattle.fam_alloc.specs.Full.{AreFull, AreLayers}
use Rattle.fam_alloc.specs.Next.{has_bit, is_bit_set, is_between, IsNext}
use Rattle.fam_alloc.proofs.BitLemmas.{has_bit_all, no_bits}

-- each unit of a word whose bits are all 1 is used
pub all_ones : (words : List ℕ) (w x : ℕ) → x ≡ get_or words w 0 → x ≡ 2 ^ 64 - 1 → (u : ℕ) → u / 64 ≡ w → is_bit_set words u ≡ true
all_ones words w x read ones u at =
    let same : get_or words (u / 64) 0 ≡ 2 ^ 64 - 1 = ap (λ (k : ℕ). get_or words k 0) at ∙ sym read ∙ ones in
    ap (λ (v : ℕ). has_bit v (u % 64)) same
    ∙ has_bit_all 64 (u % 64) (omega arith) (omega arith)
    ∙ lt-ltb (u % 64) 64 (omega arith)

-- one word more is marked as full
pub full_more : (words full new : List ℕ) (w : ℕ) → AreFull words full → ((u : ℕ) → u / 64 ≡ w → is_bit_set words u ≡ true)
    → ((u : ℕ) → is_bit_set new u ≡ (is_bit_set full u || is_between w (w + 1) u)) → AreFull words new
full_more words full new w sound all marked u h =
    elim (or_cases (is_bit_set full (u / 64)) (is_between w (w + 1) (u / 64)) (sym (marked (u / 64)) ∙ h)) [
      | inl before ↦ sound u before
      | inr here ↦
          let within = and_parts (leb w (u / 64)) (ltb (u / 64) (w + 1)) here in
          all u (omega (arith, leb-true w (u / 64) within.0, ltb-true (u / 64) (w + 1) within.1))
    ]

zero_at : (n k : ℕ) → ◌≡◌ {A = ℕ} (get_or (replicate n 0) k 0) 0
zero_at zero k = refl
zero_at (suc n) zero = refl
zero_at (suc n) (suc k) = zero_at n k

-- no bit is set in words of 0
none_set : (n u : ℕ) → is_bit_set (replicate n 0) u ≡ false
none_set n u =
    ap (λ (v : ℕ). has_bit v (u % 64)) (zero_at n (u / 64))
    ∙ (no_bits 0 0 (u % 64 + 1) refl (omega arith)).before (u % 64) (omega arith) (omega arith)

empty_full : (n m : ℕ) → AreFull (replicate n 0) (replicate m 0)
empty_full n m u h = absurd (false≢true (sym (none_set m (u / 64)) ∙ h))

-- a bitmap without units, and hints that say nothing
pub empty_layers : (w f b t : ℕ) → w ≤ 64 * f → f ≤ 64 * b → b ≤ 64 * t → AreLayers (replicate w 0) (replicate f 0) (replicate b 0) (replicate t 0)
empty_layers w f b t in_full in_blocks in_tops = record {
  words_full = empty_full w f;
  full_full = empty_full f b;
  blocks_full = empty_full b t;
  words_room = omega (arith, length-replicate {A = ℕ} w 0, length-replicate {A = ℕ} f 0, in_full);
  full_room = omega (arith, length-replicate {A = ℕ} f 0, length-replicate {A = ℕ} b 0, in_blocks);
  blocks_room = omega (arith, length-replicate {A = ℕ} b 0, length-replicate {A = ℕ} t 0, in_tops);
}

-- words that are full stay so where no bit is taken away
pub still_full : (words new full : List ℕ) → AreFull words full → ((u : ℕ) → is_bit_set words u ≡ true → is_bit_set new u ≡ true) → AreFull new full
still_full words new full sound more u h = more u (sound u h)

-- and a mark takes none away
pub marked_too : (words new : List ℕ) (from to : ℕ) → ((u : ℕ) → is_bit_set new u ≡ (is_bit_set words u || is_between from to u)) → (u : ℕ) → is_bit_set words u ≡ true → is_bit_set new u ≡ true
marked_too words new from to marked u h = marked u ∙ ap (λ (b : Bool). b || is_between from to u) h

-- words that the hints skip are full
pub skipped_full : (words full : List ℕ) (from word to past : ℕ) → AreFull words full → word ≡ from / 64 + min 1 (from % 64)
    → IsNext (is_bit_set full) false word to past → (u : ℕ) → from ≤ 64 * (u / 64) → u / 64 < past → is_bit_set words u ≡ true
skipped_full words full from word to past sound e n u above below =
    sound u (n.before (u / 64) (omega arith) below)

-- a run of free units was marked, behind units that are used
pub cover_more : (init now : ℕ → Bool) (from unit start end to : ℕ) → from ≤ unit → ((u : ℕ) → now u ≡ (init u || is_between from unit u))
    → IsNext now false unit to start → start ≤ end → (u : ℕ) → (now u || is_between start end u) ≡ (init u || is_between from end u)
cover_more init now from unit start end to low marked free order u =
    elim (cases_lt u unit) [
      | inl below ↦
          let tests : (is_between start end u ≡ false) × (is_between from unit u ≡ is_between from end u) = (grind (arith, nat_tests, free.low), grind (arith, nat_tests, free.low)) in
          rw (tests.0, marked u, tests.1) (or_none (init u || is_between from end u))
      | inr above ↦ elim (cases_lt u start) [
        | inl skipped ↦
            let tests : is_between from end u ≡ true = grind (arith, nat_tests) in
            rw (free.before u above skipped, tests) (sym (or_true (init u)))
        | inr past ↦
            let tests : (is_between from unit u ≡ false) × (is_between start end u ≡ is_between from end u) = (grind (arith, nat_tests, free.low), grind (arith, nat_tests, free.low)) in
            rw (marked u, tests.0, tests.1) (ap (λ (b : Bool). b || is_between from end u) (or_none (init u)))
      ]
    ]
  where
    or_none : (x : Bool) → (x || false) ≡ x
    or_none true = refl
    or_none false = refl

    or_true : (x : Bool) → (x || true) ≡ true
    or_true true = refl
    or_true false = refl
