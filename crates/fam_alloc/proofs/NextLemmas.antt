-- The next unit in a state, and units that are marked.
use Rattle.std.proofs.Common.{◌≡◌, ℕ, Bool, true, false, ◌+◌, ◌*◌, ◌/◌, ◌%◌, ◌<◌, ◌&&◌, ◌||◌, List, length, get_or, set, ltb, bit_or, refl, sym, ap, ◌∙◌, inl, inr, arith}
use Rattle.std.proofs.lemmas.Bool.{cases_eq, lt-ltb, le-ltb}
use Rattle.std.proofs.lemmas.Bool.Decides.{nat_tests}
use Rattle.std.proofs.lemmas.List.{get_or-set_same, get_or-set_other}
use Rattle.fam_alloc.specs.Next.{has_bit, is_bit_set, is_between, IsNext}
use Rattle.fam_alloc.proofs.BitLemmas.{has_bit-or}

here_or : (o p : Bool) → ((o || (p && false)) || p) ≡ (o || (p && true))
here_or true p = refl
here_or false true = refl
here_or false false = refl

-- one more word was marked
pub mark_more : (words : List ℕ) (old : ℕ → Bool) (from to w x bits : ℕ) → w < length words → x ≡ get_or words w 0
    → ((i : ℕ) → i < 64 → has_bit bits i ≡ is_between from to (64 * w + i))
    → ((u : ℕ) → is_bit_set words u ≡ (old u || (is_between from to u && ltb (u / 64) w))) → (u : ℕ)
    → is_bit_set (set words w (bit_or x bits)) u ≡ (old u || (is_between from to u && ltb (u / 64) (w + 1)))
mark_more words old from to w x bits below read spans before u =
    elim (cases_eq (u / 64) w) [
      | inl at ↦
          let place : 64 * w + u % 64 ≡ u = omega arith in
          let same : get_or (set words w (bit_or x bits)) (u / 64) 0 ≡ bit_or x bits = ap (λ (k : ℕ). get_or (set words w (bit_or x bits)) k 0) at ∙ get_or-set_same words w (bit_or x bits) 0 below in
          let had : has_bit x (u % 64) ≡ is_bit_set words u = ap (λ (v : ℕ). has_bit v (u % 64)) (read ∙ ap (λ (k : ℕ). get_or words k 0) (sym at)) in
          let was : is_bit_set words u ≡ (old u || (is_between from to u && false)) = before u ∙ ap (λ (b : Bool). old u || (is_between from to u && b)) (le-ltb (u / 64) w (omega arith)) in
          let added : has_bit bits (u % 64) ≡ is_between from to u = spans (u % 64) (omega arith) ∙ ap (is_between from to) place in
          ap (λ (v : ℕ). has_bit v (u % 64)) same ∙ has_bit-or x bits (u % 64)
          ∙ ap (λ (b : Bool). b || has_bit bits (u % 64)) (had ∙ was)
          ∙ ap (λ (b : Bool). (old u || (is_between from to u && false)) || b) added
          ∙ here_or (old u) (is_between from to u)
          ∙ ap (λ (b : Bool). old u || (is_between from to u && b)) (sym (lt-ltb (u / 64) (w + 1) (omega arith)))
      | inr other ↦
          let tests : ltb (u / 64) w ≡ ltb (u / 64) (w + 1) = grind (arith, nat_tests) in
          ap (λ (v : ℕ). has_bit v (u % 64)) (get_or-set_other words w (u / 64) (bit_or x bits) 0 other)
          ∙ before u ∙ ap (λ (b : Bool). old u || (is_between from to u && b)) tests
    ]

-- the next of two tests
pub next_either : (f g : ℕ → Bool) (from to a b : ℕ) → IsNext f true from to a → IsNext g true from a b → IsNext (λ u. f u || g u) true from to b
next_either f g from to a b p q = record {
  low = q.low;
  high = omega (arith, p.high, q.high);
  before = λ u above below. rw (p.before u above (omega (arith, q.high)), q.before u above below) refl;
  here = λ h. elim (cases_eq b a) [
    | inl at ↦ rw (ap f at ∙ p.here (omega arith)) refl
    | inr less ↦ rw (q.here (omega (arith, q.high))) (or_true (f b))
  ];
}
  where
    or_true : (x : Bool) → (x || true) ≡ true
    or_true true = refl
    or_true false = refl

-- the next of a test that answers alike
pub next_same : (f g : ℕ → Bool) (state : Bool) (from to a : ℕ) → ((u : ℕ) → f u ≡ g u) → IsNext f state from to a → IsNext g state from to a
next_same f g state from to a same p = record {
  low = p.low;
  high = p.high;
  before = λ u above below. sym (same u) ∙ p.before u above below;
  here = λ h. sym (same a) ∙ p.here h;
}
