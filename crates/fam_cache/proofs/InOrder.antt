-- Areas in the order of their numbers, and where a block is by them.
use Rattle.std.proofs.Common.{◌≡◌, ◌≢◌, ℕ, zero, suc, ◌+◌, ◌/◌, ◌%◌, ◌<◌, ◌≤◌, Bool, true, cond, T, inl, inr, List, [], ◌∷◌, length, set, get_or, Some, None, refl, sym, ap, subst, ◌∙◌, arith}
use Rattle.std.proofs.lemmas.Bool.{false≢true, and_parts, cases_order, cases_eq}
use Rattle.std.specs.List.{insert}
use Rattle.std.specs.Option.{option_map}
use Rattle.std.specs.Ordering.{nat_cmp, is_lt}
use Rattle.std.specs.Cmp.{nat_cmp_total}
use Rattle.std.specs.FinMap.{is_sorted, put, find}
use Rattle.std.specs.FinMap.Entries.{below_all, is_sorted-put, find-put}
use Rattle.fam_machine.proofs.CacheLemmas.{less, greater, equal, same_key, other_key}
use Rattle.fam_machine.proofs.DirtyLemmas.{true_of}
use Rattle.fam_cache.specs.Blocks.{Areas, Before, area_at, no_area, place_in}

truth : (b : Bool) → b ≡ true → T b
truth b h = subst (λ (x : Bool). T x) (sym h) tt

pub lt_of_less : (k x : ℕ) → is_lt (nat_cmp k x) ≡ true → k < x
lt_of_less k x h =
    elim (cases_order k x) [
      | inl e ↦ absurd (false≢true (sym (ap is_lt (equal k x e)) ∙ h))
      | inr d ↦ elim d [ inl up ↦ up | inr down ↦ absurd (false≢true (sym (ap is_lt (greater k x down)) ∙ h)) ]
    ]

below_at : (x : ℕ) (es : Areas) → below_all nat_cmp x es ≡ true → (j : ℕ) → j < length es → x < area_at es j
below_at x [] h j below = absurd (omega arith)
below_at x (e ∷ es) h zero below = lt_of_less x e.0 (and_parts (is_lt (nat_cmp x e.0)) (below_all nat_cmp x es) h).0
below_at x (e ∷ es) h (suc j) below = below_at x es (and_parts (is_lt (nat_cmp x e.0)) (below_all nat_cmp x es) h).1 j (omega arith)

-- the numbers rise
pub rises : (es : Areas) → is_sorted nat_cmp es ≡ true → (i j : ℕ) → i < j → j < length es → area_at es i < area_at es j
rises [] h i j up below = absurd (omega arith)
rises (e ∷ es) h i zero up below = absurd (omega arith)
rises (e ∷ es) h zero (suc j) up below = below_at e.0 es (and_parts (below_all nat_cmp e.0 es) (is_sorted nat_cmp es) h).0 j (omega arith)
rises (e ∷ es) h (suc i) (suc j) up below = rises es (and_parts (below_all nat_cmp e.0 es) (is_sorted nat_cmp es) h).1 i j (omega arith) (omega arith)

module _ (es : Areas) (sorted : is_sorted nat_cmp es ≡ true) where
  -- the half before a place, and the half from it on
  pub all_below : (mid number : ℕ) → mid < length es → area_at es mid < number → (j : ℕ) → j < mid + 1 → area_at es j < number
  all_below mid number within h j below =
      elim (cases_eq j mid) [
        | inl e ↦ omega (arith, ap (area_at es) e)
        | inr other ↦ omega (arith, rises es sorted j mid (omega arith) within)
      ]

  pub all_from : (mid number : ℕ) → mid < length es → number ≤ area_at es mid → (j : ℕ) → mid ≤ j → j < length es → number ≤ area_at es j
  all_from mid number within h j from below =
      elim (cases_eq j mid) [
        | inl e ↦ omega (arith, ap (area_at es) e)
        | inr other ↦ omega (arith, rises es sorted mid j (omega arith) below)
      ]

-- an area that isn't there goes before the first one that is greater
pub put_absent : (es : Areas) (i k : ℕ) (v : List ℕ) → i ≤ length es → Before es i k → (i < length es → k < area_at es i) → insert es i (k, v) ≡ put nat_cmp k v es
put_absent [] zero k v within before from = refl
put_absent [] (suc i) k v within before from = absurd (omega arith)
put_absent (e ∷ es) zero k v within before from = let h : k < e.0 = from (omega arith) in rw (less k e.0 h) refl
put_absent (e ∷ es) (suc i) k v within before from =
    let h : e.0 < k = before 0 (omega arith) in
    rw (greater k e.0 h) (ap (λ (l : Areas). e ∷ l) (put_absent es i k v (omega arith) (λ j b. before (suc j) (omega arith)) (λ b. from (omega arith))))

-- an area that is there is set there
pub put_present : (es : Areas) (i k : ℕ) (v : List ℕ) → i < length es → Before es i k → area_at es i ≡ k → set es i (k, v) ≡ put nat_cmp k v es
put_present [] i k v within before is = absurd (omega arith)
put_present (e ∷ es) zero k v within before is = rw (equal k e.0 (sym is)) (ap (λ (x : ℕ). (x, v) ∷ es) (sym is))
put_present (e ∷ es) (suc i) k v within before is =
    let h : e.0 < k = before 0 (omega arith) in
    rw (greater k e.0 h) (ap (λ (l : Areas). e ∷ l) (put_present es i k v (omega arith) (λ j b. before (suc j) (omega arith)) is))

pub sorted_put : (es : Areas) (k : ℕ) (v : List ℕ) → is_sorted nat_cmp es ≡ true → is_sorted nat_cmp (put nat_cmp k v es) ≡ true
sorted_put es k v sorted = true_of _ (is_sorted-put nat_cmp nat_cmp_total k v es (truth _ sorted))

-- the area that stands there is found
pub find_present : (es : Areas) (i k : ℕ) → i < length es → Before es i k → area_at es i ≡ k → find nat_cmp k es ≡ Some (get_or es i no_area).1
find_present [] i k within before is = absurd (omega arith)
find_present (e ∷ es) zero k within before is = rw (equal k e.0 (sym is)) refl
find_present (e ∷ es) (suc i) k within before is =
    let h : e.0 < k = before 0 (omega arith) in
    rw (greater k e.0 h) (find_present es i k (omega arith) (λ j b. before (suc j) (omega arith)) is)

-- and one that stands nowhere isn't
pub find_absent : (es : Areas) (k : ℕ) → ((j : ℕ) → j < length es → area_at es j ≡ k → ⊥) → find nat_cmp k es ≡ None
find_absent [] k none = refl
find_absent (e ∷ es) k none =
    let other : k ≢ e.0 = λ is. none 0 (omega arith) (sym is) in
    rw (other_key k e.0 other) (find_absent es k (λ j below is. none (suc j) (omega arith) is))

-- an area between two that stand beside each other isn't there
pub find_between : (es : Areas) (i k : ℕ) → is_sorted nat_cmp es ≡ true → Before es i k → (i < length es → k < area_at es i) → find nat_cmp k es ≡ None
find_between es i k sorted before after =
    find_absent es k
    (λ j below is. elim (cases_order j i) [
      | inl e ↦ omega (arith, after (omega arith), ap (area_at es) e)
      | inr d ↦ elim d [
        | inl up ↦ omega (arith, before j up)
        | inr down ↦ omega (arith, after (omega arith), rises es sorted i j down below)
      ]
    ])

-- Where a block is.

pub place_found : (es : Areas) (n : ℕ) (ps : List ℕ) → find nat_cmp (n / 64) es ≡ Some ps → place_in es n ≡ Some (get_or ps (n % 64) 0)
unfolding place_in
place_found es n ps is = ap (option_map (λ (places : List ℕ). get_or places (n % 64) 0)) is

pub place_lacked : (es : Areas) (n : ℕ) → find nat_cmp (n / 64) es ≡ None → place_in es n ≡ None
unfolding place_in
place_lacked es n is = ap (option_map (λ (places : List ℕ). get_or places (n % 64) 0)) is

-- with an area put in, the blocks of the others are where they were
pub find_other : (es : Areas) (a k : ℕ) (v : List ℕ) → a ≢ k → find nat_cmp a (put nat_cmp k v es) ≡ find nat_cmp a es
find_other es a k v other = find-put nat_cmp nat_cmp_total a k v es ∙ ap (λ (b : Bool). cond b (Some v) (find nat_cmp a es)) (other_key a k other)

pub find_same : (es : Areas) (k : ℕ) (v : List ℕ) → find nat_cmp k (put nat_cmp k v es) ≡ Some v
find_same es k v = find-put nat_cmp nat_cmp_total k k v es ∙ ap (λ (b : Bool). cond b (Some v) (find nat_cmp k es)) (same_key k k refl)

pub place_other : (es : Areas) (n k : ℕ) (v : List ℕ) → n / 64 ≢ k → place_in (put nat_cmp k v es) n ≡ place_in es n
unfolding place_in
place_other es n k v other = ap (option_map (λ (places : List ℕ). get_or places (n % 64) 0)) (find_other es (n / 64) k v other)
