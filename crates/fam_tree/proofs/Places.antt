-- Where a path stands in a run, by a binary search of its places.
use Rattle.std.proofs.Common.{◌≡◌, ℕ, zero, suc, ◌+◌, ◌-◌, ◌<◌, ◌≤◌, List, [], ◌∷◌, ◌++◌, length, get_or, take, drop, Option, Some, None, refl, sym, ap, subst, ◌∙◌, arith}
use Rattle.std.specs.Prelude.{option_map, slice_get}
use Rattle.std.specs.Ordering.{is_lt, ordering_index}
use Rattle.std.specs.Cmp.Lexicographic.{nat_list_cmp_total}
use Rattle.std.specs.declared.cmp.Ordering.{Ordering}
use Rattle.std.specs.declared.cmp.Ordering.TheVariants.{Less, Equal, Greater}
use Rattle.std.specs.List.{AllWithin, HoldsAt}
use Rattle.std.specs.List.Sorted.{IsNonDecreasingBy}
use Rattle.std.proofs.lemmas.List.{get_or_append_left, get_or_default, length-map}
use Rattle.std.proofs.lemmas.Option.{slice_get-map}
use Rattle.fam_base.specs.PathOrder.{path_cmp}
use Rattle.fam_base.specs.declared.entry.Entry.{Entry}
use Rattle.fam_tree.specs.Runs.{AllAbove, AllBelow, AreWithin, InOrder, IsAt, IsGap, ends_before, ends_below, entry_at, is_before, is_below, no_entry, place_cmp, run_of}
use Rattle.fam_tree.proofs.Views.{path_cmp-IsAntisymmetric}

-- ---- places within so many entries

pub within_at : (n : ℕ) (xs : List ℕ) (j d : ℕ) → AreWithin n xs → j < length xs → get_or xs j d < n
within_at n [] j d within below = absurd (omega arith)
within_at n (x ∷ xs) zero d within below = within.0
within_at n (x ∷ xs) (suc j) d within below = within_at n xs j d within.1 (omega arith)

pub within_get : (n : ℕ) (xs : List ℕ) (k i : ℕ) → AreWithin n xs → slice_get xs k ≡ Some i → i < n
within_get n [] k i within is = absurd (cc (is))
within_get n (x ∷ xs) zero i within is = let same : x ≡ i = cc (is) in subst (λ (y : ℕ). y < n) same within.0
within_get n (x ∷ xs) (suc k) i within is = within_get n xs k i within.1 is

pub within_more : (n m : ℕ) (xs : List ℕ) → n ≤ m → AreWithin n xs → AreWithin m xs
within_more n m [] most within = tt
within_more n m (x ∷ xs) most within = (omega (arith, within.0), within_more n m xs most within.1)

-- more entries change none of these
pub grown_run : (es more : List Entry) (xs : List ℕ) → AreWithin (length es) xs → run_of (es ++ more) xs ≡ run_of es xs
grown_run es more [] within = refl
grown_run es more (x ∷ xs) within =
    ap (λ (e : Entry). e ∷ run_of (es ++ more) xs) (get_or_append_left es more no_entry x within.0)
    ∙ ap (λ (l : List Entry). entry_at es x ∷ l) (grown_run es more xs within.1)

-- ---- the order of the path at a place and another

pub place_told : (es : List Entry) (q : List ℕ) (i : ℕ) → i < length es → place_cmp es q i ≡ path_cmp (entry_at es i).path q
place_told [] q i within = absurd (omega arith)
place_told (e ∷ es) q zero within = refl
place_told (e ∷ es) q (suc i) within = place_told es q i (omega arith)

least : (o : Ordering) → ordering_index o ≤ ordering_index Less → o ≡ Less
least Less low = refl
least Equal low = absurd (omega (arith, low))
least Greater low = absurd (omega (arith, low))

most : (o : Ordering) → ordering_index Greater ≤ ordering_index o → o ≡ Greater
most Less high = absurd (omega (arith, high))
most Equal high = absurd (omega (arith, high))
most Greater high = refl

at_most : (o : Ordering) → ordering_index o ≤ 2
at_most Less = omega arith
at_most Equal = omega arith
at_most Greater = omega arith

-- a lower path compares no higher
less_index : (a b q : List ℕ) → path_cmp a b ≡ Less → ordering_index (path_cmp a q) ≤ ordering_index (path_cmp b q)
less_index a b q less = elim (path_cmp b q) as (λ o. path_cmp b q ≡ o → ordering_index (path_cmp a q) ≤ ordering_index o) [
  | Less ↦ λ is. subst (λ o. ordering_index o ≤ ordering_index Less) (sym (nat_list_cmp_total.trans a b q less is)) (omega arith)
  | Equal ↦ λ is. subst (λ o. ordering_index o ≤ ordering_index Equal) (sym (subst (λ (p : List ℕ). path_cmp a p ≡ Less) (path_cmp-IsAntisymmetric b q is) less)) (omega arith)
  | Greater ↦ λ is. at_most (path_cmp a q)
] refl

turned : (a b : List ℕ) → path_cmp a b ≡ Greater → path_cmp b a ≡ Less
turned a b is = cc (is, nat_list_cmp_total.antisymm b a)

-- ---- the search

module _ (es : List Entry) (q : List ℕ) where
  above_at : (p : List ℕ) (xs : List ℕ) (j d : ℕ) → AllAbove p (run_of es xs) → j < length xs → path_cmp p (entry_at es (get_or xs j d)).path ≡ Less
  above_at p [] j d above below = absurd (omega arith)
  above_at p (x ∷ xs) zero d above below = above.0
  above_at p (x ∷ xs) (suc j) d above below = above_at p xs j d above.1 (omega arith)

  -- comparisons with a path rise along a run
  rises : (xs : List ℕ) → AreWithin (length es) xs → InOrder (run_of es xs) → IsNonDecreasingBy (λ (i : ℕ). ordering_index (place_cmp es q i)) xs
  rises [] within order i j d le below = absurd (omega arith)
  rises (x ∷ xs) within order zero zero d le below = omega arith
  rises (x ∷ xs) within order zero (suc j) d le below =
      let y : ℕ = get_or xs j d in
      let one = ap ordering_index (place_told es q x within.0) in
      let two = ap ordering_index (place_told es q y (within_at (length es) xs j d within.1 (omega arith))) in
      let less = less_index (entry_at es x).path (entry_at es y).path q (above_at (entry_at es x).path xs j d order.0 (omega arith)) in
      subst (λ (n : ℕ). n ≤ ordering_index (place_cmp es q y)) (sym one) (subst (λ (n : ℕ). ordering_index (path_cmp (entry_at es x).path q) ≤ n) (sym two) less)
  rises (x ∷ xs) within order (suc i) zero d le below = absurd (omega arith)
  rises (x ∷ xs) within order (suc i) (suc j) d le below = rises xs within.1 order.1 i j d (omega arith) (omega arith)

  here : (xs : List ℕ) (i : ℕ) → AreWithin (length es) xs → i < length xs → HoldsAt (λ (x : ℕ). place_cmp es q x ≡ Equal) xs i
      → option_map (λ (e : Entry). e.path) (slice_get (run_of es xs) i) ≡ Some q
  here [] i within below same = absurd (omega arith)
  here (x ∷ xs) zero within below same = ap (λ (p : List ℕ). Some p) (path_cmp-IsAntisymmetric (entry_at es x).path q (sym (place_told es q x within.0) ∙ same x))
  here (x ∷ xs) (suc i) within below same = here xs i within.1 (omega arith) (λ d. same d)

  before : (xs : List ℕ) (i : ℕ) → AreWithin (length es) xs → i ≤ length xs → AllWithin (λ (x : ℕ). place_cmp es q x ≡ Less) xs 0 i → AllBelow q (take i (run_of es xs))
  before xs zero within most all = tt
  before [] (suc i) within most all = absurd (omega arith)
  before (x ∷ xs) (suc i) within most all =
      (sym (place_told es q x within.0) ∙ all 0 x (omega arith) (omega arith), before xs i within.1 (omega arith) (λ k d low high. all (suc k) d (omega arith) (omega arith)))

  behind : (xs : List ℕ) (i : ℕ) → AreWithin (length es) xs → AllWithin (λ (x : ℕ). place_cmp es q x ≡ Greater) xs i (length xs) → AllAbove q (drop i (run_of es xs))
  behind [] zero within all = tt
  behind [] (suc i) within all = tt
  behind (x ∷ xs) zero within all =
      (turned (entry_at es x).path q (sym (place_told es q x within.0) ∙ all 0 x (omega arith) (omega arith)), behind xs 0 within.1 (λ k d low high. all (suc k) d (omega arith) (omega arith)))
  behind (x ∷ xs) (suc i) within all = behind xs i within.1 (λ k d low high. all (suc k) d (omega arith) (omega arith))

  -- ---- what one comparison tells of the others

  module _ (xs : List ℕ) (within : AreWithin (length es) xs) (order : InOrder (run_of es xs)) (m : ℕ) (below : m < length xs) where
    -- what stands before a lower path is lower
    pub less_to : place_cmp es q (get_or xs m 0) ≡ Less → AllWithin (λ (y : ℕ). place_cmp es q y ≡ Less) xs 0 (m + 1)
    less_to less i d low high =
        let at : get_or xs m d ≡ get_or xs m 0 = get_or_default xs m d 0 below in
        least (place_cmp es q (get_or xs i d))
        (subst (λ (n : ℕ). ordering_index (place_cmp es q (get_or xs i d)) ≤ n)
        (ap (λ (y : ℕ). ordering_index (place_cmp es q y)) at ∙ ap ordering_index less) (rises xs within order i m d (omega arith) below))

    -- what stands behind a higher one is higher
    pub greater_from : place_cmp es q (get_or xs m 0) ≡ Greater → AllWithin (λ (y : ℕ). place_cmp es q y ≡ Greater) xs m (length xs)
    greater_from greater i d low high =
        let at : get_or xs m d ≡ get_or xs m 0 = get_or_default xs m d 0 below in
        most (place_cmp es q (get_or xs i d))
        (subst (λ (n : ℕ). n ≤ ordering_index (place_cmp es q (get_or xs i d)))
        (ap (λ (y : ℕ). ordering_index (place_cmp es q y)) at ∙ ap ordering_index greater) (rises xs within order m i d low high))

    -- the path stands there
    pub found_at : place_cmp es q (get_or xs m 0) ≡ Equal → IsAt (run_of es xs) q m
    found_at same = record {
      within = rw (length-map xs (entry_at es)) below;
      own = here xs m within below (λ d. ap (place_cmp es q) (get_or_default xs m d 0 below) ∙ same);
    }

  -- a path between lower ones and higher ones would stand there
  pub gap_at : (xs : List ℕ) (i : ℕ) → AreWithin (length es) xs → i ≤ length xs → AllWithin (λ (y : ℕ). place_cmp es q y ≡ Less) xs 0 i
      → AllWithin (λ (y : ℕ). place_cmp es q y ≡ Greater) xs i (length xs) → IsGap (run_of es xs) q i
  gap_at xs i within bound lower higher = record {
    within = rw (length-map xs (entry_at es)) bound;
    below = before xs i within bound lower;
    above = behind xs i within higher;
  }

  -- whether the last is below a path
  pub ends_told : (xs : List ℕ) → AreWithin (length es) xs → ends_before es q xs ≡ ends_below q (run_of es xs)
  ends_told xs within =
      last_told (slice_get xs (length xs - 1)) refl
      ∙ sym (ap (λ (n : ℕ). is_below q (slice_get (run_of es xs) (n - 1))) (length-map xs (entry_at es)) ∙ ap (is_below q) (slice_get-map (entry_at es) xs (length xs - 1)))
    where
      last_told : (o : Option ℕ) → slice_get xs (length xs - 1) ≡ o → is_before es q o ≡ is_below q (option_map (entry_at es) o)
      last_told None is = refl
      last_told (Some i) is = ap is_lt (place_told es q i (within_get (length es) xs (length xs - 1) i within is))
