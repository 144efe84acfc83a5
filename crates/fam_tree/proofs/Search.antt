-- Which run has a path or would have it, by a binary search of the runs' last entries.
use Rattle.std.proofs.Common.{◌≡◌, ℕ, zero, suc, ◌+◌, ◌-◌, ◌<◌, ◌≤◌, min, Bool, true, false, List, [], ◌∷◌, ◌++◌, length, get_or, take, drop, Some, refl, sym, ap, subst, ◌∙◌, inl, inr, arith}
use Rattle.std.specs.Prelude.{slice_get}
use Rattle.std.specs.Ordering.{is_lt, ordering_reverse}
use Rattle.std.specs.Cmp.Lexicographic.{nat_list_cmp_total}
use Rattle.std.specs.declared.cmp.Ordering.TheVariants.{Less, Equal, Greater}
use Rattle.std.specs.List.{AllByRecursion, AllWithin}
use Rattle.std.specs.List.Sorted.{IsPartitionedBy, IsPartitionPoint}
use Rattle.std.proofs.lemmas.List.{drop_all}
use Rattle.std.proofs.lemmas.Bool.{cases_lt}
use Rattle.fam_base.specs.PathOrder.{path_cmp}
use Rattle.fam_base.specs.declared.entry.Entry.{Entry}
use Rattle.fam_tree.specs.Runs.{AllAbove, AllBelow, AreFilled, AreRuns, InOrder, IsRunFor, ends_below, entries_in, is_below}
use Rattle.fam_tree.proofs.Ordered.{above_weaker, all_back, all_front, all_joined, order_back, order_front}
use Rattle.fam_tree.proofs.Views.{path_cmp-IsAntisymmetric}

abbrev pub Runs : Type 0
Runs = List (List Entry)

-- the last of more than one is the last of the others
last_step : (x y : Entry) (es : List Entry) → slice_get (x ∷ y ∷ es) (length (x ∷ y ∷ es) - 1) ≡ slice_get (y ∷ es) (length (y ∷ es) - 1)
last_step x y es = let n : length (x ∷ y ∷ es) - 1 ≡ suc (length (y ∷ es) - 1) = omega arith in ap (slice_get (x ∷ y ∷ es)) n

last_of_one : (x : Entry) → slice_get (x ∷ []) (length (x ∷ []) - 1) ≡ Some x
last_of_one x = let n : length (x ∷ []) - 1 ≡ 0 = omega arith in ap (slice_get (x ∷ [])) n

less_by : (a b : List ℕ) → is_lt (path_cmp a b) ≡ true → path_cmp a b ≡ Less
less_by a b is = elim (path_cmp a b) as (λ o. is_lt o ≡ true → o ≡ Less) [
  | Less ↦ λ t. refl
  | Equal ↦ λ t. absurd (cc (t))
  | Greater ↦ λ t. absurd (cc (t))
] is

-- a run that ends below a path is below it
pub ends_all : (q : List ℕ) (r : List Entry) → InOrder r → ends_below q r ≡ true → AllBelow q r
ends_all q [] order ends = tt
ends_all q (x ∷ []) order ends = (less_by x.path q (ap (is_below q) (sym (last_of_one x)) ∙ ends), tt)
ends_all q (x ∷ y ∷ es) order ends =
    let more = ends_all q (y ∷ es) order.1 (ap (is_below q) (sym (last_step x y es)) ∙ ends) in
    (nat_list_cmp_total.trans x.path y.path q order.0.0 more.0, more)

-- what is above a path that isn't below another is above that one
above_last : (q x : List ℕ) (es : List Entry) → is_lt (path_cmp x q) ≡ false → AllAbove x es → AllAbove q es
above_last q x es not above = elim (path_cmp x q) as (λ o. path_cmp x q ≡ o → is_lt o ≡ false → AllAbove q es) [
  | Less ↦ λ is t. absurd (cc (t))
  | Equal ↦ λ is t. subst (λ (p : List ℕ). AllAbove p es) (path_cmp-IsAntisymmetric x q is) above
  | Greater ↦ λ is t. above_weaker q x es (nat_list_cmp_total.antisymm q x ∙ ap ordering_reverse is) above
] refl not

-- what follows a run that doesn't end below a path is above it
after_end : (q : List ℕ) (r rest : List Entry) → 1 ≤ length r → InOrder (r ++ rest) → ends_below q r ≡ false → AllAbove q rest
after_end q [] rest some order ends = absurd (omega (arith, some))
after_end q (x ∷ []) rest some order ends = above_last q x.path rest (ap (is_below q) (sym (last_of_one x)) ∙ ends) order.0
after_end q (x ∷ y ∷ es) rest some order ends = after_end q (y ∷ es) rest (omega arith) order.1 (ap (is_below q) (sym (last_step x y es)) ∙ ends)

-- ---- one run of many

pub run_order : (runs : Runs) (j : ℕ) (d : List Entry) → InOrder (entries_in runs) → j < length runs → InOrder (get_or runs j d)
run_order [] j d order within = absurd (omega arith)
run_order (r ∷ runs) zero d order within = order_front r (entries_in runs) order
run_order (r ∷ runs) (suc j) d order within = run_order runs j d (order_back r (entries_in runs) order) (omega arith)

run_all : (P : Entry → Type 0) (runs : Runs) (j : ℕ) (d : List Entry) → AllByRecursion P (entries_in runs) → j < length runs → AllByRecursion P (get_or runs j d)
run_all P [] j d all within = absurd (omega arith)
run_all P (r ∷ runs) zero d all within = all_front P r (entries_in runs) all
run_all P (r ∷ runs) (suc j) d all within = run_all P runs j d (all_back P r (entries_in runs) all) (omega arith)

run_filled : (runs : Runs) (j : ℕ) (d : List Entry) → AreFilled runs → j < length runs → 1 ≤ length (get_or runs j d)
run_filled [] j d filled within = absurd (omega arith)
run_filled (r ∷ runs) zero d filled within = filled.0
run_filled (r ∷ runs) (suc j) d filled within = run_filled runs j d filled.1 (omega arith)

-- no entry is both below and above a path
not_both : (q : List ℕ) (r : List Entry) → 1 ≤ length r → AllBelow q r → AllAbove q r → ⊥
not_both q [] some below above = omega (arith, some)
not_both q (x ∷ r) some below above = cc (below.0, nat_list_cmp_total.antisymm x.path q ∙ ap ordering_reverse above.0)

-- ---- the search

either : (b : Bool) → (b ≡ false → ⊥) → b ≡ true
either true not = refl
either false not = absurd (not refl)

-- runs that end below a path come first
pub parted : (q : List ℕ) (runs : Runs) → InOrder (entries_in runs) → AreFilled runs → IsPartitionedBy (ends_below q) runs
parted q [] order filled i j d le within ends = absurd (omega arith)
parted q (r ∷ runs) order filled zero zero d le within ends = ends
parted q (r ∷ runs) order filled zero (suc j) d le within ends =
    either (ends_below q r) (λ not.
    not_both q (get_or runs j d) (run_filled runs j d filled.1 (omega arith))
    (ends_all q (get_or runs j d) (run_order runs j d (order_back r (entries_in runs) order) (omega arith)) ends)
    (run_all (λ (e : Entry). path_cmp q e.path ≡ Less) runs j d (after_end q r (entries_in runs) filled.0 order not) (omega arith)))
parted q (r ∷ runs) order filled (suc i) zero d le within ends = absurd (omega arith)
parted q (r ∷ runs) order filled (suc i) (suc j) d le within ends = parted q runs (order_back r (entries_in runs) order) filled.1 i j d (omega arith) (omega arith) ends

below_first : (q : List ℕ) (runs : Runs) (k : ℕ) → InOrder (entries_in runs) → k ≤ length runs → AllWithin (λ r. ends_below q r ≡ true) runs 0 k → AllBelow q (entries_in (take k runs))
below_first q runs zero order within all = tt
below_first q [] (suc k) order within all = absurd (omega arith)
below_first q (r ∷ runs) (suc k) order within all =
    all_joined (λ (e : Entry). path_cmp e.path q ≡ Less) r (entries_in (take k runs)) (ends_all q r (order_front r (entries_in runs) order) (all 0 r (omega arith) (omega arith)))
    (below_first q runs k (order_back r (entries_in runs) order) (omega arith) (λ i d low high. all (suc i) d (omega arith) (omega arith)))

above_behind : (q : List ℕ) (runs : Runs) (k : ℕ) (d : List Entry) → InOrder (entries_in runs) → AreFilled runs → k < length runs
    → ends_below q (get_or runs k d) ≡ false → AllAbove q (entries_in (drop (suc k) runs))
above_behind q [] k d order filled within ends = absurd (omega arith)
above_behind q (r ∷ runs) zero d order filled within ends = after_end q r (entries_in runs) filled.0 order ends
above_behind q (r ∷ runs) (suc k) d order filled within ends = above_behind q runs k d (order_back r (entries_in runs) order) filled.1 (omega arith) ends

-- the first run that doesn't end below a path, or else the last
pub placed : (q : List ℕ) (runs : Runs) → AreRuns runs → (n m : ℕ) → m + 1 ≡ length runs → n ≤ length runs
    → IsPartitionPoint (λ r. ends_below q r ≡ true) (λ r. ends_below q r ≡ false) runs n → IsRunFor runs q (min n m)
placed q runs are n m last most point = record {
  within = omega arith;
  below = below_first q runs (min n m) are.order (omega arith) (λ i d low high. point.0 i d (omega arith) (omega arith));
  above = elim (cases_lt n (length runs)) [
    | inl less ↦ subst (λ k. AllAbove q (entries_in (drop (suc k) runs))) {x = n} (omega arith) (above_behind q runs n [] are.order are.filled less (point.1 n [] (omega arith) (omega arith)))
    | inr not ↦ subst (λ (l : Runs). AllAbove q (entries_in l)) (sym (drop_all (suc (min n m)) runs (omega arith))) tt
  ];
}
