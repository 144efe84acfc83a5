-- What stands in one of many runs.
use Rattle.std.proofs.Common.{◌≡◌, ℕ, zero, suc, ◌+◌, ◌<◌, ◌≤◌, List, [], ◌∷◌, ◌++◌, length, get_or, set, take, drop, Some, None, refl, sym, ap, subst, ◌∙◌, arith, length-append}
use Rattle.std.specs.Prelude.{slice_get}
use Rattle.std.specs.declared.cmp.Ordering.TheVariants.{Less}
use Rattle.std.specs.FinMap as finmap
use Rattle.std.specs.List.{insert}
use Rattle.std.proofs.lemmas.List.{append_assoc}
use Rattle.fam_base.specs.PathOrder.{path_cmp}
use Rattle.fam_base.specs.declared.entry.Entry.{Entry}
use Rattle.fam_format.specs.Tree.{with_entry}
use Rattle.fam_tree.specs.Runs.{AreFilled, AreRuns, InOrder, IsAbsent, IsFound, IsPut, IsRunFor, entries_in, tree_of}
use Rattle.fam_tree.proofs.Ordered.{IsCut, cut_absent, cut_order, cut_view, IsHeld, held_found, all_joined}
use Rattle.fam_tree.proofs.Views.{get_of_view}
use Rattle.fam_tree.proofs.Edits.{cut_of_gap}

abbrev pub Runs : Type 0
Runs = List (List Entry)

-- ---- a run among others

front : (x a b c : List Entry) (w : List Entry) → w ≡ a ++ (b ++ c) → x ++ w ≡ (x ++ a) ++ (b ++ c)
front x a b c w is = ap (λ (l : List Entry). x ++ l) is ∙ sym (append_assoc x a (b ++ c))

-- the entries before a run, its own, and those behind it
pub whole_at : (runs : Runs) (k : ℕ) (r : List Entry) → k < length runs → r ≡ get_or runs k r
    → entries_in runs ≡ entries_in (take k runs) ++ (r ++ entries_in (drop (suc k) runs))
whole_at [] k r within is = absurd (omega arith)
whole_at (x ∷ runs) zero r within is = ap (λ (l : List Entry). l ++ entries_in runs) (sym is)
whole_at (x ∷ runs) (suc k) r within is = front x (entries_in (take k runs)) r (entries_in (drop (suc k) runs)) (entries_in runs) (whole_at runs k r (omega arith) is)

-- with another in its place
pub whole_set : (runs : Runs) (k : ℕ) (r : List Entry) → k < length runs
    → entries_in (set runs k r) ≡ entries_in (take k runs) ++ (r ++ entries_in (drop (suc k) runs))
whole_set [] k r within = absurd (omega arith)
whole_set (x ∷ runs) zero r within = refl
whole_set (x ∷ runs) (suc k) r within = front x (entries_in (take k runs)) r (entries_in (drop (suc k) runs)) (entries_in (set runs k r)) (whole_set runs k r (omega arith))

regrouped : (a b c d : List Entry) → a ++ ((b ++ c) ++ d) ≡ (a ++ b) ++ (c ++ d)
regrouped a b c d = ap (λ (l : List Entry). a ++ l) (append_assoc b c d) ∙ sym (append_assoc a b (c ++ d))

-- ---- no run is empty

pub filled_set : (runs : Runs) (k : ℕ) (r : List Entry) → AreFilled runs → 1 ≤ length r → AreFilled (set runs k r)
filled_set [] k r filled some = tt
filled_set (x ∷ runs) zero r filled some = (some, filled.1)
filled_set (x ∷ runs) (suc k) r filled some = (filled.0, filled_set runs k r filled.1 some)

pub filled_insert : (runs : Runs) (k : ℕ) (r : List Entry) → AreFilled runs → 1 ≤ length r → AreFilled (insert runs k r)
filled_insert runs zero r filled some = (some, filled)
filled_insert [] (suc k) r filled some = (some, tt)
filled_insert (x ∷ runs) (suc k) r filled some = (filled.0, filled_insert runs k r filled.1 some)

split_at : (es : List Entry) (i : ℕ) (e : Entry) → slice_get es i ≡ Some e → es ≡ take i es ++ e ∷ drop (suc i) es
split_at [] i e here = absurd (cc (here))
split_at (x ∷ es) zero e here = let same : x ≡ e = cc (here) in ap (λ (y : Entry). y ∷ es) same
split_at (x ∷ es) (suc i) e here = ap (λ (l : List Entry). x ∷ l) (split_at es i e here)

-- ---- what one run tells of all

module _ (runs : Runs) (q : List ℕ) (k : ℕ) (r : List Entry) (for : IsRunFor runs q k) (is : r ≡ get_or runs k r) where
  abbrev before : List Entry
  before = entries_in (take k runs)

  abbrev behind : List Entry
  behind = entries_in (drop (suc k) runs)

  -- a cut of the run cuts all entries
  outer_cut : (a b : List Entry) → IsCut q r a b → IsCut q (entries_in runs) (before ++ a) (b ++ behind)
  outer_cut a b cut = record {
    whole = whole_at runs k r for.within is ∙ ap (λ (l : List Entry). before ++ (l ++ behind)) cut.whole ∙ regrouped before a b behind;
    below = all_joined (λ (e : Entry). path_cmp e.path q ≡ Less) before a for.below cut.below;
    above = all_joined (λ (e : Entry). path_cmp q e.path ≡ Less) b behind cut.above for.above;
  }

  pub absent_of_run : IsAbsent r q → finmap.get (tree_of (entries_in runs)) q ≡ None
  absent_of_run none =
      let i = none.place in
      cut_absent q (entries_in runs) (before ++ take i r) (drop i r ++ behind) (outer_cut (take i r) (drop i r) (cut_of_gap r q i none.gap))

  -- an entry of the run is one of all
  outer_held : (a b : List Entry) (e : Entry) → r ≡ a ++ e ∷ b → InOrder (entries_in runs) → IsHeld (entries_in runs) (before ++ a) e (b ++ behind)
  outer_held a b e within order = record {
    whole = whole_at runs k r for.within is ∙ ap (λ (l : List Entry). before ++ (l ++ behind)) within ∙ regrouped before a (e ∷ b) behind;
    order = order;
  }

  pub found_in_run : InOrder (entries_in runs) → (e : Entry) → IsFound r q e → finmap.get (tree_of (entries_in runs)) q ≡ Some e
  found_in_run order e found =
      let i = found.place in
      subst (λ (p : List ℕ). finmap.get (tree_of (entries_in runs)) p ≡ Some e) found.own
      (held_found (entries_in runs) (before ++ take i r) e (drop (suc i) r ++ behind) (outer_held (take i r) (drop (suc i) r) e (split_at r i e found.here) order))

  -- an entry is put into the run
  module _ (new : List Entry) (e : Entry) (own : e.path ≡ q) (put : IsPut r new e) where
    abbrev put_front : List Entry
    put_front = before ++ take put.place r

    abbrev put_back : List Entry
    put_back = drop put.place r ++ behind

    put_cut : IsCut q (entries_in runs) put_front put_back
    put_cut = outer_cut (take put.place r) (drop put.place r) (subst (λ (p : List ℕ). IsCut p r (take put.place r) (drop put.place r)) own (cut_of_gap r e.path put.place put.gap))

    put_whole : entries_in (set runs k new) ≡ put_front ++ e ∷ put_back
    put_whole = whole_set runs k new for.within ∙ ap (λ (l : List Entry). before ++ (l ++ behind)) put.more ∙ regrouped before (take put.place r) (e ∷ drop put.place r) behind

    pub put_free : finmap.get (tree_of (entries_in runs)) q ≡ None
    put_free = cut_absent q (entries_in runs) put_front put_back put_cut

    pub put_view : tree_of (entries_in (set runs k new)) ≡ with_entry (tree_of (entries_in runs)) e
    put_view = ap tree_of put_whole ∙ cut_view q (entries_in runs) put_front put_back put_cut e own

    pub put_count : length (entries_in (set runs k new)) ≡ length (entries_in runs) + 1
    put_count =
        let more = length-append put_front (e ∷ put_back) in
        let less = length-append put_front put_back in
        let now = ap length put_whole in
        let was = ap length put_cut.whole in
        omega (arith, more, less, now, was)

    pub put_runs : AreRuns runs → AreRuns (set runs k new)
    put_runs runs_are = record {
      order = subst InOrder (sym put_whole) (cut_order q (entries_in runs) put_front put_back put_cut runs_are.order e own);
      filled = filled_set runs k new runs_are.filled (longer new put.more);
    }
      where
        longer : (l : List Entry) → l ≡ take put.place r ++ e ∷ drop put.place r → 1 ≤ length l
        longer l same = let n = length-append (take put.place r) (e ∷ drop put.place r) in let m = ap length same in omega (arith, n, m)

-- where there is no run, nothing is found
pub nothing_without_runs : (runs : Runs) (q : List ℕ) → runs ≡ [] → finmap.get (tree_of (entries_in runs)) q ≡ None
nothing_without_runs runs q is = ap (λ (l : Runs). finmap.get (tree_of (entries_in l)) q) is ∙ get_of_view [] q

-- ---- runs that are cut

same_entries : (a b x : List Entry) (rest : List Entry) → a ++ b ≡ x → a ++ (b ++ rest) ≡ x ++ rest
same_entries a b x rest is = sym (append_assoc a b rest) ∙ ap (λ (l : List Entry). l ++ rest) is

cut_entries : (runs : Runs) (k : ℕ) (lower upper r : List Entry) → k < length runs → r ≡ get_or runs k r → lower ++ upper ≡ r
    → entries_in (insert (set runs k lower) (suc k) upper) ≡ entries_in runs
cut_entries [] k lower upper r within is cut = absurd (omega arith)
cut_entries (x ∷ runs) zero lower upper r within is cut = same_entries lower upper x (entries_in runs) (cut ∙ is)
cut_entries (x ∷ runs) (suc k) lower upper r within is cut = ap (λ (l : List Entry). x ++ l) (cut_entries runs k lower upper r (omega arith) is cut)

module _ (runs : Runs) (k : ℕ) (lower upper r : List Entry) (within : k < length runs) (is : r ≡ get_or runs k r) (cut : lower ++ upper ≡ r)
    (new : Runs) (new_is : new ≡ insert (set runs k lower) (k + 1) upper) where
  next : new ≡ insert (set runs k lower) (suc k) upper
  next = new_is ∙ ap (λ (i : ℕ). insert (set runs k lower) i upper) {x = k + 1} {y = suc k} (omega arith)

  pub cut_whole : entries_in new ≡ entries_in runs
  cut_whole = ap entries_in next ∙ cut_entries runs k lower upper r within is cut

  pub cut_runs : AreRuns runs → 1 ≤ length lower → 1 ≤ length upper → AreRuns new
  cut_runs are low up = record {
    order = subst InOrder (sym cut_whole) are.order;
    filled = subst AreFilled (sym next) (filled_insert (set runs k lower) (suc k) upper (filled_set runs k lower are.filled low) up);
  }
