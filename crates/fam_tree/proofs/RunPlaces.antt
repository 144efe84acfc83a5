-- Runs of places, as runs of the entries there.
use Rattle.std.proofs.Common.{◌≡◌, ℕ, ◌+◌, ◌-◌, ◌<◌, ◌≤◌, min, true, false, List, [], ◌∷◌, ◌++◌, length, get_or, set, None, refl, sym, ap, subst, ◌∙◌, inl, inr, arith, length-append}
use Rattle.std.specs.FinMap as finmap
use Rattle.std.specs.List.{AllWithin, insert}
use Rattle.std.specs.List.Sorted.{IsPartitionedBy, IsPartitionPoint}
use Rattle.std.proofs.lemmas.Bool.{cases_lt}
use Rattle.std.proofs.lemmas.List.{drop_all, get_or-map, get_or_default, get_or_read, length-map, map-append, map-set, take_all}
use Rattle.fam_base.specs.declared.entry.Entry.{Entry}
use Rattle.fam_format.specs.Tree.{with_entry}
use Rattle.fam_tree.specs.Runs.{AllAbove, AllBelow, AreRuns, AreRunsOf, AreWithin, InOrder, IsGap, IsPut, IsRunFor, RunsWithin, ends_before, ends_below, entries_in, entry_at, listed, run_of, runs_of, tree_of}
use Rattle.fam_tree.proofs.Ordered.{all_back, all_front}
use Rattle.fam_tree.proofs.Places.{ends_told, grown_run, within_more}
use Rattle.fam_tree.proofs.Edits.{all_at, all_insert, all_set, map_insert}
use Rattle.fam_tree.proofs.Search.{ends_all, parted, placed, run_order}
use Rattle.fam_tree.proofs.Nested.{cut_runs, cut_whole, put_count, put_free, put_runs, put_view}

abbrev pub Places : Type 0
Places = List (List ℕ)

-- ---- one run

-- where it ends below a path, that would go behind it
pub end_gap : (es : List Entry) (q : List ℕ) (run : List ℕ) → AreWithin (length es) run → InOrder (run_of es run) → ends_before es q run ≡ true → IsGap (run_of es run) q (length run)
end_gap es q run within order ends =
    let count : length (run_of es run) ≡ length run = length-map run (entry_at es) in
    let all : AllBelow q (run_of es run) = ends_all q (run_of es run) order (sym (ends_told es q run within) ∙ ends) in
    record {
      within = omega (arith, count);
      below = subst (AllBelow q) (sym (take_all (length run) (run_of es run) (omega (arith, count)))) all;
      above = subst (AllAbove q) (sym (drop_all (length run) (run_of es run) (omega (arith, count)))) tt;
    }

-- ---- places within so many entries

pub runs_within_more : (n m : ℕ) (runs : Places) → n ≤ m → RunsWithin n runs → RunsWithin m runs
runs_within_more n m [] most within = tt
runs_within_more n m (run ∷ runs) most within = (within_more n m run most within.0, runs_within_more n m runs most within.1)

-- more entries change no runs of these
pub grown_runs : (es more : List Entry) (runs : Places) → RunsWithin (length es) runs → runs_of (es ++ more) runs ≡ runs_of es runs
grown_runs es more [] within = refl
grown_runs es more (run ∷ runs) within =
    ap (λ (l : List Entry). l ∷ runs_of (es ++ more) runs) (grown_run es more run within.0)
    ∙ ap (λ (l : List (List Entry)). run_of es run ∷ l) (grown_runs es more runs within.1)

-- ---- one run of some

module _ (es : List Entry) (runs : Places) (k : ℕ) (below : k < length runs) where
  pub below_map : k < length (runs_of es runs)
  below_map = subst (λ (n : ℕ). k < n) (sym (length-map runs (run_of es))) below

  -- as it is among the runs of entries
  pub run_at : (run : List ℕ) → run ≡ get_or runs k run → run_of es run ≡ get_or (runs_of es runs) k (run_of es run)
  run_at run is = ap (run_of es) is ∙ sym (get_or-map (run_of es) runs k run (run_of es run) below)

  module _ (are : AreRunsOf es runs) (run : List ℕ) (is : run ≡ get_or runs k run) where
    pub run_in_order : InOrder (run_of es run)
    run_in_order =
        subst InOrder (sym (run_at run is)) (run_order (runs_of es runs) k (run_of es run) are.held.order below_map)

    pub run_within : AreWithin (length es) run
    run_within = subst (AreWithin (length es)) (sym is) (all_at (AreWithin (length es)) runs k run are.within below)

-- ---- the search

module _ (es : List Entry) (q : List ℕ) (runs : Places) (are : AreRunsOf es runs) where
  ends_at : (k : ℕ) (d : List ℕ) (e : List Entry) → k < length runs → ends_before es q (get_or runs k d) ≡ ends_below q (get_or (runs_of es runs) k e)
  ends_at k d e below =
      ends_told es q (get_or runs k d) (all_at (AreWithin (length es)) runs k d are.within below)
      ∙ ap (ends_below q) (sym (get_or-map (run_of es) runs k d e below))

  as_many : length (runs_of es runs) ≡ length runs
  as_many = length-map runs (run_of es)

  parted_places : IsPartitionedBy (ends_before es q) runs
  parted_places i j d le below ends =
      ends_at i d [] (omega arith)
      ∙ parted q (runs_of es runs) are.held.order are.held.filled i j [] le (omega (arith, as_many)) (sym (ends_at j d [] below) ∙ ends)

  placed_places : (n m : ℕ) → m + 1 ≡ length runs → n ≤ length runs
      → IsPartitionPoint (λ r. ends_before es q r ≡ true) (λ r. ends_before es q r ≡ false) runs n → IsRunFor (runs_of es runs) q (min n m)
  placed_places n m last most point =
      placed q (runs_of es runs) are.held n m (last ∙ sym as_many) (omega (arith, as_many, most)) (
        λ k e low high. sym (ends_at k [] e (omega (arith, most, high))) ∙ point.0 k [] low high,
        λ k e low high. sym (ends_at k [] e (omega (arith, as_many, high))) ∙ point.1 k [] low (omega (arith, as_many, high)),
      )

  -- runs before one that ends below the path do so too
  pub ends_to : (m : ℕ) (run : List ℕ) → m < length runs → run ≡ get_or runs m run → ends_before es q run ≡ true → AllWithin (λ (r : List ℕ). ends_before es q r ≡ true) runs 0 (m + 1)
  ends_to m run below is ends k d low high =
      parted_places k m d (omega arith) below (ap (ends_before es q) (sym (get_or_read runs m run below is d)) ∙ ends)

  -- and those behind one that doesn't don't either
  pub ends_from : (m : ℕ) (run : List ℕ) → m < length runs → run ≡ get_or runs m run → ends_before es q run ≡ false → AllWithin (λ (r : List ℕ). ends_before es q r ≡ false) runs m (length runs - 1)
  ends_from m run below is not k d low high =
      elim (ends_before es q (get_or runs k d)) as (λ b. ends_before es q (get_or runs k d) ≡ b → b ≡ false) [
        | true ↦ λ h. absurd (cc (parted_places m k d low (omega arith) h, get_or_read runs m run below is d, not))
        | false ↦ λ h. refl
      ] refl

  -- the first run that doesn't end below the path, or else the last
  module _ (low : ℕ) (within : low + 1 ≤ length runs) (below : AllWithin (λ (r : List ℕ). ends_before es q r ≡ true) runs 0 low)
      (above : AllWithin (λ (r : List ℕ). ends_before es q r ≡ false) runs low (length runs - 1)) where
    at_last : (k : ℕ) (d : List ℕ) → k ≡ length runs - 1 → ends_before es q (get_or runs k d) ≡ ends_before es q (get_or runs (length runs - 1) [])
    at_last k d is =
        ap (λ (n : ℕ). ends_before es q (get_or runs n d)) is
        ∙ ap (ends_before es q) (get_or_default runs (length runs - 1) d [] (omega (arith, within)))

    last_ends : low ≡ length runs - 1 → ends_before es q (get_or runs (length runs - 1) []) ≡ true → IsRunFor (runs_of es runs) q low
    last_ends is ends =
        subst (IsRunFor (runs_of es runs) q) {x = min (length runs) (length runs - 1)} (omega (arith, is, within))
        (placed_places (length runs) (length runs - 1) (omega (arith, within)) (omega arith) (
          λ k d from to. elim (cases_lt k low) [
            | inl less ↦ below k d from less
            | inr not ↦ at_last k d (omega (arith, is, to, not)) ∙ ends
          ],
          λ k d from to. absurd (omega (arith, from, to)),
        ))

    last_goes_on : ends_before es q (get_or runs (length runs - 1) []) ≡ false → IsRunFor (runs_of es runs) q low
    last_goes_on not =
        subst (IsRunFor (runs_of es runs) q) {x = min low (length runs - 1)} (omega (arith, within)) (placed_places low (length runs - 1) (omega (arith, within)) (omega (arith, within)) (
          λ k d from to. below k d from to,
          λ k d from to. elim (cases_lt k (length runs - 1)) [
            | inl less ↦ above k d from less
            | inr past ↦ at_last k d (omega (arith, to, past)) ∙ not
          ],
        ))

    pub first_placed : IsRunFor (runs_of es runs) q low
    first_placed =
        elim (ends_before es q (get_or runs (length runs - 1) [])) as (λ b. ends_before es q (get_or runs (length runs - 1) []) ≡ b → IsRunFor (runs_of es runs) q low) [
          | true ↦ λ h. elim (cases_lt low (length runs - 1)) [
            | inl less ↦ absurd (cc (parted_places low (length runs - 1) [] (omega arith) (omega (arith, within)) h, above low [] (omega arith) less))
            | inr not ↦ last_ends (omega (arith, within, not)) h
          ]
          | false ↦ λ h. last_goes_on h
        ] refl

-- ---- an entry that was put into a run

module _ (es more : List Entry) (runs : Places) (k : ℕ) (run : List ℕ) (e : Entry) (are : AreRunsOf es runs) (longer : more ≡ es ++ e ∷ []) where
  count : length more ≡ length es + 1
  count = ap length longer ∙ length-append es (e ∷ [])

  runs_put : runs_of more (set runs k run) ≡ set (runs_of es runs) k (run_of more run)
  runs_put =
      map-set (run_of more) runs k run
      ∙ ap (λ (l : List (List Entry)). set l k (run_of more run)) (ap (λ (l : List Entry). runs_of l runs) longer ∙ grown_runs es (e ∷ []) runs are.within)

  within_put : AreWithin (length more) run → RunsWithin (length more) (set runs k run)
  within_put one = all_set (AreWithin (length more)) runs k run (runs_within_more (length es) (length more) runs (omega (arith, count)) are.within) one

  module _ (before : List ℕ) (for : IsRunFor (runs_of es runs) e.path k) (below : k < length runs) (is : before ≡ get_or runs k before) (put : IsPut (run_of es before) (run_of more run) e) where
    at : run_of es before ≡ get_or (runs_of es runs) k (run_of es before)
    at = run_at es runs k below before is

    pub added_free : finmap.get (tree_of (listed es runs)) e.path ≡ None
    added_free = put_free (runs_of es runs) e.path k (run_of es before) for at (run_of more run) e refl put

    pub added_view : tree_of (listed more (set runs k run)) ≡ with_entry (tree_of (listed es runs)) e
    added_view =
        ap (λ (l : List (List Entry)). tree_of (entries_in l)) runs_put ∙ put_view (runs_of es runs) e.path k (run_of es before) for at (run_of more run) e refl put

    pub added_count : length (listed more (set runs k run)) ≡ length (listed es runs) + 1
    added_count =
        ap (λ (l : List (List Entry)). length (entries_in l)) runs_put ∙ put_count (runs_of es runs) e.path k (run_of es before) for at (run_of more run) e refl put

    pub added_are : AreWithin (length more) run → AreRunsOf more (set runs k run)
    added_are inside = record {
      held = subst AreRuns (sym runs_put) (put_runs (runs_of es runs) e.path k (run_of es before) for at (run_of more run) e refl put are.held);
      within = within_put inside;
    }

-- ---- a run that is cut

module _ (es : List Entry) (runs : Places) (k : ℕ) (lower upper run : List ℕ) (below : k < length runs) (is : run ≡ get_or runs k run)
    (cut : lower ++ upper ≡ run) (new : Places) (new_is : new ≡ insert (set runs k lower) (k + 1) upper) where
  cut_of : run_of es lower ++ run_of es upper ≡ run_of es run
  cut_of = sym (map-append (entry_at es) lower upper) ∙ ap (run_of es) cut

  runs_cut : runs_of es new ≡ insert (set (runs_of es runs) k (run_of es lower)) (k + 1) (run_of es upper)
  runs_cut =
      ap (runs_of es) new_is ∙ map_insert (run_of es) (set runs k lower) (k + 1) upper
      ∙ ap (λ (l : List (List Entry)). insert l (k + 1) (run_of es upper)) (map-set (run_of es) runs k lower)

  pub listed_cut : listed es new ≡ listed es runs
  listed_cut = cut_whole (runs_of es runs) k (run_of es lower) (run_of es upper) (run_of es run) (below_map es runs k below) (run_at es runs k below run is) cut_of (runs_of es new) runs_cut

  pub are_cut : AreRunsOf es runs → 1 ≤ length lower → 1 ≤ length upper → AreRunsOf es new
  are_cut are low up =
      let parts : AreWithin (length es) (lower ++ upper) = subst (AreWithin (length es)) (sym cut) (run_within es runs k below are run is) in
      let inside = λ (i : ℕ). i < length es in
      record {
        held = cut_runs (runs_of es runs) k (run_of es lower) (run_of es upper) (run_of es run) (below_map es runs k below) (run_at es runs k below run is) cut_of (runs_of es new) runs_cut
            are.held (omega (arith, low, length-map lower (entry_at es))) (omega (arith, up, length-map upper (entry_at es)));
        within = subst (RunsWithin (length es)) (sym new_is)
            (all_insert (AreWithin (length es)) (set runs k lower) (k + 1) upper
            (all_set (AreWithin (length es)) runs k lower are.within (all_front inside lower upper parts)) (all_back inside lower upper parts));
      }
