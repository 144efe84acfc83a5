-- The map that a `BTreeMap` of paths is.
use Rattle.std.proofs.Common.{◌≡◌, ℕ, Bool, true, T, ◌&&◌, cond, List, [], ◌∷◌, Some, length, map as list_map, refl, sym, ap, subst, ◌∙◌}
use Rattle.std.specs.Ordering.{eq_by_cmp, is_lt}
use Rattle.std.specs.Cmp.{eq_by_cmp_equiv}
use Rattle.std.specs.Cmp.Lexicographic.{nat_list_cmp_total}
use Rattle.std.specs.declared.cmp.Ordering.{Ordering}
use Rattle.std.specs.declared.cmp.Ordering.TheVariants.{Less}
use Rattle.std.specs.List.{AllByRecursion}
use Rattle.std.specs.List.Sorted.{IsStrictlySortedBy}
use Rattle.std.specs.Map.{lookup}
use Rattle.std.specs.BTreeMap.{is_at}
use Rattle.std.specs.FinMap as map
use Rattle.std.specs.FinMap.{is_sorted, find, entries-from_sorted, get-from_sorted, len-entries, get-from_entries, get-insert, same_map, IsAntisymmetric, slice_cmp-IsAntisymmetric, nat_cmp-IsAntisymmetric}
use Rattle.std.specs.FinMap.Entries.{below_all}
use Rattle.std.proofs.lemmas.Map.Keys.{sorted_head, sorted_tail}
use Rattle.fam_base.specs.PathOrder.{path_cmp}
use Rattle.fam_base.specs.declared.entry.Entry.{Entry}

-- the entries of a `BTreeMap`, in the keys' order
abbrev pub Entries : Type 0
Entries = List (List ℕ × Entry)

-- only equal paths tie
pub path_cmp-IsAntisymmetric : IsAntisymmetric path_cmp
path_cmp-IsAntisymmetric = slice_cmp-IsAntisymmetric nat_cmp-IsAntisymmetric

find_is_lookup : (q : List ℕ) (es : Entries) → find path_cmp q es ≡ lookup (is_at (path_cmp q)) es
find_is_lookup q [] = refl
find_is_lookup q (e ∷ es) = ap (cond (eq_by_cmp path_cmp q e.0) (Some e.1)) (find_is_lookup q es)

-- what the map gives is what the `BTreeMap` gives
pub get_of_view : (es : Entries) (q : List ℕ) → map.get {R = path_cmp} (map.from_entries es) q ≡ lookup (is_at (path_cmp q)) es
get_of_view es q = get-from_entries nat_list_cmp_total es q ∙ find_is_lookup q es

pub symmetric : (q k : List ℕ) → is_at (path_cmp k) q ≡ eq_by_cmp path_cmp q k
symmetric q k = (eq_by_cmp_equiv nat_list_cmp_total).symm k q

-- ---- what a call changes

module _ (old new : Entries) (k : List ℕ) where
  -- an insert
  pub view_of_insert : (v : Entry) →
      ((q : List ℕ) → lookup (is_at (path_cmp q)) new ≡ cond (is_at (path_cmp k) q) (Some v) (lookup (is_at (path_cmp q)) old)) →
      map.from_entries {R = path_cmp} new ≡ map.insert (map.from_entries old) k v
  view_of_insert v each =
      same_map nat_list_cmp_total path_cmp-IsAntisymmetric _ _
      (λ q. get_of_view new q ∙ each q
      ∙ ap (λ (b : Bool). cond b (Some v) (lookup (is_at (path_cmp q)) old)) (symmetric q k)
      ∙ ap (cond (eq_by_cmp path_cmp q k) (Some v)) (sym (get_of_view old q))
      ∙ sym (get-insert nat_list_cmp_total (map.from_entries old) k v q))

-- ---- the order

below : (x : List ℕ) (es : Entries) → AllByRecursion (λ y. path_cmp x y ≡ Less) (list_map (λ e. e.0) es) → below_all path_cmp x es ≡ true
below x [] h = refl
below x (e ∷ es) h = ap (λ (o : Ordering). is_lt o && below_all path_cmp x es) h.0 ∙ below x es h.1

-- a `BTreeMap`'s entries are in order
pub in_order : (es : Entries) → IsStrictlySortedBy path_cmp (list_map (λ e. e.0) es) → is_sorted path_cmp es ≡ true
in_order [] h = refl
in_order (e ∷ es) h =
    ap (λ (b : Bool). b && is_sorted path_cmp es) (below e.0 es (sorted_head path_cmp e.0 (list_map (λ e. e.0) es) h))
    ∙ in_order es (sorted_tail path_cmp e.0 (list_map (λ e. e.0) es) h)

truth : (b : Bool) → b ≡ true → T b
truth b h = subst (λ (x : Bool). T x) (sym h) tt

module _ (es : Entries) (ordered : IsStrictlySortedBy path_cmp (list_map (λ e. e.0) es)) where
  -- the map's entries are the `BTreeMap`'s
  pub entries_of_view : map.entries {R = path_cmp} (map.from_entries es) ≡ es
  entries_of_view =
      let sorted : T (is_sorted path_cmp es) = truth _ (in_order es ordered) in
      ap (λ (m : map.FinMap path_cmp Entry). map.entries m)
      (same_map nat_list_cmp_total path_cmp-IsAntisymmetric (map.from_entries es) (map.from_sorted es)
      (λ q. get-from_entries nat_list_cmp_total es q ∙ sym (get-from_sorted path_cmp es q sorted)))
      ∙ entries-from_sorted path_cmp es sorted

  -- as many
  pub len_of_view : map.len {R = path_cmp} (map.from_entries es) ≡ length es
  len_of_view = len-entries (map.from_entries es) ∙ ap length entries_of_view

  -- the same values, in the same order
  pub values_of_view : list_map (λ e. e.1) es ≡ map.values {R = path_cmp} (map.from_entries es)
  values_of_view = ap (list_map (λ (e : List ℕ × Entry). e.1)) (sym entries_of_view)
