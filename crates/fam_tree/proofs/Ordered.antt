-- Entries in byte order of their paths.
use Rattle.std.proofs.Common.{◌≡◌, ℕ, Bool, true, false, cond, List, [], ◌∷◌, ◌++◌, length, map as list_map, Option, Some, None, refl, sym, ap, subst, ◌∙◌}
use Rattle.std.specs.Ordering.{is_eq, ordering_reverse}
use Rattle.std.specs.Cmp.Lexicographic.{nat_list_cmp_total}
use Rattle.std.specs.declared.cmp.Ordering.TheVariants.{Less, Equal, Greater}
use Rattle.std.specs.List.{AllByRecursion}
use Rattle.std.specs.List.Sorted.{IsStrictlySortedBy}
use Rattle.std.specs.Map.{lookup}
use Rattle.std.specs.BTreeMap.{is_at}
use Rattle.std.specs.FinMap as finmap
use Rattle.fam_base.specs.PathOrder.{path_cmp}
use Rattle.fam_base.specs.declared.entry.Entry.{Entry}
use Rattle.fam_format.specs.Tree.{with_entry}
use Rattle.fam_tree.specs.Runs.{AllAbove, AllBelow, InOrder, keyed, tree_of}
use Rattle.std.proofs.lemmas.List.{length-map}
use Rattle.fam_tree.specs.Keyed.{IsKeyed, paths_of}
use Rattle.fam_tree.proofs.Views.{entries_of_view, get_of_view, len_of_view, path_cmp-IsAntisymmetric, symmetric, values_of_view, view_of_insert}

-- ---- what holds of each element

module _ {X : Type 0} (P : X → Type 0) where
  pub all_joined : (a b : List X) → AllByRecursion P a → AllByRecursion P b → AllByRecursion P (a ++ b)
  all_joined [] b h k = k
  all_joined (x ∷ a) b h k = (h.0, all_joined a b h.1 k)

  pub all_front : (a b : List X) → AllByRecursion P (a ++ b) → AllByRecursion P a
  all_front [] b h = tt
  all_front (x ∷ a) b h = (h.0, all_front a b h.1)

  pub all_back : (a b : List X) → AllByRecursion P (a ++ b) → AllByRecursion P b
  all_back [] b h = h
  all_back (x ∷ a) b h = all_back a b h.1

-- ---- the order of two paths

-- a lower path isn't met from above
above_is_no_tie : (p q : List ℕ) → path_cmp p q ≡ Less → is_eq (path_cmp q p) ≡ false
above_is_no_tie p q less = ap is_eq (nat_list_cmp_total.antisymm q p ∙ ap ordering_reverse less)

-- nor from below
below_is_no_tie : (p q : List ℕ) → path_cmp p q ≡ Less → is_eq (path_cmp p q) ≡ false
below_is_no_tie p q less = ap is_eq less

pub above_weaker : (p q : List ℕ) (es : List Entry) → path_cmp p q ≡ Less → AllAbove q es → AllAbove p es
above_weaker p q [] less h = tt
above_weaker p q (e ∷ es) less h = (nat_list_cmp_total.trans p q e.path less h.0, above_weaker p q es less h.1)

-- a path ties with itself
pub itself : (q : List ℕ) → path_cmp q q ≡ Equal
itself q = elim (path_cmp q q) as (λ o. path_cmp q q ≡ o → path_cmp q q ≡ Equal) [
  | Less ↦ λ is. absurd (cc (is, nat_list_cmp_total.antisymm q q ∙ ap ordering_reverse is))
  | Equal ↦ λ is. is
  | Greater ↦ λ is. absurd (cc (is, nat_list_cmp_total.antisymm q q ∙ ap ordering_reverse is))
] refl

-- ---- parts of entries in order

pub order_front : (a b : List Entry) → InOrder (a ++ b) → InOrder a
order_front [] b h = tt
order_front (x ∷ a) b h = (all_front (λ (e : Entry). path_cmp x.path e.path ≡ Less) a b h.0, order_front a b h.1)

pub order_back : (a b : List Entry) → InOrder (a ++ b) → InOrder b
order_back [] b h = h
order_back (x ∷ a) b h = order_back a b h.1

-- what stands around an entry
pub below_held : (a b : List Entry) (e : Entry) → InOrder (a ++ e ∷ b) → AllBelow e.path a
below_held [] b e h = tt
below_held (x ∷ a) b e h = let behind = all_back (λ (y : Entry). path_cmp x.path y.path ≡ Less) a (e ∷ b) h.0 in (behind.0, below_held a b e h.1)

-- one more between them
pub order_with : (a b : List Entry) (e : Entry) → InOrder (a ++ b) → AllBelow e.path a → AllAbove e.path b → InOrder (a ++ e ∷ b)
order_with [] b e order below above = (above, order)
order_with (x ∷ a) b e order below above =
    let over = λ (y : Entry). path_cmp x.path y.path ≡ Less in
    (all_joined over a (e ∷ b) (all_front over a b order.0) (below.0, all_back over a b order.0), order_with a b e order.1 below.1 above)

-- ---- what is found

-- nothing, where all is below or above
pub absent : (q : List ℕ) (a b : List Entry) → AllBelow q a → AllAbove q b → lookup (is_at (path_cmp q)) (keyed (a ++ b)) ≡ None
absent q [] [] below above = refl
absent q [] (x ∷ b) below above =
    ap (λ (t : Bool). cond t (Some x) (lookup (is_at (path_cmp q)) (keyed b))) (below_is_no_tie q x.path above.0) ∙ absent q [] b below above.1
absent q (x ∷ a) b below above =
    ap (λ (t : Bool). cond t (Some x) (lookup (is_at (path_cmp q)) (keyed (a ++ b)))) (above_is_no_tie x.path q below.0) ∙ absent q a b below.1 above

-- of two choices the one that can't hold comes first
exchange : (s t : Bool) (x e : Entry) (rest : Option Entry) → (s ≡ true → t ≡ false) → cond s (Some x) (cond t (Some e) rest) ≡ cond t (Some e) (cond s (Some x) rest)
exchange true true x e rest apart = absurd (cc (apart refl))
exchange true false x e rest apart = refl
exchange false true x e rest apart = refl
exchange false false x e rest apart = refl

tie : (p x : List ℕ) → is_eq (path_cmp p x) ≡ true → p ≡ x
tie p x same = elim (path_cmp p x) as (λ o. path_cmp p x ≡ o → is_eq o ≡ true → p ≡ x) [
  | Less ↦ λ is t. absurd (cc (t))
  | Equal ↦ λ is t. path_cmp-IsAntisymmetric p x is
  | Greater ↦ λ is t. absurd (cc (t))
] refl same

-- a path that ties with a lower one doesn't tie with an entry
apart : (p x e : List ℕ) → path_cmp x e ≡ Less → is_eq (path_cmp p x) ≡ true → is_eq (path_cmp e p) ≡ false
apart p x e less same = ap (λ (q : List ℕ). is_eq (path_cmp e q)) (tie p x same) ∙ above_is_no_tie x e less

-- one more entry is found at its path, and the others where they were
pub seen : (p : List ℕ) (a b : List Entry) (e : Entry) → AllBelow e.path a
    → lookup (is_at (path_cmp p)) (keyed (a ++ e ∷ b)) ≡ cond (is_at (path_cmp e.path) p) (Some e) (lookup (is_at (path_cmp p)) (keyed (a ++ b)))
seen p [] b e below = ap (λ (t : Bool). cond t (Some e) (lookup (is_at (path_cmp p)) (keyed b))) (sym (symmetric p e.path))
seen p (x ∷ a) b e below =
    ap (cond (is_eq (path_cmp p x.path)) (Some x)) (seen p a b e below.1)
    ∙ exchange (is_eq (path_cmp p x.path)) (is_eq (path_cmp e.path p)) x e (lookup (is_at (path_cmp p)) (keyed (a ++ b))) (apart p x.path e.path below.0)

-- ---- a gap for a path, and what it is for

pub record IsCut (q : List ℕ) (es before after : List Entry) : Type 0 where
  pub whole : es ≡ before ++ after
  pub below : AllBelow q before
  pub above : AllAbove q after

module _ (q : List ℕ) (es before after : List Entry) (cut : IsCut q es before after) where
  pub cut_absent : finmap.get (tree_of es) q ≡ None
  cut_absent = get_of_view (keyed es) q ∙ ap (λ (l : List Entry). lookup (is_at (path_cmp q)) (keyed l)) cut.whole ∙ absent q before after cut.below cut.above

  pub cut_order : InOrder es → (e : Entry) → e.path ≡ q → InOrder (before ++ e ∷ after)
  cut_order order e own =
      order_with before after e (subst InOrder cut.whole order) (subst (λ (p : List ℕ). AllBelow p before) (sym own) cut.below) (subst (λ (p : List ℕ). AllAbove p after) (sym own) cut.above)

  pub cut_view : (e : Entry) → e.path ≡ q → tree_of (before ++ e ∷ after) ≡ with_entry (tree_of es) e
  cut_view e own =
      let below = subst (λ (p : List ℕ). AllBelow p before) (sym own) cut.below in
      view_of_insert (keyed es) (keyed (before ++ e ∷ after)) e.path e
      (λ p. seen p before after e below ∙ ap (λ (l : List Entry). cond (is_at (path_cmp e.path) p) (Some e) (lookup (is_at (path_cmp p)) (keyed l))) (sym cut.whole))

-- ---- an entry that is held

pub record IsHeld (es before : List Entry) (e : Entry) (after : List Entry) : Type 0 where
  pub whole : es ≡ before ++ e ∷ after
  pub order : InOrder es

module _ (es before : List Entry) (e : Entry) (after : List Entry) (held : IsHeld es before e after) where
  inner : InOrder (before ++ e ∷ after)
  inner = subst InOrder held.whole held.order

  at_each : (p : List ℕ) → lookup (is_at (path_cmp p)) (keyed es) ≡ cond (is_at (path_cmp e.path) p) (Some e) (lookup (is_at (path_cmp p)) (keyed (before ++ after)))
  at_each p = ap (λ (l : List Entry). lookup (is_at (path_cmp p)) (keyed l)) held.whole ∙ seen p before after e (below_held before after e inner)

  pub held_found : finmap.get (tree_of es) e.path ≡ Some e
  held_found =
      get_of_view (keyed es) e.path ∙ at_each e.path
      ∙ ap (λ (t : Bool). cond t (Some e) (lookup (is_at (path_cmp e.path)) (keyed (before ++ after)))) (ap is_eq (itself e.path))

-- ---- order as std has it

pub sorted_paths : (es : List Entry) → InOrder es → IsStrictlySortedBy path_cmp (list_map (λ (e : Entry). e.path) es)
unfolding IsStrictlySortedBy
sorted_paths [] h = tt
sorted_paths (e ∷ es) h = (all_paths es h.0, sorted_paths es h.1)
  where
    all_paths : (l : List Entry) → AllAbove e.path l → AllByRecursion (λ y. path_cmp e.path y ≡ Less) (list_map (λ (x : Entry). x.path) l)
    all_paths [] k = tt
    all_paths (x ∷ l) k = (k.0, all_paths l k.1)

keyed_paths : (es : List Entry) → list_map (λ (e : List ℕ × Entry). e.0) (keyed es) ≡ list_map (λ (e : Entry). e.path) es
keyed_paths [] = refl
keyed_paths (e ∷ es) = ap (λ (l : List (List ℕ)). e.path ∷ l) (keyed_paths es)

keyed_entries : (es : List Entry) → list_map (λ (e : List ℕ × Entry). e.1) (keyed es) ≡ es
keyed_entries [] = refl
keyed_entries (e ∷ es) = ap (λ (l : List Entry). e ∷ l) (keyed_entries es)

module _ (es : List Entry) (order : InOrder es) where
  sorted : IsStrictlySortedBy path_cmp (list_map (λ (e : List ℕ × Entry). e.0) (keyed es))
  sorted = subst (λ (l : List (List ℕ)). IsStrictlySortedBy path_cmp l) (sym (keyed_paths es)) (sorted_paths es order)

  -- a tree has as many entries
  pub tree_len : finmap.len (tree_of es) ≡ length es
  tree_len = len_of_view (keyed es) sorted ∙ length-map es (λ (e : Entry). (e.path, e))

  -- the same, in the same order
  pub tree_values : finmap.values (tree_of es) ≡ es
  tree_values = sym (values_of_view (keyed es) sorted) ∙ keyed_entries es

  -- each under its own path
  pub tree_is_keyed : IsKeyed (tree_of es)
  tree_is_keyed =
      ap (λ (l : List Entry). list_map (λ (e : Entry). e.path) l) tree_values ∙ sym (keyed_paths es)
      ∙ ap (λ (l : List (List ℕ × Entry)). list_map (λ (e : List ℕ × Entry). e.0) l) (sym (entries_of_view (keyed es) sorted))

  -- and their paths rise
  pub tree_in_order : IsStrictlySortedBy path_cmp (paths_of (tree_of es))
  tree_in_order = subst (λ (l : List Entry). IsStrictlySortedBy path_cmp (list_map (λ (e : Entry). e.path) l)) (sym tree_values) (sorted_paths es order)
