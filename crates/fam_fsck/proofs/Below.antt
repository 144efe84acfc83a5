-- Entries behind a path, and what stands at a path among entries.
use Rattle.std.proofs.Common.{◌≡◌, ℕ, Bool, true, false, cond, List, [], ◌∷◌, ◌++◌, map, Option, Some, None, refl, ap, ap₂, sym, ◌∙◌}
use Rattle.std.specs.Prelude.{is_some, ◌||◌}
use Rattle.std.specs.FinMap as finmap
use Rattle.std.specs.FinMap.{find, get-entries, get-empty, get-insert}
use Rattle.std.specs.List.{AllByRecursion, filter, fold}
use Rattle.std.specs.Ordering.{is_eq, eq_by_cmp}
use Rattle.std.specs.Cmp.Lexicographic.{nat_list_cmp_total}
use Rattle.std.specs.declared.cmp.Ordering.{Ordering}
use Rattle.std.specs.declared.cmp.Ordering.TheVariants.{Less}
use Rattle.fam_base.specs.PathOrder.{path_cmp}
use Rattle.fam_base.specs.declared.entry.Entry.{Entry}
use Rattle.fam_format.specs.Tree.{Tree, with_entry, replay}
use Rattle.fam_tree.specs.Keyed.{IsKeyed}
use Rattle.fam_fsck.proofs.PathTests.{after, along, own_path}

-- Entries behind a path.

-- all of them
abbrev pub Below : List ℕ → List Entry → Type 0
Below path es = AllByRecursion (λ y. path_cmp path y ≡ Less) (map (λ (e : Entry). e.path) es)

pub below_filter : (f : Entry → Bool) (path : List ℕ) (es : List Entry) → Below path es → Below path (filter f es)
below_filter f path [] h = h
below_filter f path (e ∷ es) h =
    let rest = below_filter f path es h.1 in
    elim (f e) as (λ b. Below path (cond b (e ∷ filter f es) (filter f es))) [ true ↦ (h.0, rest) | false ↦ rest ]

pub below_append : (path : List ℕ) (xs ys : List Entry) → Below path xs → Below path ys → Below path (xs ++ ys)
below_append path [] ys h k = k
below_append path (x ∷ xs) ys h k = (h.0, below_append path xs ys h.1 k)

pub below_before : (a b : List ℕ) (es : List Entry) → path_cmp a b ≡ Less → Below b es → Below a es
below_before a b [] h k = tt
below_before a b (e ∷ es) h k = (along a b e.path h k.0, below_before a b es h k.1)

-- What stands at a path.

-- the first entry of the list there
abbrev pub at : List Entry → List ℕ → Option Entry
at [] path = None
at (e ∷ es) path = cond (is_eq (path_cmp path e.path)) (Some e) (at es path)

-- nothing, where all stand behind it
pub at_below : (path : List ℕ) (es : List Entry) → Below path es → at es path ≡ None
at_below path [] h = refl
at_below path (e ∷ es) h = ap (λ (o : Ordering). cond (is_eq o) (Some e) (at es path)) h.0 ∙ at_below path es h.1

-- the first entry stands before it
pub at_other : (path : List ℕ) (e : Entry) (es : List Entry) → path_cmp e.path path ≡ Less → at (e ∷ es) path ≡ at es path
at_other path e es h = ap (λ (o : Ordering). cond (is_eq o) (Some e) (at es path)) (after e.path path h)

-- the first entry stands there
pub at_here : (path : List ℕ) (e : Entry) (es : List Entry) → path ≡ e.path → at (e ∷ es) path ≡ Some e
at_here path e es h = ap (λ (o : Ordering). cond (is_eq o) (Some e) (at es path)) (own_path path e.path h)

-- Among a tree's entries.

find_at : (path : List ℕ) (es : List (List ℕ × Entry)) → map (λ (e : Entry). e.path) (map (λ (e : List ℕ × Entry). e.1) es)
    ≡ map (λ (e : List ℕ × Entry). e.0) es → find path_cmp path es ≡ at (map (λ (e : List ℕ × Entry). e.1) es) path
find_at path [] h = refl
find_at path (e ∷ es) h =
    let here : e.1.path ≡ e.0 = cc in
    let rest : map (λ (x : Entry). x.path) (map (λ (x : List ℕ × Entry). x.1) es) ≡ map (λ (x : List ℕ × Entry). x.0) es = cc in
    ap₂ (λ (q : List ℕ) (o : Option Entry). cond (is_eq (path_cmp path q)) (Some e.1) o) (sym here) (find_at path es rest)

-- the tree has what its entries have
pub get_at : (tree : Tree) (path : List ℕ) → IsKeyed tree → finmap.get tree path ≡ at (finmap.values tree) path
get_at tree path keyed = get-entries tree path ∙ find_at path (finmap.entries tree) keyed

-- Among the entries of a listing.

either : (b : Bool) (e : Entry) (x y : Option Entry) → (is_some (cond b (Some e) x) || is_some y) ≡ (is_some x || is_some (cond b (Some e) y))
either true e None y = refl
either true e (Some z) y = refl
either false e x y = refl

or_nothing : (b : Bool) → b ≡ (b || false)
or_nothing true = refl
or_nothing false = refl

held_at : (tree : Tree) (es : List Entry) (path : List ℕ) → is_some (finmap.get (fold with_entry tree es) path) ≡ (is_some (finmap.get tree path) || is_some (at es path))
held_at tree [] path = or_nothing (is_some (finmap.get tree path))
held_at tree (e ∷ es) path =
    held_at (with_entry tree e) es path
    ∙ ap (λ (o : Option Entry). is_some o || is_some (at es path)) (get-insert nat_list_cmp_total tree e.path e path)
    ∙ either (eq_by_cmp path_cmp path e.path) e (finmap.get tree path) (at es path)

-- the tree of a list has what the list has
pub replayed_at : (es : List Entry) (path : List ℕ) → is_some (finmap.get (replay es) path) ≡ is_some (at es path)
replayed_at es path =
    held_at finmap.empty es path ∙ ap (λ (o : Option Entry). is_some o || is_some (at es path)) (get-empty path_cmp path)
