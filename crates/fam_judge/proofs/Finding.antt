-- What stands at a path among entries, and in the tree of a listing.
use Rattle.std.proofs.Common.{◌≡◌, ℕ, Bool, true, false, cond, T, ◌&&◌, List, [], ◌∷◌, map, length, Option, Some, None, refl, ap, ap₂, sym, subst, ◌∙◌}
use Rattle.std.specs.Prelude.{is_some, ◌||◌}
use Rattle.std.specs.FinMap as finmap
use Rattle.std.specs.FinMap.{find, is_sorted, put, entries-insert, entries_sorted, get-empty, get-entries, get-insert, len-empty, len-entries}
use Rattle.std.specs.FinMap.Entries.{below_all, by_order}
use Rattle.std.specs.List.{fold}
use Rattle.std.specs.Ordering.{eq_by_cmp, is_eq, is_lt, ordering_reverse}
use Rattle.std.specs.Cmp.Lexicographic.{nat_list_cmp_total}
use Rattle.std.specs.declared.cmp.Ordering.{Ordering}
use Rattle.std.specs.declared.cmp.Ordering.TheVariants.{Less, Equal, Greater}
use Rattle.std.proofs.lemmas.List.{length-map}
use Rattle.fam_base.specs.declared.entry.Entry.{Entry}
use Rattle.fam_base.specs.PathOrder.{path_cmp}
use Rattle.fam_format.specs.Tree.{Tree, replay, with_entry}
use Rattle.fam_tree.proofs.Ordered.{itself}
use Rattle.fam_tree.proofs.Views.{path_cmp-IsAntisymmetric}
use Rattle.fam_tree.specs.Keyed.{IsKeyed}
use Rattle.fam_tree.specs.Runs.{AllAbove, InOrder}

-- The order of two paths.

-- turned round
pub after : (a b : List ℕ) → path_cmp a b ≡ Less → path_cmp b a ≡ Greater
after a b less = nat_list_cmp_total.antisymm b a ∙ ap ordering_reverse less

-- and back
pub before : (a b : List ℕ) → path_cmp a b ≡ Greater → path_cmp b a ≡ Less
before a b greater = nat_list_cmp_total.antisymm b a ∙ ap ordering_reverse greater

-- Among entries.

-- the first entry at a path
abbrev pub at : List Entry → List ℕ → Option Entry
at [] path = None
at (e ∷ es) path = cond (is_eq (path_cmp path e.path)) (Some e) (at es path)

-- nothing, where all stand behind it
pub at_above : (path : List ℕ) (es : List Entry) → AllAbove path es → at es path ≡ None
at_above path [] above = refl
at_above path (e ∷ es) above = ap (λ (o : Ordering). cond (is_eq o) (Some e) (at es path)) above.0 ∙ at_above path es above.1

-- the first entry stands before it
pub at_other : (path : List ℕ) (e : Entry) (es : List Entry) → path_cmp e.path path ≡ Less → at (e ∷ es) path ≡ at es path
at_other path e es less = ap (λ (o : Ordering). cond (is_eq o) (Some e) (at es path)) (after e.path path less)

-- the first entry stands there
pub at_here : (path : List ℕ) (e : Entry) (es : List Entry) → e.path ≡ path → at (e ∷ es) path ≡ Some e
at_here path e es own =
    ap (λ (o : Ordering). cond (is_eq o) (Some e) (at es path)) (ap (λ (p : List ℕ). path_cmp path p) own ∙ itself path)

-- In a tree whose entries stand under their own paths.

-- each stands under its own
abbrev AreOwn : List (List ℕ × Entry) → Type 0
AreOwn es = map (λ (e : Entry). e.path) (map (λ (e : List ℕ × Entry). e.1) es) ≡ map (λ (e : List ℕ × Entry). e.0) es

own_first : (e : List ℕ × Entry) (es : List (List ℕ × Entry)) → AreOwn (e ∷ es) → e.1.path ≡ e.0
own_first e es own = cc

own_rest : (e : List ℕ × Entry) (es : List (List ℕ × Entry)) → AreOwn (e ∷ es) → AreOwn es
own_rest e es own = cc

find_at : (path : List ℕ) (es : List (List ℕ × Entry)) → AreOwn es → find path_cmp path es ≡ at (map (λ (e : List ℕ × Entry). e.1) es) path
find_at path [] own = refl
find_at path (e ∷ es) own =
    ap₂ (λ (q : List ℕ) (o : Option Entry). cond (is_eq (path_cmp path q)) (Some e.1) o) (sym (own_first e es own))
    (find_at path es (own_rest e es own))

-- the tree has what its entries have
pub get_at : (tree : Tree) (path : List ℕ) → IsKeyed tree → finmap.get tree path ≡ at (finmap.values tree) path
get_at tree path keyed = get-entries tree path ∙ find_at path (finmap.entries tree) keyed

both : (a b : Bool) → T (a && b) → T a × T b
both true b h = (tt, h)
both false b h = absurd h

less : (o : Ordering) → T (is_lt o) → o ≡ Less
less Less h = refl
less Equal h = absurd h
less Greater h = absurd h

all_above : (path : List ℕ) (es : List (List ℕ × Entry)) → AreOwn es → T (below_all path_cmp path es)
    → AllAbove path (map (λ (e : List ℕ × Entry). e.1) es)
all_above path [] own h = tt
all_above path (e ∷ es) own h =
    let parts = both (is_lt (path_cmp path e.0)) (below_all path_cmp path es) h in
    (ap (path_cmp path) (own_first e es own) ∙ less _ parts.0, all_above path es (own_rest e es own) parts.1)

all_in_order : (es : List (List ℕ × Entry)) → AreOwn es → T (is_sorted path_cmp es) → InOrder (map (λ (e : List ℕ × Entry). e.1) es)
all_in_order [] own h = tt
all_in_order (e ∷ es) own h =
    let parts = both (below_all path_cmp e.0 es) (is_sorted path_cmp es) h in
    let above = all_above e.0 es (own_rest e es own) parts.0 in (
      subst (λ (p : List ℕ). AllAbove p (map (λ (e : List ℕ × Entry). e.1) es)) (sym (own_first e es own)) above,
      all_in_order es (own_rest e es own) parts.1,
    )

-- they are in order
pub values_in_order : (tree : Tree) → IsKeyed tree → InOrder (finmap.values tree)
values_in_order tree keyed = all_in_order (finmap.entries tree) keyed (entries_sorted tree)

-- as many as the tree has
pub values_count : (tree : Tree) → length (finmap.values tree) ≡ finmap.len tree
values_count tree = length-map (finmap.entries tree) (λ (e : List ℕ × Entry). e.1) ∙ sym (len-entries tree)

-- In the tree of a listing.

either : (b : Bool) (e : Entry) (x y : Option Entry)
    → (is_some (cond b (Some e) x) || is_some y) ≡ (is_some x || is_some (cond b (Some e) y))
either true e None y = refl
either true e (Some z) y = refl
either false e x y = refl

or_nothing : (b : Bool) → b ≡ (b || false)
or_nothing true = refl
or_nothing false = refl

held_at : (tree : Tree) (es : List Entry) (path : List ℕ)
    → is_some (finmap.get (fold with_entry tree es) path) ≡ (is_some (finmap.get tree path) || is_some (at es path))
held_at tree [] path = or_nothing (is_some (finmap.get tree path))
held_at tree (e ∷ es) path =
    held_at (with_entry tree e) es path
    ∙ ap (λ (o : Option Entry). is_some o || is_some (at es path)) (get-insert nat_list_cmp_total tree e.path e path)
    ∙ either (eq_by_cmp path_cmp path e.path) e (finmap.get tree path) (at es path)

-- it has the paths that the listing has
pub replayed_at : (es : List Entry) (path : List ℕ) → is_some (finmap.get (replay es) path) ≡ is_some (at es path)
replayed_at es path =
    held_at finmap.empty es path ∙ ap (λ (o : Option Entry). is_some o || is_some (at es path)) (get-empty path_cmp path)

own_put : (new : Entry) (es : List (List ℕ × Entry)) → AreOwn es → AreOwn (put path_cmp new.path new es)
own_put new [] own = refl
own_put new (e ∷ es) own =
    let rest = own_put new es (own_rest e es own) in
    elim (path_cmp new.path e.0) as (λ o. path_cmp new.path e.0 ≡ o
    → AreOwn (by_order o ((new.path, new) ∷ e ∷ es) ((e.0, new) ∷ es) (e ∷ put path_cmp new.path new es))) [
      | Less ↦ λ is. ap (λ (l : List (List ℕ)). new.path ∷ l) own
      | Equal ↦ λ is. ap₂ (λ (p : List ℕ) (l : List (List ℕ)). p ∷ l) (path_cmp-IsAntisymmetric new.path e.0 is) (own_rest e es own)
      | Greater ↦ λ is. ap₂ (λ (p : List ℕ) (l : List (List ℕ)). p ∷ l) (own_first e es own) rest
    ] refl

keyed_with : (tree : Tree) (e : Entry) → IsKeyed tree → IsKeyed (with_entry tree e)
keyed_with tree e keyed = subst AreOwn (sym (entries-insert nat_list_cmp_total tree e.path e)) (own_put e (finmap.entries tree) keyed)

keyed_fold : (tree : Tree) (es : List Entry) → IsKeyed tree → IsKeyed (fold with_entry tree es)
keyed_fold tree [] keyed = keyed
keyed_fold tree (e ∷ es) keyed = keyed_fold (with_entry tree e) es (keyed_with tree e keyed)

own_none : (es : List (List ℕ × Entry)) → length es ≡ 0 → AreOwn es
own_none [] none = refl
own_none (e ∷ es) none = absurd cc

keyed_empty : IsKeyed finmap.empty
keyed_empty = own_none (finmap.entries finmap.empty) (sym (len-entries finmap.empty) ∙ len-empty path_cmp Entry)

-- its entries stand under their own paths
pub replay_keyed : (es : List Entry) → IsKeyed (replay es)
replay_keyed es = keyed_fold finmap.empty es keyed_empty
