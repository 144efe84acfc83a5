-- The tree of entries whose paths rise, and the entries of a tree.
use Rattle.std.proofs.Common.{◌≡◌, ℕ, Bool, true, false, List, [], ◌∷◌, ◌++◌, map, Some, None, refl, ap, ap₂, sym, subst, ◌∙◌, append_assoc}
use Rattle.std.specs.Prelude.{T, ◌&&◌, fold}
use Rattle.std.specs.FinMap as finmap
use Rattle.std.specs.FinMap.{is_sorted, put}
use Rattle.std.specs.FinMap.Entries.{below_all, by_order}
use Rattle.std.specs.Ordering.{is_lt}
use Rattle.std.specs.Cmp.Lexicographic.{nat_list_cmp_total}
use Rattle.std.specs.declared.cmp.Ordering.{Ordering}
use Rattle.std.specs.declared.cmp.Ordering.TheVariants.{Less, Equal, Greater}
use Rattle.fam_base.specs.declared.entry.Entry.{Entry}
use Rattle.fam_base.specs.PathOrder.{path_cmp}
use Rattle.fam_format.specs.Tree.{Tree, replay, with_entry}
use Rattle.fam_tree.specs.Keyed.{IsKeyed}
use Rattle.fam_tree.specs.Runs.{AllAbove, InOrder, tree_of}
use Rattle.fam_tree.proofs.Ordered.{above_weaker, below_held, cut_view, tree_is_keyed, tree_values}
use Rattle.fam_tree.proofs.Views.{path_cmp-IsAntisymmetric}
use Rattle.fam_lines.specs.Resolved.{rise_behind}

-- Tests.

holds : (b : Bool) → b ≡ true → T b
holds true e = tt
holds false e = absurd cc

parts : (a b : Bool) → T (a && b) → (a ≡ true) × (b ≡ true)
parts true true h = (refl, refl)
parts true false h = absurd h
parts false b h = absurd h

-- Paths that rise.

less : (o : Ordering) → is_lt o ≡ true → o ≡ Less
less Less e = refl
less Equal e = absurd cc
less Greater e = absurd cc

left : (a b : Bool) → (a && b) ≡ true → a ≡ true
left true b e = refl
left false b e = absurd cc

right : (a b : Bool) → (a && b) ≡ true → b ≡ true
right true b e = e
right false b e = absurd cc

rise_all : (p : List ℕ) (es : List Entry) → rise_behind (Some p) es ≡ true → AllAbove p es × InOrder es
rise_all p [] h = (tt, tt)
rise_all p (e ∷ es) h =
    let low = less (path_cmp p e.path) (left (is_lt (path_cmp p e.path)) _ h) in
    let rest = rise_all e.path es (right (is_lt (path_cmp p e.path)) _ h) in
    ((low, above_weaker p e.path es low rest.0), rest)

-- they are in order
pub in_order : (es : List Entry) → rise_behind None es ≡ true → InOrder es
in_order [] h = tt
in_order (e ∷ es) h = rise_all e.path es h

rises_behind : (p : List ℕ) (es : List Entry) → AllAbove p es → InOrder es → rise_behind (Some p) es ≡ true
rises_behind p [] above order = refl
rises_behind p (e ∷ es) above order = ap (λ (o : Ordering). is_lt o && rise_behind (Some e.path) es) above.0 ∙ rises_behind e.path es order.0 order.1

-- and the other way about
pub rises : (es : List Entry) → InOrder es → rise_behind None es ≡ true
rises [] order = refl
rises (e ∷ es) order = rises_behind e.path es order.0 order.1

-- The tree of such entries.

no_more : (a : List Entry) → a ++ [] ≡ a
no_more [] = refl
no_more (e ∷ a) = ap (λ (l : List Entry). e ∷ l) (no_more a)

fold_more : (a b : List Entry) → InOrder (a ++ b) → fold with_entry (tree_of a) b ≡ tree_of (a ++ b)
fold_more a [] order = ap tree_of (sym (no_more a))
fold_more a (e ∷ b) order =
    let again : (a ++ e ∷ []) ++ b ≡ a ++ e ∷ b = append_assoc a (e ∷ []) b in
    ap (λ (t : Tree). fold with_entry t b)
    (sym (cut_view e.path a a [] (record { whole = sym (no_more a); below = below_held a b e order; above = tt }) e refl))
    ∙ fold_more (a ++ e ∷ []) b (subst InOrder (sym again) order) ∙ ap tree_of again

-- they are the tree's
replay_is : (es : List Entry) → InOrder es → replay es ≡ tree_of es
replay_is es order = fold_more [] es order

-- in their order
pub replayed_values : (es : List Entry) → InOrder es → finmap.values (replay es) ≡ es
replayed_values es order = ap finmap.values (replay_is es order) ∙ tree_values es order

-- The entries of a tree.

-- each under its own path
Own : List (List ℕ × Entry) → Type 0
Own es = map (λ (e : Entry). e.path) (map (λ (e : List ℕ × Entry). e.1) es) ≡ map (λ (e : List ℕ × Entry). e.0) es

own_put : (e : Entry) (es : List (List ℕ × Entry)) → Own es → Own (put path_cmp e.path e es)
unfolding Own
own_put e [] own = refl
own_put e (x ∷ es) own =
    let here : x.1.path ≡ x.0 = cc in
    let rest : map (λ (y : Entry). y.path) (map (λ (y : List ℕ × Entry). y.1) es) ≡ map (λ (y : List ℕ × Entry). y.0) es = cc in
    elim (path_cmp e.path x.0) as (λ o. path_cmp e.path x.0 ≡ o → Own (by_order o ((e.path, e) ∷ x ∷ es) ((x.0, e) ∷ es) (x ∷ put path_cmp e.path e es))) [
      | Less ↦ λ is. ap (λ (l : List (List ℕ)). e.path ∷ l) own
      | Equal ↦ λ is. ap₂ (λ (p : List ℕ) (l : List (List ℕ)). p ∷ l) (path_cmp-IsAntisymmetric e.path x.0 is) rest
      | Greater ↦ λ is. ap₂ (λ (p : List ℕ) (l : List (List ℕ)). p ∷ l) here (own_put e es rest)
    ] refl

keyed_with : (tree : Tree) (e : Entry) → IsKeyed tree → IsKeyed (with_entry tree e)
unfolding Own
keyed_with tree e keyed = subst Own (sym (finmap.entries-insert nat_list_cmp_total tree e.path e)) (own_put e (finmap.entries tree) keyed)

keyed_fold : (tree : Tree) (es : List Entry) → IsKeyed tree → IsKeyed (fold with_entry tree es)
keyed_fold tree [] keyed = keyed
keyed_fold tree (e ∷ es) keyed = keyed_fold (with_entry tree e) es (keyed_with tree e keyed)

-- of entries, in whatever order
pub keyed_replay : (es : List Entry) → IsKeyed (replay es)
keyed_replay es = keyed_fold finmap.empty es (tree_is_keyed [] tt)

-- an entry is in front of all that stand behind it
above : (x : List ℕ × Entry) (es : List (List ℕ × Entry)) → x.1.path ≡ x.0 → Own es → T (below_all path_cmp x.0 es) → AllAbove x.1.path (map (λ (e : List ℕ × Entry). e.1) es)
unfolding Own
above x [] own rest low = tt
above x (e ∷ es) own rest low =
    let here : e.1.path ≡ e.0 = cc in
    let more : map (λ (y : Entry). y.path) (map (λ (y : List ℕ × Entry). y.1) es) ≡ map (λ (y : List ℕ × Entry). y.0) es = cc in
    let both = parts (is_lt (path_cmp x.0 e.0)) (below_all path_cmp x.0 es) low in
    (ap₂ path_cmp own here ∙ less (path_cmp x.0 e.0) both.0, above x es own more (holds (below_all path_cmp x.0 es) both.1))

in_order_of : (es : List (List ℕ × Entry)) → Own es → T (is_sorted path_cmp es) → InOrder (map (λ (e : List ℕ × Entry). e.1) es)
unfolding Own
in_order_of [] own sorted = tt
in_order_of (x ∷ es) own sorted =
    let here : x.1.path ≡ x.0 = cc in
    let rest : map (λ (y : Entry). y.path) (map (λ (y : List ℕ × Entry). y.1) es) ≡ map (λ (y : List ℕ × Entry). y.0) es = cc in
    let both = parts (below_all path_cmp x.0 es) (is_sorted path_cmp es) sorted in
    (above x es here rest (holds (below_all path_cmp x.0 es) both.0), in_order_of es rest (holds (is_sorted path_cmp es) both.1))

-- a tree's entries are in the order of their paths
pub tree_in_order : (tree : Tree) → IsKeyed tree → InOrder (finmap.values tree)
unfolding Own
tree_in_order tree keyed = in_order_of (finmap.entries tree) keyed (finmap.entries_sorted tree)

same_pairs : (a b : List (List ℕ × Entry)) → map (λ (e : List ℕ × Entry). e.0) a ≡ map (λ (e : List ℕ × Entry). e.0) b
    → map (λ (e : List ℕ × Entry). e.1) a ≡ map (λ (e : List ℕ × Entry). e.1) b → a ≡ b
same_pairs [] [] keys values = refl
same_pairs [] (y ∷ b) keys values = absurd cc
same_pairs (x ∷ a) [] keys values = absurd cc
same_pairs (x ∷ a) (y ∷ b) keys values =
    let path : x.0 ≡ y.0 = cc in
    let entry : x.1 ≡ y.1 = cc in
    let paths : map (λ (e : List ℕ × Entry). e.0) a ≡ map (λ (e : List ℕ × Entry). e.0) b = cc in
    let entries : map (λ (e : List ℕ × Entry). e.1) a ≡ map (λ (e : List ℕ × Entry). e.1) b = cc in
    λ i. (path i, entry i) ∷ same_pairs a b paths entries i

-- and it is theirs
pub values_replayed : (tree : Tree) → IsKeyed tree → replay (finmap.values tree) ≡ tree
values_replayed tree keyed =
    let order = tree_in_order tree keyed in
    let values = tree_values (finmap.values tree) order in
    replay_is (finmap.values tree) order
    ∙ finmap.same_entries_map (tree_of (finmap.values tree)) tree
    (same_pairs (finmap.entries (tree_of (finmap.values tree))) (finmap.entries tree)
    (sym (tree_is_keyed (finmap.values tree) order) ∙ ap (map (λ (e : Entry). e.path)) values ∙ keyed) values)
