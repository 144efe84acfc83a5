-- One pass over a tree's entries and a listing tells how they differ.
use Rattle.std.proofs.Common.{◌≡◌, ℕ, ◌+◌, Bool, true, false, cond, List, [], ◌∷◌, ◌++◌, map, length, Option, Some, None, refl, ap, sym, subst, suc, ◌∙◌, append_assoc, arith}
use Rattle.std.specs.Prelude.{not, is_some}
use Rattle.std.specs.FinMap as finmap
use Rattle.std.specs.List.{filter, fold}
use Rattle.std.specs.List.Sorted.{IsStrictlySortedBy}
use Rattle.std.specs.Option.{option_or}
use Rattle.std.specs.Ordering.{is_lt}
use Rattle.std.specs.declared.cmp.Ordering.TheVariants.{Less, Equal, Greater}
use Rattle.std.proofs.lemmas.List.Elements.{filter_agree}
use Rattle.std.proofs.lemmas.Map.Keys.{sorted_head, sorted_tail}
use Rattle.fam_base.specs.Commands.{IsListing}
use Rattle.fam_base.specs.PathOrder.{path_cmp, path_eq}
use Rattle.fam_base.specs.declared.entry.Entry.{Entry}
use Rattle.fam_format.specs.Tree.{Tree}
use Rattle.fam_tree.specs.Keyed.{IsKeyed, paths_of}
use Rattle.fam_rules.specs.declared.answers.Checked.{Checked}
use Rattle.fam_rules.specs.Checks.{checked, entry_eq, is_other, least_path}
use Rattle.fam_fsck.specs.Merge.{no_difference, first_path, with_missing, with_extra, with_changed, with_pair, passed, left, met, listing_after, compared_lists}
use Rattle.fam_fsck.proofs.Below.{Below, below_filter, below_append, below_before, at, at_below, at_other, at_here, get_at, replayed_at}
use Rattle.fam_fsck.proofs.Least.{least_of}
use Rattle.fam_fsck.proofs.PathTests.{above, same_path}

-- Two lists of entries beside each other.

-- nothing of the list stands at the entry's path
abbrev lacks : List Entry → Entry → Bool
lacks es e = not (is_some (at es e.path))

-- another entry of the list stands there
abbrev differs : List Entry → Entry → Bool
differs es e = is_other (at es e.path) e

-- two tests agree on each entry of a list
abbrev Agree : (Entry → Bool) → (Entry → Bool) → List Entry → Type 0
Agree f g [] = Unit {0}
Agree f g (e ∷ es) = (f e ≡ g e) × Agree f g es

filter_same : (f g : Entry → Bool) (es : List Entry) → Agree f g es → filter f es ≡ filter g es
filter_same f g [] h = refl
filter_same f g (e ∷ es) h = λ i. cond (h.0 i) (e ∷ filter_same f g es h.1 i) (filter_same f g es h.1 i)

agree_lacks : (x : Entry) (xs ys : List Entry) → Below x.path ys → Agree (lacks (x ∷ xs)) (lacks xs) ys
agree_lacks x xs [] h = tt
agree_lacks x xs (y ∷ ys) h = (ap (λ (o : Option Entry). not (is_some o)) (at_other y.path x xs h.0), agree_lacks x xs ys h.1)

agree_differs : (x : Entry) (xs ys : List Entry) → Below x.path ys → Agree (differs (x ∷ xs)) (differs xs) ys
agree_differs x xs [] h = tt
agree_differs x xs (y ∷ ys) h = (ap (λ (o : Option Entry). is_other o y) (at_other y.path x xs h.0), agree_differs x xs ys h.1)

module _ (x : Entry) (xs ys : List Entry) where
  -- an entry before all of a list changes nothing of what it says of them
  lacks_more : Below x.path ys → filter (lacks (x ∷ xs)) ys ≡ filter (lacks xs) ys
  lacks_more h = filter_same (lacks (x ∷ xs)) (lacks xs) ys (agree_lacks x xs ys h)

  differs_more : Below x.path ys → filter (differs (x ∷ xs)) ys ≡ filter (differs xs) ys
  differs_more h = filter_same (differs (x ∷ xs)) (differs xs) ys (agree_differs x xs ys h)

  -- an entry before all of the other list
  lacks_head : Below x.path xs → filter (lacks xs) (x ∷ ys) ≡ x ∷ filter (lacks xs) ys
  lacks_head h = ap (λ (o : Option Entry). cond (not (is_some o)) (x ∷ filter (lacks xs) ys) (filter (lacks xs) ys)) (at_below x.path xs h)

  differs_head : Below x.path xs → filter (differs xs) (x ∷ ys) ≡ filter (differs xs) ys
  differs_head h = ap (λ (o : Option Entry). cond (is_other o x) (x ∷ filter (differs xs) ys) (filter (differs xs) ys)) (at_below x.path xs h)

  -- an entry at the path of the other list's first
  lacks_pair : (y : Entry) → y.path ≡ x.path → filter (lacks (x ∷ xs)) (y ∷ ys) ≡ filter (lacks (x ∷ xs)) ys
  lacks_pair y h = ap (λ (o : Option Entry). cond (not (is_some o)) (y ∷ filter (lacks (x ∷ xs)) ys) (filter (lacks (x ∷ xs)) ys)) (at_here y.path x xs h)

  differs_pair : (y : Entry) → y.path ≡ x.path → filter (differs (x ∷ xs)) (y ∷ ys) ≡ cond (not (entry_eq x y)) (y ∷ filter (differs (x ∷ xs)) ys) (filter (differs (x ∷ xs)) ys)
  differs_pair y h = ap (λ (o : Option Entry). cond (is_other o y) (y ∷ filter (differs (x ∷ xs)) ys) (filter (differs (x ∷ xs)) ys)) (at_here y.path x xs h)

-- What they tell.

same_checked : (a b : Checked) → a.missing ≡ b.missing → a.extra ≡ b.extra → a.changed ≡ b.changed → a.first ≡ b.first → a ≡ b
same_checked a b m e c f = λ i. record { missing = m i; extra = e i; changed = c i; first = f i }

-- of entries that are missing, extra and changed
abbrev told : List Entry → List Entry → List Entry → Checked
told m e c = record { missing = length m; extra = length e; changed = length c; first = least_path (m ++ e ++ c) }

same_told : (m m' e e' c c' : List Entry) → m ≡ m' → e ≡ e' → c ≡ c' → told m e c ≡ told m' e' c'
same_told m m' e e' c c' p q r = λ i. told (p i) (q i) (r i)

-- of a tree's entries and a listing
abbrev parts : List Entry → List Entry → Checked
parts ts ls = told (filter (lacks ls) ts) (filter (lacks ts) ls) (filter (differs ts) ls)

-- what is known, and what the rest tells
abbrev plus : Checked → Checked → Checked
plus c d = record { missing = c.missing + d.missing; extra = c.extra + d.extra; changed = c.changed + d.changed; first = option_or c.first d.first }

first_known : (o : Option (List ℕ)) (e : Entry) (a b : Option (List ℕ)) → b ≡ Some e.path → option_or (first_path o e) a ≡ option_or o b
first_known None e a b h = sym h
first_known (Some q) e a b h = refl

one_more : (a n : ℕ) → (a + 1) + n ≡ a + suc n
one_more a n = omega arith

module _ (c : Checked) (e : Entry) (m x k : List Entry) (bm : Below e.path m) (bx : Below e.path x) (bk : Below e.path k) where
  told_missing : plus (with_missing c e) (told m x k) ≡ plus c (told (e ∷ m) x k)
  told_missing =
      same_checked _ _ (one_more c.missing (length m)) refl refl
      (first_known c.first e _ _ (least_of e [] (m ++ x ++ k) tt (below_append e.path (m ++ x) k (below_append e.path m x bm bx) bk)))

  told_extra : plus (with_extra c e) (told m x k) ≡ plus c (told m (e ∷ x) k)
  told_extra =
      same_checked _ _ refl (one_more c.extra (length x)) refl
      (first_known c.first e _ _ (ap least_path (append_assoc m (e ∷ x) k) ∙ least_of e m (x ++ k) bm (below_append e.path x k bx bk)))

  told_changed : plus (with_changed c e) (told m x k) ≡ plus c (told m x (e ∷ k))
  told_changed =
      same_checked _ _ refl refl (one_more c.changed (length k))
      (first_known c.first e _ _ (least_of e (m ++ x) k (below_append e.path m x bm bx) bk))

  -- where it differs
  told_pair : (same : Bool) → plus (cond same c (with_changed c e)) (told m x k) ≡ plus c (told m x (cond (not same) (e ∷ k) k))
  told_pair true = refl
  told_pair false = told_changed

-- One step.

module _ (c : Checked) (ts ls : List Entry) where
  -- the listing's first entry stands before all others
  step_extra : (e : Entry) → Below e.path ts → Below e.path ls → plus (with_extra c e) (parts ts ls) ≡ plus c (parts ts (e ∷ ls))
  step_extra e bt bl =
      told_extra c e (filter (lacks ls) ts) (filter (lacks ts) ls) (filter (differs ts) ls) (below_filter (lacks ls) e.path ts bt)
      (below_filter (lacks ts) e.path ls bl) (below_filter (differs ts) e.path ls bl)
      ∙ ap (plus c) (same_told _ _ _ _ _ _ (sym (lacks_more e ls ts bt)) (sym (lacks_head e ts ls bt)) (sym (differs_head e ts ls bt)))

  -- the tree's does
  step_missing : (t : Entry) → Below t.path ts → Below t.path ls → plus (with_missing c t) (parts ts ls) ≡ plus c (parts (t ∷ ts) ls)
  step_missing t bt bl =
      told_missing c t (filter (lacks ls) ts) (filter (lacks ts) ls) (filter (differs ts) ls) (below_filter (lacks ls) t.path ts bt)
      (below_filter (lacks ts) t.path ls bl) (below_filter (differs ts) t.path ls bl)
      ∙ ap (plus c) (same_told _ _ _ _ _ _ (sym (lacks_head t ls ts bl)) (sym (lacks_more t ts ls bl)) (sym (differs_more t ts ls bl)))

  -- both have the path
  step_pair : (t e : Entry) → e.path ≡ t.path → Below e.path ts → Below e.path ls → Below t.path ls → plus (with_pair c t e) (parts ts ls) ≡ plus c (parts (t ∷ ts) (e ∷ ls))
  step_pair t e same bt bl below =
      told_pair c e (filter (lacks ls) ts) (filter (lacks ts) ls) (filter (differs ts) ls) (below_filter (lacks ls) e.path ts bt)
      (below_filter (lacks ts) e.path ls bl) (below_filter (differs ts) e.path ls bl) (entry_eq t e)
      ∙ ap (plus c) (same_told _ _ _ _ _ _
      (sym (lacks_pair e ls ts t (sym same) ∙ lacks_more e ls ts bt))
      (sym (lacks_pair t ts ls e same ∙ lacks_more t ts ls below))
      (sym (differs_pair t ts ls e same ∙ ap (λ (k : List Entry). cond (not (entry_eq t e)) (e ∷ k) k) (differs_more t ts ls below))))

-- The pass.

head_below : (e : Entry) (es : List Entry) → IsListing (e ∷ es) → Below e.path es
head_below e es h = sorted_head path_cmp e.path (map (λ (x : Entry). x.path) es) h

tail_sorted : (e : Entry) (es : List Entry) → IsListing (e ∷ es) → IsListing es
tail_sorted e es h = sorted_tail path_cmp e.path (map (λ (x : Entry). x.path) es) h

-- entries of the listing before the tree's first
pass_told : (c : Checked) (path : List ℕ) (ts ls : List Entry) → ((q : List ℕ) → path_cmp q path ≡ Less → Below q ts) → IsListing ls
    → plus (passed path c ls) (parts ts (left path ls)) ≡ plus c (parts ts ls)
pass_told c path ts [] low h = refl
pass_told c path ts (e ∷ ls) low h =
    let rest = pass_told (with_extra c e) path ts ls low (tail_sorted e ls h) in
    elim (path_cmp e.path path) as (λ r. path_cmp e.path path ≡ r
    → plus (cond (is_lt r) (passed path (with_extra c e) ls) c) (parts ts (cond (is_lt r) (left path ls) (e ∷ ls))) ≡ plus c (parts ts (e ∷ ls))) [
      | Less ↦ λ is. rest ∙ step_extra c ts ls e (low e.path is) (head_below e ls h)
      | Equal ↦ λ is. refl
      | Greater ↦ λ is. refl
    ] refl

left_sorted : (path : List ℕ) (ls : List Entry) → IsListing ls → IsListing (left path ls)
left_sorted path [] h = h
left_sorted path (e ∷ ls) h =
    let rest = left_sorted path ls (tail_sorted e ls h) in
    elim (path_cmp e.path path) as (λ r. IsListing (cond (is_lt r) (left path ls) (e ∷ ls))) [ Less ↦ rest | Equal ↦ h | Greater ↦ h ]

-- the first entry isn't before a path
abbrev From : List ℕ → List Entry → Type 0
From path [] = Unit {0}
From path (e ∷ ls) = is_lt (path_cmp e.path path) ≡ false

left_from : (path : List ℕ) (ls : List Entry) → From path (left path ls)
left_from path [] = tt
left_from path (e ∷ ls) =
    let rest = left_from path ls in
    elim (path_cmp e.path path) as (λ r. path_cmp e.path path ≡ r → From path (cond (is_lt r) (left path ls) (e ∷ ls))) [
      | Less ↦ λ is. rest
      | Equal ↦ λ is. ap is_lt is
      | Greater ↦ λ is. ap is_lt is
    ] refl

-- the tree's first entry beside the listing's
meet_told : (c : Checked) (t : Entry) (ts ls : List Entry) → Below t.path ts → IsListing ls → From t.path ls → plus (met t c ls) (parts ts (listing_after t ls)) ≡ plus c (parts (t ∷ ts) ls)
meet_told c t ts [] bt h from = step_missing c ts [] t bt tt
meet_told c t ts (e ∷ ls) bt h from =
    let more : Below e.path ls = head_below e ls h in
    elim (path_eq e.path t.path) as (λ b. path_eq e.path t.path ≡ b → plus (cond b (with_pair c t e) (with_missing c t)) (parts ts (cond b ls (e ∷ ls))) ≡ plus c (parts (t ∷ ts) (e ∷ ls))) [
      | true ↦ λ is. (
          let same : e.path ≡ t.path = same_path e.path t.path is in
          step_pair c ts ls t e same (subst (λ (p : List ℕ). Below p ts) (sym same) bt) more (subst (λ (p : List ℕ). Below p ls) same more))
      | false ↦ λ is. (
          let less : path_cmp t.path e.path ≡ Less = above e.path t.path from is in
          step_missing c ts (e ∷ ls) t bt (less, below_before t.path e.path ls less more))
    ] refl

behind_sorted : (t : Entry) (ls : List Entry) → IsListing ls → IsListing (listing_after t ls)
behind_sorted t [] h = h
behind_sorted t (e ∷ ls) h = elim (path_eq e.path t.path) as (λ b. IsListing (cond b ls (e ∷ ls))) [ true ↦ tail_sorted e ls h | false ↦ h ]

nothing_more : (n : ℕ) → n ≡ n + 0
nothing_more n = omega arith

known_first : (o : Option (List ℕ)) → o ≡ option_or o None
known_first None = refl
known_first (Some q) = refl

-- what is left of the listing
rest_told : (c : Checked) (ls : List Entry) → IsListing ls → fold with_extra c ls ≡ plus c (parts [] ls)
rest_told c [] h = same_checked _ _ (nothing_more c.missing) (nothing_more c.extra) (nothing_more c.changed) (known_first c.first)
rest_told c (e ∷ ls) h = rest_told (with_extra c e) ls (tail_sorted e ls h) ∙ step_extra c [] ls e tt (head_below e ls h)

-- all of it
all_told : (ts ls : List Entry) (c : Checked) → IsListing ts → IsListing ls → compared_lists c ts ls ≡ plus c (parts ts ls)
all_told [] ls c ht hl = rest_told c ls hl
all_told (t ∷ ts) ls c ht hl =
    let bt : Below t.path ts = head_below t ts ht in
    let sorted : IsListing (left t.path ls) = left_sorted t.path ls hl in
    all_told ts (listing_after t (left t.path ls)) (met t (passed t.path c ls) (left t.path ls)) (tail_sorted t ts ht) (behind_sorted t (left t.path ls) sorted)
    ∙ meet_told (passed t.path c ls) t ts (left t.path ls) bt sorted (left_from t.path ls)
    ∙ pass_told c t.path (t ∷ ts) ls (λ q less. (less, below_before q t.path ts less bt)) hl

nothing_before : (n : ℕ) → 0 + n ≡ n
nothing_before n = omega arith

-- The tree.

told_of_tree : (tree : Tree) (ls : List Entry) → IsKeyed tree → parts (finmap.values tree) ls ≡ checked tree ls
unfolding checked
told_of_tree tree ls keyed =
    same_told _ _ _ _ _ _
    (filter_agree _ _ (λ (t : Entry). ap not (sym (replayed_at ls t.path))) (finmap.values tree))
    (filter_agree _ _ (λ (e : Entry). ap (λ (o : Option Entry). not (is_some o)) (sym (get_at tree e.path keyed))) ls)
    (filter_agree _ _ (λ (e : Entry). ap (λ (o : Option Entry). is_other o e) (sym (get_at tree e.path keyed))) ls)

-- the pass over a tree's entries and a listing is the check of them
pub compared_is : (tree : Tree) (ls : List Entry) → IsKeyed tree → IsStrictlySortedBy path_cmp (paths_of tree) → IsListing ls → compared_lists no_difference (finmap.values tree) ls ≡ checked tree ls
compared_is tree ls keyed ordered listing =
    all_told (finmap.values tree) ls no_difference ordered listing
    ∙ same_checked _ _ (nothing_before _) (nothing_before _) (nothing_before _) refl
    ∙ told_of_tree tree ls keyed
