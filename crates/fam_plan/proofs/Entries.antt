-- The entries of a tree in the order of paths.
use Rattle.std.proofs.Common.{◌≡◌, ℕ, zero, suc, Bool, cond, List, [], ◌∷◌, ◌++◌, length, Option, Some, None, refl, sym, ap, subst, ◌∙◌}
use Rattle.std.specs.Prelude.{IsSome}
use Rattle.std.specs.List.{slice_get, cons_option}
use Rattle.std.specs.Option.{is_some, option_and_then}
use Rattle.std.specs.Ordering.{is_eq}
use Rattle.std.specs.Cmp.{eq_by_cmp_equiv}
use Rattle.std.specs.Cmp.Lexicographic.{nat_list_cmp_total}
use Rattle.std.specs.declared.cmp.Ordering.TheVariants.{Less, Equal, Greater}
use Rattle.std.specs.FinMap as finmap
use Rattle.std.specs.FinMap.{get-insert, get_tied}
use Rattle.std.proofs.lemmas.List.{map-append}
use Rattle.std.proofs.lemmas.List.Elements.{filter_map-append}
use Rattle.fam_base.specs.PathOrder.{path_cmp}
use Rattle.fam_base.specs.declared.entry.Entry.{Entry}
use Rattle.fam_format.specs.declared.faults.Reason.{Reason}
use Rattle.fam_format.specs.Stop.{or_else}
use Rattle.fam_format.specs.Tree.{Tree, with_entry, exists_fault, tree_fault}
use Rattle.fam_plan.specs.State.{entries_at, paths_in, AreHeld}

some_is_no_none : (o : Option Entry) → IsSome o → o ≡ None → ⊥
some_is_no_none None held none = cc (held)
some_is_no_none (Some e) held none = cc (none)

or_none : (held : Option Entry) (next : Option Reason) → or_else (exists_fault held) next ≡ None → held ≡ None
or_none None next fits = refl
or_none (Some old) next fits = absurd (cc (fits))

-- nothing stands where an entry fits
pub free_there : (tree : Tree) (e : Entry) → tree_fault tree e ≡ None → finmap.get tree e.path ≡ None
free_there tree e fits = or_none (finmap.get tree e.path) _ fits

module _ (tree : Tree) (k : List ℕ) (e : Entry) (free : finmap.get tree k ≡ None) where
  -- what stands elsewhere stays
  pub still_there : (q : List ℕ) → IsSome (finmap.get tree q) → finmap.get (finmap.insert tree k e) q ≡ finmap.get tree q
  still_there q held =
      let same : (path_cmp q k ≡ Equal) → cond (is_eq Equal) (Some e) (finmap.get tree q) ≡ finmap.get tree q = λ is.
      absurd (some_is_no_none (finmap.get tree q) held (sym (get_tied nat_list_cmp_total tree q k is) ∙ free)) in
      get-insert nat_list_cmp_total tree k e q
      ∙ elim (path_cmp q k) as (λ o. path_cmp q k ≡ o → cond (is_eq o) (Some e) (finmap.get tree q) ≡ finmap.get tree q) [
        | Less ↦ λ is. refl
        | Equal ↦ λ is. same is
        | Greater ↦ λ is. refl
      ] refl

  -- what comes is there
  comes : finmap.get (finmap.insert tree k e) k ≡ Some e
  comes =
      get-insert nat_list_cmp_total tree k e k
      ∙ ap (λ (b : Bool). cond b (Some e) (finmap.get tree k)) ((eq_by_cmp_equiv nat_list_cmp_total).refl k)

  pub entries_stay : (order : List (List ℕ)) → AreHeld tree order → entries_at (finmap.insert tree k e) order ≡ entries_at tree order
  entries_stay [] held = refl
  entries_stay (q ∷ order) held =
      ap (λ (o : Option Entry). cons_option o (entries_at (finmap.insert tree k e) order)) (still_there q held.0)
      ∙ ap (cons_option (finmap.get tree q)) (entries_stay order held.1)

  -- one more path has one more entry
  pub entries_more : (order : List (List ℕ)) → AreHeld tree order → entries_at (finmap.insert tree k e) (order ++ k ∷ []) ≡ entries_at tree order ++ e ∷ []
  entries_more order held =
      filter_map-append (λ q. finmap.get (finmap.insert tree k e) q) order (k ∷ [])
      ∙ ap (λ (l : List Entry). l ++ entries_at (finmap.insert tree k e) (k ∷ [])) (entries_stay order held)
      ∙ ap (λ (o : Option Entry). entries_at tree order ++ cons_option o []) comes

  pub held_more : (order : List (List ℕ)) → AreHeld tree order → AreHeld (finmap.insert tree k e) (order ++ k ∷ [])
  held_more [] held = (ap is_some comes, tt)
  held_more (q ∷ order) held = (ap is_some (still_there q held.0) ∙ held.0, held_more order held.1)

-- these are the entries of a tree at paths, which it has, each under its own
pub record AreEntries (tree : Tree) (order : List (List ℕ)) (list : List Entry) : Type 0 where
  pub entries : entries_at tree order ≡ list
  pub held : AreHeld tree order
  pub own : paths_in (entries_at tree order) ≡ order

-- with one entry more
pub entries_with : (tree more : Tree) (order longer : List (List ℕ)) (e : Entry) → finmap.get tree e.path ≡ None → AreHeld tree order
    → paths_in (entries_at tree order) ≡ order → more ≡ with_entry tree e → longer ≡ order ++ e.path ∷ []
    → AreEntries more longer (entries_at tree order ++ e ∷ [])
entries_with tree more order longer e free held own is_more is_longer = record {
  entries = entries;
  own =
      ap paths_in entries ∙ map-append (λ (x : Entry). x.path) (entries_at tree order) (e ∷ [])
      ∙ ap (λ (l : List (List ℕ)). l ++ e.path ∷ []) own ∙ sym is_longer;
  held = subst (λ (t : Tree). AreHeld t longer) (sym is_more) (subst (AreHeld (with_entry tree e)) (sym is_longer) (held_more tree e.path e free order held));
}
  where
    entries : entries_at more longer ≡ entries_at tree order ++ e ∷ []
    entries = ap (λ (t : Tree). entries_at t longer) is_more ∙ ap (entries_at (with_entry tree e)) is_longer ∙ entries_more tree e.path e free order held

first_of : (o : Option Entry) (more : List Entry) → IsSome o → length (cons_option o more) ≡ suc (length more)
first_of None more held = absurd (cc (held))
first_of (Some e) more held = refl

-- as many entries as paths
pub entries_count : (tree : Tree) (order : List (List ℕ)) → AreHeld tree order → length (entries_at tree order) ≡ length order
entries_count tree [] held = refl
entries_count tree (q ∷ order) held =
    first_of (finmap.get tree q) (entries_at tree order) held.0 ∙ ap suc (entries_count tree order held.1)

first_get : (o : Option Entry) (more : List Entry) → IsSome o → slice_get (cons_option o more) 0 ≡ o
first_get None more held = absurd (cc (held))
first_get (Some e) more held = refl

next_get : (o : Option Entry) (more : List Entry) (i : ℕ) → IsSome o → slice_get (cons_option o more) (suc i) ≡ slice_get more i
next_get None more i held = absurd (cc (held))
next_get (Some e) more i held = refl

-- the entry at a place is the one at the path there
pub entry_there : (tree : Tree) (order : List (List ℕ)) (i : ℕ) → AreHeld tree order → slice_get (entries_at tree order) i ≡ option_and_then (λ q. finmap.get tree q) (slice_get order i)
entry_there tree [] i held = refl
entry_there tree (q ∷ order) zero held = first_get (finmap.get tree q) (entries_at tree order) held.0
entry_there tree (q ∷ order) (suc i) held = next_get (finmap.get tree q) (entries_at tree order) i held.0 ∙ entry_there tree order i held.1
