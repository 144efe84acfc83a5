-- When an entry joins a list.
use Rattle.std.proofs.Common.{◌≡◌, ℕ, ◌<◌, inl, inr, length, get_or, Bool, cond, List, [], ◌∷◌, ◌++◌, Option, Some, None, refl, sym, ap, ◌∙◌}
use Rattle.std.specs.Prelude.{MatchOption}
use Rattle.std.specs.FinMap as map
use Rattle.std.specs.Cmp.{eq_by_cmp_equiv}
use Rattle.std.specs.Cmp.Lexicographic.{nat_list_cmp_total, texts_ties}
use Rattle.std.proofs.lemmas.Bool.{false≢true}
use Rattle.std.proofs.lemmas.List.Sums.{fold-append}
use Rattle.fam_base.specs.declared.entry.Params.{Params}
use Rattle.fam_base.specs.declared.entry.Entry.{Entry}
use Rattle.fam_base.specs.declared.entry.Kind.{Kind}
use Rattle.fam_base.specs.declared.entry.Kind.TheVariants.{File, Directory}
use Rattle.fam_base.specs.PathOrder.{path_eq}
use Rattle.fam_base.specs.Paths.{parent_of}
use Rattle.fam_format.specs.declared.faults.Reason.{Reason}
use Rattle.fam_format.specs.Stop.{or_else}
use Rattle.fam_format.specs.Units.{units_in, is_used, first_overlap}
use Rattle.fam_format.specs.Tree.{Tree, with_entry, replay, exists_fault, file_fault, parent_fault, root_fault, tree_fault, overlap_fault, join_fault}
use Rattle.fam_format.specs.ReadingLaws.{AreFree, IsTaken, IsFirstOverlap, HasParent, Joins}
use Rattle.fam_format.proofs.OverlapLaws.{overlap_found}

-- two tests name no fault
no_fault : (a b : Option Reason) → or_else a b ≡ None → (a ≡ None) × (b ≡ None)
no_fault (Some r) b h = absurd (cc)
no_fault None b h = (refl, h)

no_fault_from : (a b : Option Reason) → a ≡ None → b ≡ None → or_else a b ≡ None
no_fault_from a b e f = ap (λ (x : Option Reason). or_else x b) e ∙ f

absent_from : (there : Option Entry) → exists_fault there ≡ None → there ≡ None
absent_from None h = refl
absent_from (Some old) h = absurd (cc)

directory_from : (kind : Kind) → file_fault kind ≡ None → kind ≡ Directory
directory_from File h = absurd (cc)
directory_from Directory h = refl

-- what stands at the parent is a directory
parent_from : (tree : Tree) (path : List ℕ) (there : Option Entry) → map.get tree path ≡ there → parent_fault there ≡ None
    → (directory : Entry) × (map.get tree path ≡ Some directory) × (directory.kind ≡ Directory)
parent_from tree path None is h = absurd (cc)
parent_from tree path (Some parent) is h = (parent, is, directory_from parent.kind h)

root_from : (tree : Tree) (path : Option (List ℕ)) → root_fault tree path ≡ None → HasParent tree path
root_from tree None h = tt
root_from tree (Some path) h = parent_from tree path (map.get tree path) refl h

root_back : (tree : Tree) (path : Option (List ℕ)) → HasParent tree path → root_fault tree path ≡ None
root_back tree None h = refl
root_back tree (Some path) (directory, is, kind) = ap parent_fault is ∙ ap file_fault kind

free_from : (used : ℕ → Bool) (units : List ℕ) (r : Option ℕ) → MatchOption r (AreFree used units) (IsFirstOverlap used units) → overlap_fault r ≡ None → AreFree used units
free_from used units None found h = found
free_from used units (Some u) found h = absurd (cc)

-- a unit that is used or stands twice isn't free
taken_or_free : (used : ℕ → Bool) (units : List ℕ) (place u : ℕ) → place < length units → get_or units place 0 ≡ u → IsTaken used units place u → AreFree used units → ⊥
taken_or_free used units place u below is (inl taken) free =
    false≢true (sym (free.free place below) ∙ ap used is ∙ taken)
taken_or_free used units place u below is (inr (i, less, at)) free = free.once i place less below (at ∙ sym is)

-- free units have no overlap
free_back : (used : ℕ → Bool) (units : List ℕ) (r : Option ℕ) → MatchOption r (AreFree used units) (IsFirstOverlap used units) → AreFree used units → overlap_fault r ≡ None
free_back used units None found free = refl
free_back used units (Some u) found free = absurd (taken_or_free used units found.place u found.below found.is found.taken free)

-- no fault keeps the entry out: it joins
pub joins_from : (p : Params) (list : List Entry) (e : Entry) → join_fault p list e ≡ None → Joins p list e
unfolding join_fault
joins_from p list e h =
    let both = no_fault (tree_fault (replay list) e) (overlap_fault (first_overlap (is_used p list) (units_in p.unit e.extents))) h in
    let place = no_fault (exists_fault (map.get (replay list) e.path)) (root_fault (replay list) (parent_of e.path)) both.0 in
    record {
      absent = absent_from (map.get (replay list) e.path) place.0;
      parent = root_from (replay list) (parent_of e.path) place.1;
      units = free_from (is_used p list) (units_in p.unit e.extents) _ (overlap_found (is_used p list) (units_in p.unit e.extents)) both.1;
    }

-- an entry that joins has no fault
pub joins_back : (p : Params) (list : List Entry) (e : Entry) → Joins p list e → join_fault p list e ≡ None
unfolding join_fault
joins_back p list e j =
    no_fault_from _ _ (no_fault_from _ _ (ap exists_fault j.absent) (root_back (replay list) (parent_of e.path) j.parent))
    (free_back (is_used p list) (units_in p.unit e.extents) _ (overlap_found (is_used p list) (units_in p.unit e.extents)) j.units)

-- the tree of one entry more
pub replay_more : (list : List Entry) (e : Entry) → replay (list ++ e ∷ []) ≡ with_entry (replay list) e
replay_more list e = fold-append with_entry map.empty list (e ∷ [])

-- what the tree has at a path after one entry more
pub tree_more : (list : List Entry) (e : Entry) (path : List ℕ) → map.get (replay (list ++ e ∷ [])) path ≡ cond (path_eq e.path path) (Some e) (map.get (replay list) path)
tree_more list e path =
    ap (λ (tree : Tree). map.get tree path) (replay_more list e)
    ∙ map.get-insert nat_list_cmp_total (replay list) e.path e path
    ∙ ap (λ (b : Bool). cond b (Some e) (map.get (replay list) path))
    ((eq_by_cmp_equiv nat_list_cmp_total).symm path e.path ∙ sym (texts_ties e.path path))
