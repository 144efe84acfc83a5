-- The first entries of a plan, one more of them after another.
use Rattle.std.proofs.Common.{◌≡◌, ℕ, ◌+◌, ◌<◌, ◌||◌, Bool, true, Some, List, [], ◌∷◌, ◌++◌, length, take, cond, sym, ap, ◌∙◌}
use Rattle.std.specs.FinMap as finmap
use Rattle.std.specs.List.{slice_get}
use Rattle.std.specs.Cmp.{eq_by_cmp_equiv}
use Rattle.std.specs.Cmp.Lexicographic.{nat_list_cmp_total, texts_ties}
use Rattle.std.proofs.lemmas.List.{take_more}
use Rattle.std.proofs.lemmas.Option.{get_or_from_slice_get}
use Rattle.fam_base.specs.declared.entry.Params.{Params}
use Rattle.fam_base.specs.declared.entry.Entry.{Entry}
use Rattle.fam_base.specs.PathOrder.{path_eq}
use Rattle.fam_format.specs.Tree.{Tree, replay}
use Rattle.fam_format.specs.Units.{is_used, units_in}
use Rattle.fam_format.proofs.JoinLaws.{replay_more}
use Rattle.fam_alloc.specs.Next.{IsNext}
use Rattle.fam_alloc.specs.Taken.{holds}
use Rattle.fam_alloc.proofs.NextLemmas.{next_either, next_same}
use Rattle.fam_plan.proofs.Histories.{used_more}

-- what the tree has at a path after one entry more
pub tree_more : (list : List Entry) (e : Entry) (path : List ℕ) → finmap.get (replay (list ++ e ∷ [])) path ≡ cond (path_eq e.path path) (Some e) (finmap.get (replay list) path)
tree_more list e path =
    ap (λ (tree : Tree). finmap.get tree path) (replay_more list e)
    ∙ finmap.get-insert nat_list_cmp_total (replay list) e.path e path
    ∙ ap (λ (b : Bool). cond b (Some e) (finmap.get (replay list) path))
    ((eq_by_cmp_equiv nat_list_cmp_total).symm path e.path ∙ sym (texts_ties e.path path))

-- one more of the first entries
pub first_more : (list : List Entry) (i : ℕ) (e : Entry) → i < length list → slice_get list i ≡ Some e → take (i + 1) list ≡ take i list ++ e ∷ []
first_more list i e below at =
    take_more list i e below ∙ ap (λ (x : Entry). take i list ++ x ∷ []) (get_or_from_slice_get list i e e at)

-- what stands at a path by them
pub held_more : (list : List Entry) (i : ℕ) (e : Entry) (path : List ℕ) → i < length list → slice_get list i ≡ Some e
    → finmap.get (replay (take (i + 1) list)) path ≡ cond (path_eq e.path path) (Some e) (finmap.get (replay (take i list)) path)
held_more list i e path below at =
    ap (λ (l : List Entry). finmap.get (replay l) path) (first_more list i e below at) ∙ tree_more (take i list) e path

-- the first unit of a run that they use
pub next_more : (p : Params) (list : List Entry) (i : ℕ) (e : Entry) (from to a b : ℕ) → i < length list → slice_get list i ≡ Some e
    → IsNext (is_used p (take i list)) true from to a → IsNext (holds (units_in p.unit e.extents)) true from a b
    → IsNext (is_used p (take (i + 1) list)) true from to b
next_more p list i e from to a b below at before here =
    next_same (λ u. is_used p (take i list) u || holds (units_in p.unit e.extents) u) (is_used p (take (i + 1) list)) true from to b
    (λ u. sym (ap (λ (l : List Entry). is_used p l u) (first_more list i e below at) ∙ used_more p (take i list) e u))
    (next_either (is_used p (take i list)) (holds (units_in p.unit e.extents)) from to a b before here)
