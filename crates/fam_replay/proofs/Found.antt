-- The entry that stands at a path is one of those that were found.
use Rattle.std.proofs.Common.{◌≡◌, ℕ, zero, suc, ◌≤◌, ◌⊎◌, Bool, true, false, cond, Option, Some, None, List, [], ◌∷◌, ◌++◌, length, take, sym, ap, ◌∙◌, inl, inr, arith}
use Rattle.std.specs.Prelude.{slice_get, IfSome}
use Rattle.std.specs.FinMap as finmap
use Rattle.std.proofs.Math.Seq.{take-suc}
use Rattle.std.proofs.lemmas.List.{take_all}
use Rattle.std.proofs.lemmas.Option.{slice_get_cases}
use Rattle.fam_base.specs.declared.entry.Entry.{Entry}
use Rattle.fam_base.specs.PathOrder.{path_cmp, path_eq}
use Rattle.fam_format.specs.Slot.{Proper}
use Rattle.fam_format.specs.Tree.{replay}
use Rattle.fam_format.proofs.JoinLaws.{tree_more}
use Rattle.fam_plan.specs.State.{PlanState, IsHistory}

-- it is the last entry, or it stood there before
last_or_before : (b : Bool) (x e : Entry) (before : Option Entry) → cond b (Some x) before ≡ Some e → (x ≡ e) ⊎ (before ≡ Some e)
last_or_before true x e before is = inl cc
last_or_before false x e before is = inr is

-- what stands at a path is one of the entries
found_in : (list : List Entry) (path : List ℕ) (e : Entry) (n : ℕ) → n ≤ length list → finmap.get (replay (take n list)) path ≡ Some e → (i : ℕ) × (slice_get list i ≡ Some e)
found_in list path e zero within is = absurd (let none : finmap.get (replay []) path ≡ None = finmap.get-empty {X = Entry} path_cmp path in cc)
found_in list path e (suc n) within is =
    elim (slice_get_cases list n).1 [
      | inl (x, below, at, same) ↦
          let more : take (suc n) list ≡ take n list ++ x ∷ [] = take-suc list n x below ∙ ap (λ (y : Entry). take n list ++ y ∷ []) same in
          elim (last_or_before (path_eq x.path path) x e (finmap.get (replay (take n list)) path)
          (sym (tree_more (take n list) x path) ∙ ap (λ (l : List Entry). finmap.get (replay l) path) (sym more) ∙ is)) [
            | inl last ↦ (n, at ∙ ap Some last)
            | inr before ↦ found_in list path e n (omega arith) before
          ]
      | inr (past, none) ↦ absurd (omega arith)
    ]

-- so it is proper
pub found_proper : (s : PlanState) (path : List ℕ) (e : Entry) → IsHistory s → finmap.get (replay s.entries) path ≡ Some e → Proper s.params e
found_proper s path e history is =
    let whole : take (length s.entries) s.entries ≡ s.entries = take_all (length s.entries) s.entries (omega arith) in
    let (i, at) = found_in s.entries path e (length s.entries) (omega arith) (ap (λ (l : List Entry). finmap.get (replay l) path) whole ∙ is) in
    (history.added i e at).proper

-- what stands at a path of a plan is proper
pub found_if : (s : PlanState) (path : List ℕ) (found : Option Entry) → IsHistory s → found ≡ finmap.get (replay s.entries) path → IfSome found (Proper s.params)
found_if s path None history is = tt
found_if s path (Some e) history is = found_proper s path e history (sym is)

-- nothing stands there where there is no entry
pub nothing_found : (path : List ℕ) → finmap.get (replay []) path ≡ None
nothing_found path = finmap.get-empty {X = Entry} path_cmp path
