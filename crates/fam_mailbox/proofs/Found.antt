-- The entry at a path is one of those that were read: it is proper, and no unit stands in it twice.
use Rattle.std.proofs.Common.{◌≡◌, ℕ, zero, suc, ◌+◌, ◌*◌, ◌≤◌, ◌<◌, ◌⊎◌, Bool, true, false, cond, Option, Some, None, List, [], ◌∷◌, ◌++◌, length, take, sym, ap, ◌∙◌, inl, inr, arith}
use Rattle.std.specs.Prelude.{slice_get}
use Rattle.std.specs.FinMap as finmap
use Rattle.std.proofs.Math.Seq.{take-suc}
use Rattle.std.proofs.lemmas.List.{take_all}
use Rattle.std.proofs.lemmas.Option.{slice_get_cases}
use Rattle.fam_base.specs.declared.entry.Entry.{Entry}
use Rattle.fam_base.specs.PathOrder.{path_cmp, path_eq}
use Rattle.fam_format.specs.Tree.{replay}
use Rattle.fam_format.proofs.JoinLaws.{joins_from, tree_more}
use Rattle.fam_mail.specs.Boxes.{IsOneToOne, capacity_of}
use Rattle.fam_mail.proofs.Places.{no_line_twice}
use Rattle.fam_plan.specs.State.{PlanState, IsHistory}
use Rattle.fam_rules.specs.Place.{IsProperEntry, line_bytes}
use Rattle.fam_rules.specs.Written.{file_line}
use Rattle.fam_rules.proofs.LinesApart.{file_within}
use Rattle.fam_mailbox.specs.Lookups.{IsFilePlaced, IsFilePlacedIn}

-- it is the last entry, or it stood there before
last_or_before : (b : Bool) (x e : Entry) (before : Option Entry) → cond b (Some x) before ≡ Some e → (x ≡ e) ⊎ (before ≡ Some e)
last_or_before true x e before is = inl cc
last_or_before false x e before is = inr is

-- what stands at a path is one of the entries
found_in : (list : List Entry) (path : List ℕ) (e : Entry) (n : ℕ) → n ≤ length list → finmap.get (replay (take n list)) path ≡ Some e → (i : ℕ) × (slice_get list i ≡ Some e)
found_in list path e zero within is = absurd (let none : finmap.get (replay []) path ≡ None = finmap.get-empty {X = Entry} path_cmp path in cc)
found_in list path e (suc n) within is =
    elim (slice_get_cases list n).1 [
      | inl (x, below, at, same) ↦
          let more : take (suc n) list ≡ take n list ++ x ∷ [] = take-suc list n x below ∙ ap (λ (y : Entry). take n list ++ y ∷ []) same in
          elim (last_or_before (path_eq x.path path) x e (finmap.get (replay (take n list)) path)
          (sym (tree_more (take n list) x path) ∙ ap (λ (l : List Entry). finmap.get (replay l) path) (sym more) ∙ is)) [
            | inl last ↦ (n, at ∙ ap Some last)
            | inr before ↦ found_in list path e n (omega arith) before
          ]
      | inr (past, none) ↦ absurd (omega arith)
    ]

-- an entry of a history is placed
pub found_placed : (s : PlanState) (path : List ℕ) (e : Entry) → IsHistory s → finmap.get (replay s.entries) path ≡ Some e → IsFilePlacedIn s.params e
found_placed s path e history is =
    let whole : take (length s.entries) s.entries ≡ s.entries = take_all (length s.entries) s.entries (omega arith) in
    let (i, at) = found_in s.entries path e (length s.entries) (omega arith) (ap (λ (l : List Entry). finmap.get (replay l) path) whole ∙ is) in
    let added = history.added i e at in
    record { sound = history.params; proper = added.proper; once = (joins_from s.params (take i s.entries) e added.joins).units.once }

-- Its file's lines.
module _ (lines : ℕ) (e : Entry) (placed : IsFilePlaced lines e) where
  -- and so it is proper
  pub proper_entry : IsProperEntry e
  proper_entry = record { params = placed.params; sound = placed.placed.sound; proper = placed.placed.proper }

  module _ (room : 128 ≤ e.size) where
    -- they are the media's
    pub lines_within : (j : ℕ) → j ≤ capacity_of e.size → file_line e j < lines
    lines_within j below =
        let inside : line_bytes * j < e.size = omega arith in
        file_within placed.params e j lines placed.placed.sound placed.placed.proper inside placed.device

    -- and apart
    pub lines_apart : IsOneToOne (file_line e) (capacity_of e.size)
    lines_apart = no_line_twice placed.params e placed.placed.sound placed.placed.proper placed.placed.once room
