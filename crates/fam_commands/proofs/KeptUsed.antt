-- The kept entries that a command uses.
use Rattle.std.proofs.Common.{ℕ, ◌≡◌, ◌≤◌, zero, suc, Bool, true, false, inl, inr, List, [], ◌∷◌, ◌++◌, length, take, Option, Some, None, sym, ◌∙◌, ap, arith, subst}
use Rattle.std.specs.Prelude.{find, ◌&&◌, nat_le, if◌then◌else◌}
use Rattle.std.specs.FinMap as finmap
use Rattle.std.specs.FinMap.{get-empty}
use Rattle.std.proofs.Math.Seq.{take-suc}
use Rattle.std.proofs.lemmas.List.{take_all}
use Rattle.std.proofs.lemmas.Option.{slice_get_cases}
use Rattle.fam_base.specs.declared.cmd.Cmd.{Cmd}
use Rattle.fam_base.specs.declared.cmd.Cmd.TheVariants.{Fsck}
use Rattle.fam_base.specs.declared.entry.Params.{Params}
use Rattle.fam_base.specs.declared.entry.Entry.{Entry}
use Rattle.fam_base.specs.PathOrder.{path_cmp, path_eq}
use Rattle.fam_format.specs.Tree.{replay}
use Rattle.fam_commands.specs.Kept.{AllJoin, IsKept, Kept, is_same_params, used, used_by, class_used}
use Rattle.fam_commands.proofs.Steps.Slots.{lookups_more}
use Rattle.fam_format.proofs.JoinLaws.{joins_from}

-- the tree has at each path the entry that is found there first
abbrev pub Finds : List Entry → Type 0
Finds list = (path : List ℕ) → finmap.get (replay list) path ≡ find (λ (e : Entry). path_eq e.path path) list

finds_none : Finds []
finds_none path = get-empty path_cmp path

prefix_finds : (p : Params) (list : List Entry) → AllJoin p list → (n : ℕ) → n ≤ length list → Finds (take n list)
prefix_finds p list joined zero within = finds_none
prefix_finds p list joined (suc n) within =
    elim (slice_get_cases list n).1 [
      | inl (x, below, at, is) ↦
          let more : take (suc n) list ≡ take n list ++ x ∷ [] = take-suc list n x below ∙ ap (λ (e : Entry). take n list ++ e ∷ []) is in
          subst Finds (sym more) (lookups_more (take n list) x (prefix_finds p list joined n (omega arith)) (joins_from p (take n list) x (joined n x at)).absent)
      | inr (past, none) ↦ absurd (omega arith)
    ]

all_finds : (p : Params) (list : List Entry) → AllJoin p list → Finds list
all_finds p list joined = subst Finds (take_all (length list) list (omega arith)) (prefix_finds p list joined (length list) (omega arith))

by_test : (p : Params) (list : List Entry) (b : Bool) → AllJoin p list → Finds (if b then list else [])
by_test p list true joined = all_finds p list joined
by_test p list false joined = finds_none

used_by_finds : (kept : Option Kept) (p : Params) (gate : ℕ) → IsKept kept → Finds (used_by kept p gate)
unfolding used_by
used_by_finds None p gate joined = finds_none
used_by_finds (Some k) p gate joined = by_test k.params k.entries (is_same_params k.params p && nat_le (length k.entries) gate) joined

-- of a history
pub used_finds : (kept : Option Kept) (cmd : Cmd) (p : Params) (gate : ℕ) → IsKept kept → Finds (used kept cmd p gate)
unfolding class_used
used_finds kept Fsck p gate joined = finds_none
used_finds kept cmd p gate joined = used_by_finds kept p gate joined
