-- Lists of entries with the same kinds at the same paths, and why an entry has no copy behind these.
use Rattle.std.proofs.Common.{◌≡◌, ℕ, Bool, true, false, cond, List, [], ◌∷◌, ◌++◌, Option, Some, None, Err, refl, sym, ap, ap₂, subst, ◌∙◌}
use Rattle.std.specs.FinMap as finmap
use Rattle.std.specs.Cmp.{eq_by_cmp_equiv}
use Rattle.std.specs.Cmp.Lexicographic.{nat_list_cmp_total, texts_ties}
use Rattle.std.specs.Option.{option_map}
use Rattle.fam_base.specs.declared.entry.Params.{Params}
use Rattle.fam_base.specs.declared.entry.Entry.{Entry}
use Rattle.fam_base.specs.declared.entry.Kind.{Kind}
use Rattle.fam_base.specs.declared.entry.Kind.TheVariants.{Directory, File}
use Rattle.fam_base.specs.PathOrder.{path_eq}
use Rattle.fam_base.specs.Paths.{parent_of}
use Rattle.fam_format.specs.ReadingLaws.{HasParent, Joins}
use Rattle.fam_format.specs.Tree.{Tree, replay}
use Rattle.fam_format.proofs.JoinLaws.{joins_from, replay_more}
use Rattle.fam_rules.specs.declared.answers.Refused.{Refused}
use Rattle.fam_rules.specs.declared.answers.Refused.TheVariants.{NotMaster, LongPath, BadStripe, Exists, NoParent, ParentIsFile, LogFull, NoSpace}
use Rattle.fam_rules.specs.DecideLaws.{IsFirstRefusal}
use Rattle.fam_rules.proofs.RefusalProofs.{refused_for}
use Rattle.fam_dup.specs.Copies.{AreAlike, IsNext, IsWantOfRoom, copy_of, kind_at, wish_again}

-- what the tree has at a path after one entry more
tree_more : (list : List Entry) (e : Entry) (path : List ℕ) → finmap.get (replay (list ++ e ∷ [])) path ≡ cond (path_eq e.path path) (Some e) (finmap.get (replay list) path)
tree_more list e path =
    ap (λ (tree : Tree). finmap.get tree path) (replay_more list e)
    ∙ finmap.get-insert nat_list_cmp_total (replay list) e.path e path
    ∙ ap (λ (b : Bool). cond b (Some e) (finmap.get (replay list) path))
    ((eq_by_cmp_equiv nat_list_cmp_total).symm path e.path ∙ sym (texts_ties e.path path))

-- the kind of a choice
kind_of_choice : (b : Bool) (e : Entry) (other : Option Entry) → option_map (λ (x : Entry). x.kind) (cond b (Some e) other) ≡ cond b (Some e.kind) (option_map (λ (x : Entry). x.kind) other)
kind_of_choice true e other = refl
kind_of_choice false e other = refl

-- and its kind
kind_more : (list : List Entry) (e : Entry) (path : List ℕ) → kind_at (list ++ e ∷ []) path ≡ cond (path_eq e.path path) (Some e.kind) (kind_at list path)
kind_more list e path =
    ap (λ (o : Option Entry). option_map (λ (x : Entry). x.kind) o) (tree_more list e path)
    ∙ kind_of_choice (path_eq e.path path) e (finmap.get (replay list) path)

-- no entries are alike
pub alike_none : AreAlike [] []
alike_none path = refl

-- one entry more, and its copy
pub alike_more : (list copies : List Entry) (e c : Entry) → AreAlike list copies → c.path ≡ e.path → c.kind ≡ e.kind → AreAlike (list ++ e ∷ []) (copies ++ c ∷ [])
alike_more list copies e c alike path kind at =
    kind_more list e at
    ∙ ap (λ (o : Option Kind). cond (path_eq e.path at) (Some e.kind) o) (alike at)
    ∙ ap₂ (λ (p : List ℕ) (k : Kind). cond (path_eq p at) (Some k) (kind_at copies at)) (sym path) (sym kind)
    ∙ sym (kind_more copies c at)

-- Why an entry has no copy.

module _ (q : Params) (copies : List Entry) (e : Entry) (next : IsNext copies e) where
  joins : Joins next.params next.before e
  joins = joins_from next.params next.before e next.added.joins

  -- the kind of what the copies have at a path
  stands : (path : List ℕ) (old : Option Entry) → finmap.get (replay copies) path ≡ old → kind_at next.before path ≡ option_map (λ (x : Entry). x.kind) old
  stands path old is = next.alike path ∙ ap (λ (o : Option Entry). option_map (λ (x : Entry). x.kind) o) is

  -- nothing stands at its path
  absent : (old : Entry) → finmap.get (replay copies) e.path ≡ Some old → ⊥
  absent old is =
      let none : kind_at next.before e.path ≡ None = ap (λ (o : Option Entry). option_map (λ (x : Entry). x.kind) o) joins.absent in
      let some : kind_at next.before e.path ≡ Some old.kind = stands e.path (Some old) is in
      cc

  -- its parent is a directory
  parent_kind : (path : List ℕ) → parent_of e.path ≡ Some path → kind_at next.before path ≡ Some Directory
  parent_kind path is =
      let parent = subst (HasParent (replay next.before)) is joins.parent in
      ap (λ (o : Option Entry). option_map (λ (x : Entry). x.kind) o) parent.1 ∙ ap (λ (k : Kind). Some k) parent.2

  -- no other first refusal comes
  by_cause : (refused : Refused) → IsFirstRefusal q q.master copies (wish_again e) refused → IsWantOfRoom refused
  by_cause (NotMaster me master) first = first.2 refl
  by_cause (LongPath limit) first = tt
  by_cause BadStripe first = first.2 tt
  by_cause (Exists kind) first = absent first.1.0 first.1.1
  by_cause NoParent first =
      let lacks = first.1 in
      let none : kind_at next.before lacks.0 ≡ None = stands lacks.0 None lacks.2 in
      let some : kind_at next.before lacks.0 ≡ Some Directory = parent_kind lacks.0 lacks.1 in
      absurd (cc)
  by_cause ParentIsFile first =
      let file = first.1 in
      let there = file.2 in
      let as_file : kind_at next.before file.0 ≡ Some File = stands file.0 (Some there.0) there.1 ∙ ap (λ (k : Kind). Some k) there.2 in
      let some : kind_at next.before file.0 ≡ Some Directory = parent_kind file.0 file.1 in
      absurd (cc)
  by_cause (LogFull slots) first = tt
  by_cause (NoSpace count) first = tt

  -- an entry has no copy only for want of slots or of room, for the path or for the bytes
  pub room_alone : (refused : Refused) → copy_of q copies e ≡ Err refused → IsWantOfRoom refused
  room_alone refused is = by_cause refused (refused_for q q.master copies (wish_again e) refused is)
