-- A question about a path finds the entry that the tree has there.
use Rattle.std.proofs.Common.{◌≡◌, ℕ, zero, suc, ◌≤◌, Bool, true, false, cond, Option, Some, None, List, [], ◌∷◌, ◌++◌, length, map, take, refl, sym, ap, ◌∙◌, inl, inr, arith}
use Rattle.std.specs.FinMap as finmap
use Rattle.std.specs.Cmp.{eq_by_cmp_equiv}
use Rattle.std.specs.Cmp.Lexicographic.{nat_list_cmp_total, pointwise_decides, texts_ties}
use Rattle.std.specs.Option.{option_map, option_or}
use Rattle.std.specs.Prelude.{find, slice_get}
use Rattle.std.proofs.Math.Seq.{take-suc}
use Rattle.std.proofs.lemmas.Bool.Decides.{Decides-eqb}
use Rattle.std.proofs.lemmas.List.{take-map, take_all}
use Rattle.std.proofs.lemmas.List.Folds.{find-append}
use Rattle.std.proofs.lemmas.Option.{slice_get-map, slice_get_cases}
use Rattle.fam_base.specs.declared.entry.Params.{Params}
use Rattle.fam_base.specs.declared.entry.Entry.{Entry}
use Rattle.fam_base.specs.PathOrder.{path_cmp, path_eq}
use Rattle.fam_format.specs.Tree.{Tree, replay}
use Rattle.fam_format.proofs.JoinLaws.{replay_more}
use Rattle.fam_rules.specs.Asks.{AreJoined, File, entries_of, file_at}

-- the first entry of this path
abbrev first_at : List ℕ → List Entry → Option Entry
first_at path list = find (λ (e : Entry). path_eq e.path path) list

-- each path is new where its entry comes
abbrev AreNew : List Entry → Type 0
AreNew list = (i : ℕ) (e : Entry) → slice_get list i ≡ Some e → finmap.get (replay (take i list)) e.path ≡ None

-- what the tree has at a path after one entry more
tree_more : (list : List Entry) (e : Entry) (path : List ℕ) → finmap.get (replay (list ++ e ∷ [])) path ≡ cond (path_eq e.path path) (Some e) (finmap.get (replay list) path)
tree_more list e path =
    ap (λ (tree : Tree). finmap.get tree path) (replay_more list e)
    ∙ finmap.get-insert nat_list_cmp_total (replay list) e.path e path
    ∙ ap (λ (b : Bool). cond b (Some e) (finmap.get (replay list) path))
    ((eq_by_cmp_equiv nat_list_cmp_total).symm path e.path ∙ sym (texts_ties e.path path))

-- and what is found first
found_more : (list : List Entry) (e : Entry) (path : List ℕ) → first_at path (list ++ e ∷ []) ≡ option_or (first_at path list) (cond (path_eq e.path path) (Some e) None)
found_more list e path = find-append (λ (x : Entry). path_eq x.path path) list (e ∷ [])

-- the last is the first where there was none
last_is_first : (b : Bool) (e : Entry) (before : Option Entry) → (b ≡ true → before ≡ None) → cond b (Some e) before ≡ option_or before (cond b (Some e) None)
last_is_first true e None new = refl
last_is_first true e (Some x) new = absurd (let none = new refl in cc)
last_is_first false e None new = refl
last_is_first false e (Some x) new = refl

-- in the prefix of a list
prefix_finds : (list : List Entry) (path : List ℕ) → AreNew list → (n : ℕ) → n ≤ length list → finmap.get (replay (take n list)) path ≡ first_at path (take n list)
prefix_finds list path new zero within = finmap.get-empty {X = Entry} path_cmp path
prefix_finds list path new (suc n) within =
    elim (slice_get_cases list n).1 [
      | inl (x, below, at, is) ↦
          let more : take (suc n) list ≡ take n list ++ x ∷ [] = take-suc list n x below ∙ ap (λ (e : Entry). take n list ++ e ∷ []) is in
          let before : finmap.get (replay (take n list)) path ≡ first_at path (take n list) = prefix_finds list path new n (omega arith) in
          ap (λ (es : List Entry). finmap.get (replay es) path) more
          ∙ tree_more (take n list) x path
          ∙ ap (λ (o : Option Entry). cond (path_eq x.path path) (Some x) o) before
          ∙ last_is_first (path_eq x.path path) x (first_at path (take n list))
          (λ same. sym before ∙ ap (λ (q : List ℕ). finmap.get (replay (take n list)) q)
          (sym ((pointwise_decides Decides-eqb x.path path).0 same)) ∙ new n x at)
          ∙ sym (ap (λ (es : List Entry). first_at path es) more ∙ found_more (take n list) x path)
      | inr (past, none) ↦ absurd (omega arith)
    ]

-- where paths are new, the tree has the first entry of each
tree_finds : (list : List Entry) (path : List ℕ) → AreNew list → first_at path list ≡ finmap.get (replay list) path
tree_finds list path new =
    let whole : take (length list) list ≡ list = take_all (length list) list (omega arith) in
    sym (ap (λ (es : List Entry). finmap.get (replay es) path) (sym whole) ∙ prefix_finds list path new (length list) (omega arith) ∙ ap (λ (es : List Entry). first_at path es) whole)

-- of files and of entries the same is found
chosen : (b : Bool) (f : File) (more : Option File) → option_map (λ (x : File). x.entry) (cond b (Some f) more) ≡ cond b (Some f.entry) (option_map (λ (x : File). x.entry) more)
chosen true f more = refl
chosen false f more = refl

entry_of_file : (files : List File) (path : List ℕ) → option_map (λ (f : File). f.entry) (file_at files path) ≡ first_at path (entries_of files)
entry_of_file [] path = refl
entry_of_file (f ∷ more) path =
    chosen (path_eq f.entry.path path) f (file_at more path)
    ∙ ap (λ (o : Option Entry). cond (path_eq f.entry.path path) (Some f.entry) o) (entry_of_file more path)

-- a member of a mapped list comes of a member
member_by : {X Y : Type 0} (v : X → Y) (xs : List X) (k : ℕ) (y : Y) (r : Option X) → slice_get xs k ≡ r → option_map v r ≡ Some y → (x : X) × (slice_get xs k ≡ Some x) × (v x ≡ y)
member_by v xs k y (Some x) is h = (x, is, cc)
member_by v xs k y None is h = absurd (cc)

pub member_from : {X Y : Type 0} (v : X → Y) (xs : List X) (k : ℕ) (y : Y) → slice_get (map v xs) k ≡ Some y → (x : X) × (slice_get xs k ≡ Some x) × (v x ≡ y)
member_from v xs k y h = member_by v xs k y (slice_get xs k) refl (sym (slice_get-map v xs k) ∙ h)

-- entries that join one after another have new paths
joined_new : (p : Params) (files : List File) → AreJoined p files → AreNew (entries_of files)
joined_new p files joined i e at =
    let (f, is, same) = member_from (λ (g : File). g.entry) files i e at in
    ap (λ (q : List ℕ). finmap.get (replay (take i (entries_of files))) q) (sym (ap (λ (x : Entry). x.path) same))
    ∙ ap (λ (l : List Entry). finmap.get (replay l) f.entry.path) (take-map (λ (g : File). g.entry) i files)
    ∙ (joined i f is).absent

-- so a file is found where the tree has its entry
pub file_in_tree : (p : Params) (files : List File) (path : List ℕ) → AreJoined p files → option_map (λ f. f.entry) (file_at files path) ≡ finmap.get (replay (entries_of files)) path
file_in_tree p files path joined = entry_of_file files path ∙ tree_finds (entries_of files) path (joined_new p files joined)
