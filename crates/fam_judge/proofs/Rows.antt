-- A tree's entries and a listing's beside each other, in order of their paths, and what a check counts of them.
use Rattle.std.proofs.Common.{◌≡◌, ℕ, Bool, true, false, cond, List, [], ◌∷◌, ◌++◌, length, Option, Some, None, refl, ap, sym, subst, ◌∙◌, append_assoc}
use Rattle.std.specs.Prelude.{⊤, is_some, not}
use Rattle.std.specs.FinMap as finmap
use Rattle.std.specs.List.{AllByRecursion, cons_option, filter, filter_map}
use Rattle.std.specs.Cmp.Lexicographic.{nat_list_cmp_total}
use Rattle.std.specs.declared.cmp.Ordering.TheVariants.{Less}
use Rattle.fam_base.specs.declared.entry.Entry.{Entry}
use Rattle.fam_base.specs.PathOrder.{path_cmp}
use Rattle.fam_format.specs.Tree.{Tree, replay}
use Rattle.fam_rules.specs.declared.answers.Checked.{Checked}
use Rattle.fam_rules.specs.Checks.{checked, entry_eq, is_changed, is_lacked, is_other, least_path}
use Rattle.fam_tree.proofs.Ordered.{all_joined}
use Rattle.fam_tree.specs.Keyed.{IsKeyed}
use Rattle.fam_tree.specs.Runs.{AllAbove, InOrder}
use Rattle.fam_judge.proofs.Finding.{at, at_above, at_here, at_other, get_at, replayed_at}
use Rattle.fam_judge.proofs.Least.{least_of}

-- what a tree and a listing have at a path
pub data Row : Type 0 where
  -- one entry
  Same : (old new : Entry) → Row
  -- the tree alone has one
  Missing : (old : Entry) → Row
  -- the listing alone has one
  Extra : (new : Entry) → Row
  -- two entries
  Changed : (old new : Entry) → Row

-- the path
abbrev pub row_path : Row → List ℕ
row_path (Same old new) = old.path
row_path (Missing old) = old.path
row_path (Extra new) = new.path
row_path (Changed old new) = old.path

-- the tree's entry
abbrev pub old_of : Row → Option Entry
old_of (Same old new) = Some old
old_of (Missing old) = Some old
old_of (Extra new) = None
old_of (Changed old new) = Some old

-- the listing's
abbrev pub new_of : Row → Option Entry
new_of (Same old new) = Some new
new_of (Missing old) = None
new_of (Extra new) = Some new
new_of (Changed old new) = Some new

-- what is missing
abbrev pub missing_of : Row → Option Entry
missing_of (Missing old) = Some old
missing_of row = None

-- what is extra
abbrev pub extra_of : Row → Option Entry
extra_of (Extra new) = Some new
extra_of row = None

-- what is changed
abbrev pub changed_of : Row → Option Entry
changed_of (Changed old new) = Some new
changed_of row = None

-- the path, if the two differ there, or else that of later rows
abbrev pub first_with : Row → Option (List ℕ) → Option (List ℕ)
first_with (Same old new) first = first
first_with (Missing old) first = Some old.path
first_with (Extra new) first = Some new.path
first_with (Changed old new) first = Some old.path

-- the first path at which they differ
abbrev pub first_of : List Row → Option (List ℕ)
first_of [] = None
first_of (r ∷ rows) = first_with r (first_of rows)

-- what rows tell
abbrev pub told_of : List Row → Checked
told_of rows = record {
  missing = length (filter_map missing_of rows);
  extra = length (filter_map extra_of rows);
  changed = length (filter_map changed_of rows);
  first = first_of rows;
}

-- two entries have one path, and agree as the row says
abbrev pub IsRow : Row → Type 0
IsRow (Same old new) = (new.path ≡ old.path) × (entry_eq old new ≡ true)
IsRow (Missing old) = ⊤
IsRow (Extra new) = ⊤
IsRow (Changed old new) = (new.path ≡ old.path) × (entry_eq old new ≡ false)

-- all stand behind a path
abbrev pub AreBehind : List ℕ → List Row → Type 0
AreBehind path rows = AllByRecursion (λ r. path_cmp path (row_path r) ≡ Less) rows

-- rows in order
abbrev pub AreRows : List Row → Type 0
AreRows [] = ⊤
AreRows (r ∷ rows) = IsRow r × AreBehind (row_path r) rows × AreRows rows

-- behind a path that comes later
pub behind_weaker : (p q : List ℕ) (rows : List Row) → path_cmp p q ≡ Less → AreBehind q rows → AreBehind p rows
behind_weaker p q [] less behind = tt
behind_weaker p q (r ∷ rows) less behind = (nat_list_cmp_total.trans p q (row_path r) less behind.0, behind_weaker p q rows less behind.1)

-- Entries of one side.

-- the entry, if there is one, has this path
abbrev HasPath : List ℕ → Option Entry → Type 0
HasPath path None = ⊤
HasPath path (Some e) = e.path ≡ path

-- what this gives of a row stands at its path
abbrev IsSide : (Row → Option Entry) → Type 0
IsSide f = (r : Row) → IsRow r → HasPath (row_path r) (f r)

old_side : IsSide old_of
old_side (Same old new) is = refl
old_side (Missing old) is = refl
old_side (Extra new) is = tt
old_side (Changed old new) is = refl

new_side : IsSide new_of
new_side (Same old new) is = is.0
new_side (Missing old) is = tt
new_side (Extra new) is = refl
new_side (Changed old new) is = is.0

missing_side : IsSide missing_of
missing_side (Missing old) is = refl
missing_side other is = tt

extra_side : IsSide extra_of
extra_side (Extra new) is = refl
extra_side other is = tt

changed_side : IsSide changed_of
changed_side (Changed old new) is = is.0
changed_side other is = tt

kept_above : (p path : List ℕ) (o : Option Entry) (es : List Entry) → HasPath path o → path_cmp p path ≡ Less → AllAbove p es
    → AllAbove p (cons_option o es)
kept_above p path None es own less above = above
kept_above p path (Some e) es own less above = (ap (path_cmp p) own ∙ less, above)

kept_order : (path : List ℕ) (o : Option Entry) (es : List Entry) → HasPath path o → AllAbove path es → InOrder es
    → InOrder (cons_option o es)
kept_order path None es own above order = order
kept_order path (Some e) es own above order = (subst (λ (p : List ℕ). AllAbove p es) (sym own) above, order)

kept_at : (path : List ℕ) (o : Option Entry) (es : List Entry) → HasPath path o → AllAbove path es → at (cons_option o es) path ≡ o
kept_at path None es own above = at_above path es above
kept_at path (Some e) es own above = at_here path e es own

-- at a path behind
later_at : (q path : List ℕ) (o : Option Entry) (es : List Entry) → HasPath path o → path_cmp path q ≡ Less
    → at (cons_option o es) q ≡ at es q
later_at q path None es own less = refl
later_at q path (Some e) es own less = at_other q e es (ap (λ (p : List ℕ). path_cmp p q) own ∙ less)

module _ (f : Row → Option Entry) (on : IsSide f) where
  side_above : (p : List ℕ) (rows : List Row) → AreRows rows → AreBehind p rows → AllAbove p (filter_map f rows)
  side_above p [] are behind = tt
  side_above p (r ∷ rows) are behind =
      kept_above p (row_path r) (f r) (filter_map f rows) (on r are.0) behind.0 (side_above p rows are.2 behind.1)

  side_order : (rows : List Row) → AreRows rows → InOrder (filter_map f rows)
  side_order [] are = tt
  side_order (r ∷ rows) are =
      kept_order (row_path r) (f r) (filter_map f rows) (on r are.0) (side_above (row_path r) rows are.2 are.1) (side_order rows are.2)

  later_found : (path : List ℕ) (o : Option Entry) (es : List Entry) → HasPath path o → (rows : List Row) → AreBehind path rows
      → AllByRecursion (λ r. at es (row_path r) ≡ f r) rows → AllByRecursion (λ r. at (cons_option o es) (row_path r) ≡ f r) rows
  later_found path o es own [] behind found = tt
  later_found path o es own (r ∷ rows) behind found =
      (later_at (row_path r) path o es own behind.0 ∙ found.0, later_found path o es own rows behind.1 found.1)

  -- at its path stands what a row has
  side_found : (rows : List Row) → AreRows rows → AllByRecursion (λ r. at (filter_map f rows) (row_path r) ≡ f r) rows
  side_found [] are = tt
  side_found (r ∷ rows) are = (
    kept_at (row_path r) (f r) (filter_map f rows) (on r are.0) (side_above (row_path r) rows are.2 are.1),
    later_found (row_path r) (f r) (filter_map f rows) (on r are.0) rows are.1 (side_found rows are.2),
  )

-- the tree's entries behind a path
pub olds_above : (p : List ℕ) (rows : List Row) → AreRows rows → AreBehind p rows → AllAbove p (filter_map old_of rows)
olds_above = side_above old_of old_side

-- the listing's are in order
pub news_in_order : (rows : List Row) → AreRows rows → InOrder (filter_map new_of rows)
news_in_order = side_order new_of new_side

-- What a check counts.

-- an entry that passes a test
abbrev passed : (Entry → Bool) → Option Entry → Option Entry
passed test None = None
passed test (Some e) = cond (test e) (Some e) None

kept_filter : (test : Entry → Bool) (o : Option Entry) (es : List Entry)
    → filter test (cons_option o es) ≡ cons_option (passed test o) (filter test es)
kept_filter test None es = refl
kept_filter test (Some e) es =
    elim (test e) as (λ b. cond b (e ∷ filter test es) (filter test es) ≡ cons_option (cond b (Some e) None) (filter test es)) [
      | true ↦ refl
      | false ↦ refl
    ]

module _ (test : Entry → Bool) (f g : Row → Option Entry) where
  side_filter : (rows : List Row) → AllByRecursion (λ r. passed test (f r) ≡ g r) rows → filter test (filter_map f rows) ≡ filter_map g rows
  side_filter [] each = refl
  side_filter (r ∷ rows) each =
      kept_filter test (f r) (filter_map f rows) ∙ ap (λ (o : Option Entry). cons_option o (filter test (filter_map f rows))) each.0
      ∙ ap (cons_option (g r)) (side_filter rows each.1)

-- from what holds of each row to what follows from it
each_row : (P Q : Row → Type 0) → ((r : Row) → IsRow r → P r → Q r)
    → (rows : List Row) → AreRows rows → AllByRecursion P rows → AllByRecursion Q rows
each_row P Q so [] are each = tt
each_row P Q so (r ∷ rows) are each = (so r are.0 each.0, each_row P Q so rows are.2 each.1)

module _ (listing : List Entry) where
  is_missing : (r : Row) → IsRow r → at listing (row_path r) ≡ new_of r → passed (is_lacked (replay listing)) (old_of r) ≡ missing_of r
  is_missing r is found = by r (replayed_at listing (row_path r) ∙ ap is_some found)
    where
      by : (r : Row) → is_some (finmap.get (replay listing) (row_path r)) ≡ is_some (new_of r)
          → passed (is_lacked (replay listing)) (old_of r) ≡ missing_of r
      by (Same old new) has = ap (λ (b : Bool). cond (not b) (Some old) None) has
      by (Missing old) has = ap (λ (b : Bool). cond (not b) (Some old) None) has
      by (Extra new) has = refl
      by (Changed old new) has = ap (λ (b : Bool). cond (not b) (Some old) None) has

module _ (tree : Tree) where
  lacked_as : (new : Entry) (path : List ℕ) (o : Option Entry) → new.path ≡ path → finmap.get tree path ≡ o
      → cond (is_lacked tree new) (Some new) None ≡ cond (not (is_some o)) (Some new) None
  lacked_as new path o own has = ap (λ (p : Option Entry). cond (not (is_some p)) (Some new) None) (ap (finmap.get tree) own ∙ has)

  is_extra : (r : Row) → IsRow r → finmap.get tree (row_path r) ≡ old_of r → passed (is_lacked tree) (new_of r) ≡ extra_of r
  is_extra (Same old new) is has = lacked_as new old.path (Some old) is.0 has
  is_extra (Missing old) is has = refl
  is_extra (Extra new) is has = lacked_as new new.path None refl has
  is_extra (Changed old new) is has = lacked_as new old.path (Some old) is.0 has

  changed_as : (new : Entry) (path : List ℕ) (o : Option Entry) → new.path ≡ path → finmap.get tree path ≡ o
      → cond (is_changed tree new) (Some new) None ≡ cond (is_other o new) (Some new) None
  changed_as new path o own has = ap (λ (p : Option Entry). cond (is_other p new) (Some new) None) (ap (finmap.get tree) own ∙ has)

  is_changed_row : (r : Row) → IsRow r → finmap.get tree (row_path r) ≡ old_of r → passed (is_changed tree) (new_of r) ≡ changed_of r
  is_changed_row (Same old new) is has =
      changed_as new old.path (Some old) is.0 has ∙ ap (λ (b : Bool). cond (not b) (Some new) None) is.1
  is_changed_row (Missing old) is has = refl
  is_changed_row (Extra new) is has = changed_as new new.path None refl has
  is_changed_row (Changed old new) is has =
      changed_as new old.path (Some old) is.0 has ∙ ap (λ (b : Bool). cond (not b) (Some new) None) is.1

-- The first path.

joined_above : (path : List ℕ) (a b : List Entry) → AllAbove path a → AllAbove path b → AllAbove path (a ++ b)
joined_above path a b over more = all_joined (λ (e : Entry). path_cmp path e.path ≡ Less) a b over more

module _ (path : List ℕ) (rows : List Row) (are : AreRows rows) (behind : AreBehind path rows) where
  missing_above : AllAbove path (filter_map missing_of rows)
  missing_above = side_above missing_of missing_side path rows are behind

  extra_above : AllAbove path (filter_map extra_of rows)
  extra_above = side_above extra_of extra_side path rows are behind

  changed_above : AllAbove path (filter_map changed_of rows)
  changed_above = side_above changed_of changed_side path rows are behind

first_least : (rows : List Row) → AreRows rows
    → least_path (filter_map missing_of rows ++ filter_map extra_of rows ++ filter_map changed_of rows) ≡ first_of rows
first_least [] are = refl
first_least (Same old new ∷ rows) are = first_least rows are.2
first_least (Missing old ∷ rows) are =
    let m = filter_map missing_of rows in
    let x = filter_map extra_of rows in
    let c = filter_map changed_of rows in
    least_of old [] (m ++ x ++ c) tt
    (joined_above old.path (m ++ x) c
    (joined_above old.path m x (missing_above old.path rows are.2 are.1) (extra_above old.path rows are.2 are.1))
    (changed_above old.path rows are.2 are.1))
first_least (Extra new ∷ rows) are =
    let m = filter_map missing_of rows in
    let x = filter_map extra_of rows in
    let c = filter_map changed_of rows in
    ap least_path (append_assoc m (new ∷ x) c)
    ∙ least_of new m (x ++ c) (missing_above new.path rows are.2 are.1)
    (joined_above new.path x c (extra_above new.path rows are.2 are.1) (changed_above new.path rows are.2 are.1))
first_least (Changed old new ∷ rows) are =
    let m = filter_map missing_of rows in
    let x = filter_map extra_of rows in
    let behind = subst (λ (p : List ℕ). AreBehind p rows) (sym are.0.0) are.1 in
    least_of new (m ++ x) (filter_map changed_of rows)
    (joined_above new.path m x (missing_above new.path rows are.2 behind) (extra_above new.path rows are.2 behind))
    (changed_above new.path rows are.2 behind)
    ∙ ap Some are.0.0

-- A check.

-- fields that are equal
pub same_checked : (a b : Checked) → a.missing ≡ b.missing → a.extra ≡ b.extra → a.changed ≡ b.changed → a.first ≡ b.first → a ≡ b
same_checked a b m x c f = λ i. record { missing = m i; extra = x i; changed = c i; first = f i }

module _ (tree : Tree) (keyed : IsKeyed tree) (rows : List Row) (are : AreRows rows)
    (olds : finmap.values tree ≡ filter_map old_of rows) where
  -- at each path the tree has what the row says
  held : AllByRecursion (λ r. finmap.get tree (row_path r) ≡ old_of r) rows
  held =
      each_row (λ r. at (filter_map old_of rows) (row_path r) ≡ old_of r) (λ r. finmap.get tree (row_path r) ≡ old_of r)
      (λ r is found. get_at tree (row_path r) keyed ∙ ap (λ (es : List Entry). at es (row_path r)) olds ∙ found)
      rows are (side_found old_of old_side rows are)

  missing_are : filter (is_lacked (replay (filter_map new_of rows))) (finmap.values tree) ≡ filter_map missing_of rows
  missing_are =
      ap (filter (is_lacked (replay (filter_map new_of rows)))) olds
      ∙ side_filter (is_lacked (replay (filter_map new_of rows))) old_of missing_of rows
      (each_row (λ r. at (filter_map new_of rows) (row_path r) ≡ new_of r)
      (λ r. passed (is_lacked (replay (filter_map new_of rows))) (old_of r) ≡ missing_of r)
      (is_missing (filter_map new_of rows)) rows are (side_found new_of new_side rows are))

  extra_are : filter (is_lacked tree) (filter_map new_of rows) ≡ filter_map extra_of rows
  extra_are =
      side_filter (is_lacked tree) new_of extra_of rows
      (each_row (λ r. finmap.get tree (row_path r) ≡ old_of r) (λ r. passed (is_lacked tree) (new_of r) ≡ extra_of r)
      (is_extra tree) rows are held)

  changed_are : filter (is_changed tree) (filter_map new_of rows) ≡ filter_map changed_of rows
  changed_are =
      side_filter (is_changed tree) new_of changed_of rows
      (each_row (λ r. finmap.get tree (row_path r) ≡ old_of r) (λ r. passed (is_changed tree) (new_of r) ≡ changed_of r)
      (is_changed_row tree) rows are held)

  -- a check of the tree against the listing says what the rows tell
  pub rows_checked : checked tree (filter_map new_of rows) ≡ told_of rows
  unfolding checked
  rows_checked =
      same_checked _ _ (ap length missing_are) (ap length extra_are) (ap length changed_are)
      (parts _ _ _ _ _ _ missing_are extra_are changed_are ∙ first_least rows are)
    where
      parts : (m n x y c d : List Entry) → m ≡ n → x ≡ y → c ≡ d → least_path (m ++ x ++ c) ≡ least_path (n ++ y ++ d)
      parts m n x y c d p q r = λ i. least_path (p i ++ q i ++ r i)
