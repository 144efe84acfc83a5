-- The entries of a tree and of a listing stand in rows, and what these tell fits the numbers that a tree allows.
use Prim.Native.Nat.{zero, suc}
use Rattle.std.proofs.Common.{◌≡◌, ◌≤◌, ℕ, ◌+◌, Bool, true, false, cond, List, [], ◌∷◌, map, length, Option, Some, None, refl, ap, sym, subst, ◌∙◌, arith}
use Rattle.std.specs.Prelude.{is_some}
use Rattle.std.specs.List.{cons_option, filter, filter_map}
use Rattle.std.specs.Ordering.{is_lt}
use Rattle.std.specs.declared.cmp.Ordering.{Ordering}
use Rattle.std.specs.declared.cmp.Ordering.TheVariants.{Less, Equal, Greater}
use Rattle.std.proofs.lemmas.Option.{same_Some}
use Rattle.fam_base.specs.declared.entry.Entry.{Entry}
use Rattle.fam_base.specs.PathOrder.{path_cmp}
use Rattle.fam_rules.specs.declared.answers.Checked.{Checked}
use Rattle.fam_rules.specs.Checks.{entry_eq}
use Rattle.fam_tree.proofs.Ordered.{above_weaker, itself}
use Rattle.fam_tree.proofs.Views.{path_cmp-IsAntisymmetric}
use Rattle.fam_tree.specs.Runs.{AllAbove, InOrder}
use Rattle.fam_judge.specs.Counting.{FirstCounts, count_behind}
use Rattle.fam_judge.proofs.Finding.{after, at, at_above, at_here, at_other, before}
use Rattle.fam_judge.proofs.Rows.{AreBehind, AreRows, IsRow, Row, behind_weaker, olds_above, row_path, told_of}
use Rattle.fam_judge.proofs.Rows.{Changed, Extra, Missing, Same, changed_of, extra_of, first_of, missing_of, new_of, old_of}

-- Rows of two lists.

-- they have the entries of both
pub record Merged (olds news : List Entry) : Type 0 where
  pub rows : List Row
  pub are : AreRows rows
  pub old : filter_map old_of rows ≡ olds
  pub new : filter_map new_of rows ≡ news
  pub low : (p : List ℕ) → AllAbove p olds → AllAbove p news → AreBehind p rows

-- one more row before them
with_row : (r : Row) → IsRow r → (olds news : List Entry) → Merged olds news → AllAbove (row_path r) olds → AllAbove (row_path r) news
    → ((p : List ℕ) → AllAbove p (cons_option (old_of r) olds) → AllAbove p (cons_option (new_of r) news) → path_cmp p (row_path r) ≡ Less)
    → Merged (cons_option (old_of r) olds) (cons_option (new_of r) news)
with_row r is olds news m over_olds over_news lower = record {
  rows = r ∷ m.rows;
  are = (is, m.low (row_path r) over_olds over_news, m.are);
  old = ap (cons_option (old_of r)) m.old;
  new = ap (cons_option (new_of r)) m.new;
  low = λ p a b. (lower p a b, behind_weaker p (row_path r) m.rows (lower p a b) (m.low (row_path r) over_olds over_news));
}

paired : (o e : Entry) (olds news : List Entry) → e.path ≡ o.path → (b : Bool) → entry_eq o e ≡ b → Merged olds news → AllAbove o.path olds
    → AllAbove e.path news → Merged (o ∷ olds) (e ∷ news)
paired o e olds news one true same m over_olds over_news =
    with_row (Same o e) (one, same) olds news m over_olds (subst (λ (p : List ℕ). AllAbove p news) one over_news) (λ p a b. a.0)
paired o e olds news one false other m over_olds over_news =
    with_row (Changed o e) (one, other) olds news m over_olds (subst (λ (p : List ℕ). AllAbove p news) one over_news) (λ p a b. a.0)

-- lists in order of so many entries stand in rows
abbrev Merges : ℕ → Type 0
Merges n = (olds news : List Entry) → length olds + length news ≤ n → InOrder olds → InOrder news → Merged olds news

merged_first : (n : ℕ) → Merges n → (o e : Entry) (olds news : List Entry) → length olds + length news + 1 ≤ n
    → InOrder (o ∷ olds) → InOrder (e ∷ news) → (r : Ordering) → path_cmp o.path e.path ≡ r → Merged (o ∷ olds) (e ∷ news)
merged_first n merges o e olds news count first second Less is =
    with_row (Missing o) tt olds (e ∷ news) (merges olds (e ∷ news) (omega arith) first.1 second) first.0
    (is, above_weaker o.path e.path news is second.0) (λ p a b. a.0)
merged_first n merges o e olds news count first second Equal is =
    paired o e olds news (sym (path_cmp-IsAntisymmetric o.path e.path is)) (entry_eq o e) refl
    (merges olds news (omega arith) first.1 second.1) first.0 second.0
merged_first n merges o e olds news count first second Greater is =
    let less = before o.path e.path is in
    with_row (Extra e) tt (o ∷ olds) news (merges (o ∷ olds) news (omega arith) first second.1)
    (less, above_weaker e.path o.path olds less first.0) second.0 (λ p a b. b.0)

-- lists in order stand in rows
pub merged : (n : ℕ) → Merges n
merged n [] [] count first second = record { rows = []; are = tt; old = refl; new = refl; low = λ p a b. tt }
merged zero [] (e ∷ news) count first second = absurd (omega arith)
merged zero (o ∷ olds) news count first second = absurd (omega arith)
merged (suc n) [] (e ∷ news) count first second =
    with_row (Extra e) tt [] news (merged n [] news (omega arith) tt second.1) tt second.0 (λ p a b. b.0)
merged (suc n) (o ∷ olds) [] count first second =
    with_row (Missing o) tt olds [] (merged n olds [] (omega arith) first.1 tt) first.0 tt (λ p a b. a.0)
merged (suc n) (o ∷ olds) (e ∷ news) count first second =
    merged_first n (merged n) o e olds news (omega arith) first second (path_cmp o.path e.path) refl

-- Numbers.

-- how many there are on either side
pub sizes : (rows : List Row)
    → length (filter_map new_of rows) + length (filter_map missing_of rows)
    ≡ length (filter_map old_of rows) + length (filter_map extra_of rows)
sizes [] = refl
sizes (Same old new ∷ rows) = let rest = sizes rows in omega arith
sizes (Missing old ∷ rows) = let rest = sizes rows in omega arith
sizes (Extra new ∷ rows) = let rest = sizes rows in omega arith
sizes (Changed old new ∷ rows) = let rest = sizes rows in omega arith

within : (rows : List Row) → length (filter_map missing_of rows) + length (filter_map changed_of rows) ≤ length (filter_map old_of rows)
within [] = omega arith
within (Same old new ∷ rows) = let rest = within rows in omega arith
within (Missing old ∷ rows) = let rest = within rows in omega arith
within (Extra new ∷ rows) = let rest = within rows in omega arith
within (Changed old new ∷ rows) = let rest = within rows in omega arith

-- The first path.

-- the paths of entries
abbrev pub own_paths : List Entry → List (List ℕ)
own_paths es = map (λ (e : Entry). e.path) es

-- what a check may answer, where these are the entries of the tree
abbrev pub ListCounts : List Entry → Checked → Option (List ℕ) → Type 0
ListCounts olds counts None = (counts.missing ≡ 0) × (counts.extra ≡ 0) × (counts.changed ≡ 0)
ListCounts olds counts (Some path) = FirstCounts (is_some (at olds path)) (count_behind path (own_paths olds)) counts

-- all stand behind the path
pub count_all : (path : List ℕ) (es : List Entry) → AllAbove path es → count_behind path (own_paths es) ≡ length es
count_all path [] above = refl
count_all path (e ∷ es) above =
    ap (λ (o : Ordering). length (cond (is_lt o) (e.path ∷ behind) behind)) above.0 ∙ ap suc (count_all path es above.1)
  where
    behind : List (List ℕ)
    behind = filter (λ (p : List ℕ). is_lt (path_cmp path p)) (own_paths es)

-- the first doesn't
pub count_other : (path : List ℕ) (e : Entry) (es : List Entry) → (is_lt (path_cmp path e.path) ≡ false)
    → count_behind path (own_paths (e ∷ es)) ≡ count_behind path (own_paths es)
count_other path e es not_behind = ap (λ (b : Bool). length (cond b (e.path ∷ behind) behind)) not_behind
  where
    behind : List (List ℕ)
    behind = filter (λ (p : List ℕ). is_lt (path_cmp path p)) (own_paths es)

first_behind : (p : List ℕ) (rows : List Row) → AreBehind p rows → (q : List ℕ) → first_of rows ≡ Some q → path_cmp p q ≡ Less
first_behind p [] behind q is = absurd cc
first_behind p (Same old new ∷ rows) behind q is = first_behind p rows behind.1 q is
first_behind p (Missing old ∷ rows) behind q is = subst (λ (x : List ℕ). path_cmp p x ≡ Less) (same_Some old.path q is) behind.0
first_behind p (Extra new ∷ rows) behind q is = subst (λ (x : List ℕ). path_cmp p x ≡ Less) (same_Some new.path q is) behind.0
first_behind p (Changed old new ∷ rows) behind q is = subst (λ (x : List ℕ). path_cmp p x ≡ Less) (same_Some old.path q is) behind.0

-- by numbers that are equal
pub counts_as : (b d : Bool) (m n : ℕ) (counts : Checked) → b ≡ d → m ≡ n → FirstCounts d n counts → FirstCounts b m counts
counts_as b d m n counts one other fits =
    subst (λ (x : Bool). FirstCounts x m counts) (sym one) (subst (λ (k : ℕ). FirstCounts d k counts) (sym other) fits)

-- where it stands at the first entry
here_counts : (o : Entry) (olds : List Entry) (counts : Checked) → AllAbove o.path olds
    → 1 ≤ counts.missing + counts.changed → counts.missing + counts.changed ≤ length olds + 1 → ListCounts (o ∷ olds) counts (Some o.path)
here_counts o olds counts above one more =
    counts_as (is_some (at (o ∷ olds) o.path)) true (count_behind o.path (own_paths (o ∷ olds))) (length olds) counts
    (ap is_some (at_here o.path o olds refl))
    (count_other o.path o olds (ap is_lt (itself o.path)) ∙ count_all o.path olds above) (one, more)

-- what rows tell fits
pub told_fits : (rows : List Row) → AreRows rows → ListCounts (filter_map old_of rows) (told_of rows) (first_of rows)
told_fits [] are = (refl, refl, refl)
told_fits (Same old new ∷ rows) are = by (first_of rows) refl (told_fits rows are.2)
  where
    by : (f : Option (List ℕ)) → first_of rows ≡ f → ListCounts (filter_map old_of rows) (told_of rows) f
        → ListCounts (old ∷ filter_map old_of rows) (told_of (Same old new ∷ rows)) f
    by None is fits = fits
    by (Some q) is fits =
        let less = first_behind old.path rows are.1 q is in
        counts_as (is_some (at (old ∷ filter_map old_of rows) q)) (is_some (at (filter_map old_of rows) q))
        (count_behind q (own_paths (old ∷ filter_map old_of rows))) (count_behind q (own_paths (filter_map old_of rows))) (told_of rows)
        (ap is_some (at_other q old (filter_map old_of rows) less))
        (count_other q old (filter_map old_of rows) (ap is_lt (after old.path q less))) fits
told_fits (Missing old ∷ rows) are =
    let most = within rows in
    here_counts old (filter_map old_of rows) (told_of (Missing old ∷ rows)) (olds_above old.path rows are.2 are.1)
    (omega arith) (omega arith)
told_fits (Extra new ∷ rows) are =
    let above = olds_above new.path rows are.2 are.1 in
    counts_as (is_some (at (filter_map old_of rows) new.path)) false (count_behind new.path (own_paths (filter_map old_of rows)))
    (length (filter_map old_of rows)) (told_of (Extra new ∷ rows)) (ap is_some (at_above new.path (filter_map old_of rows) above))
    (count_all new.path (filter_map old_of rows) above) (omega arith, within rows)
told_fits (Changed old new ∷ rows) are =
    let most = within rows in
    here_counts old (filter_map old_of rows) (told_of (Changed old new ∷ rows)) (olds_above old.path rows are.2 are.1)
    (omega arith) (omega arith)
