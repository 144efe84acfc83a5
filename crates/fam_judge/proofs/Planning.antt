-- Rows of a tree's entries with as many missing, extra and changed as a check tells, and the first path that it tells.
use Prim.Native.Nat.{zero, suc}
use Rattle.std.proofs.Common.{◌≡◌, ◌<◌, ◌≤◌, ℕ, ◌+◌, ◌&&◌, ◌==◌, Bool, true, false, List, [], ◌∷◌, length, get_or, Option, Some, None, refl, ap, sym, subst, ◌∙◌, arith}
use Rattle.std.specs.Prelude.{is_some}
use Rattle.std.specs.List.{cons_option, filter_map}
use Rattle.std.specs.Ordering.{is_lt, nat_cmp, ordering_then}
use Rattle.std.specs.Cmp.Lexicographic.{nat_list_cmp_total, nat_list_eq_equiv}
use Rattle.std.specs.declared.cmp.Ordering.{Ordering}
use Rattle.std.specs.declared.cmp.Ordering.TheVariants.{Less, Equal, Greater}
use Rattle.std.proofs.lemmas.Bool.{and_from, eq-eqb}
use Rattle.std.proofs.lemmas.Bool.Decides.{nat_tests}
use Rattle.fam_base.specs.declared.entry.Entry.{Entry}
use Rattle.fam_base.specs.ExtentLists.{extents_eq, extents_equiv}
use Rattle.fam_base.specs.PathOrder.{path_cmp, path_eq}
use Rattle.fam_format.specs.Slot.{chunk_word, kind_word, map_word}
use Rattle.fam_rules.specs.declared.answers.Checked.{Checked}
use Rattle.fam_rules.specs.Checks.{entry_eq}
use Rattle.fam_tree.proofs.Ordered.{above_weaker, itself}
use Rattle.fam_tree.proofs.Views.{path_cmp-IsAntisymmetric}
use Rattle.fam_tree.specs.Runs.{AllAbove, AllBelow, InOrder}
use Rattle.fam_judge.specs.Counting.{FirstCounts, count_behind}
use Rattle.fam_judge.specs.Untold.{untold_entry}
use Rattle.fam_judge.proofs.Finding.{after, at, at_above, at_here, at_other, before}
use Rattle.fam_judge.proofs.Merging.{ListCounts, count_all, count_other, counts_as, own_paths}
use Rattle.fam_judge.proofs.Rows.{AreBehind, AreRows, IsRow, Row, behind_weaker, row_path}
use Rattle.fam_judge.proofs.Rows.{Changed, Extra, Missing, Same, changed_of, extra_of, first_of, first_with, missing_of, old_of}

-- Entries.

same_number : (n : ℕ) → (n == n) ≡ true
same_number n = eq-eqb n n refl

same_entry : (e : Entry) → entry_eq e e ≡ true
same_entry e =
    and_from _ _ (and_from _ _ (and_from _ _ (and_from _ _ (and_from _ _ (and_from _ _ (and_from _ _ (and_from _ _
    (same_number (kind_word e.kind)) (nat_list_eq_equiv.refl e.path)) (same_number e.size)) (same_number e.mode)) (same_number e.uid))
    (same_number e.gid)) (same_number (map_word e.map))) (same_number (chunk_word e.map))) (extents_equiv.refl e.extents)

-- an entry of another size
abbrev longer : Entry → Entry
longer e = record e { size = suc e.size }

false_behind : (b : Bool) → (b && false) ≡ false
false_behind true = refl
false_behind false = refl

other_size : (n : ℕ) → (n == suc n) ≡ false
other_size n = grind (arith, nat_tests)

other_entry : (e : Entry) → entry_eq e (longer e) ≡ false
other_entry e =
    ap (λ (b : Bool). b && (e.mode == e.mode) && (e.uid == e.uid) && (e.gid == e.gid) && (map_word e.map == map_word e.map)
    && (chunk_word e.map == chunk_word e.map) && extents_eq e.extents e.extents)
    (ap (λ (b : Bool). (kind_word e.kind == kind_word e.kind) && path_eq e.path e.path && b) (other_size e.size)
    ∙ false_behind ((kind_word e.kind == kind_word e.kind) && path_eq e.path e.path))

-- an entry of any path
abbrev blank : List ℕ → Entry
blank path = record untold_entry { path = path }

-- Plans.

-- so many with one more, if there is one
abbrev count_with : Option Entry → ℕ → ℕ
count_with None n = n
count_with (Some e) n = suc n

-- rows that have these entries of a tree, and tell so many; they stand behind each path that its entries do, and that is low
pub record Plan (olds : List Entry) (missing extra changed : ℕ) (first : Option (List ℕ)) (Low : List ℕ → Type 0) : Type 0 where
  pub rows : List Row
  pub are : AreRows rows
  pub old : filter_map old_of rows ≡ olds
  pub missing_are : length (filter_map missing_of rows) ≡ missing
  pub extra_are : length (filter_map extra_of rows) ≡ extra
  pub changed_are : length (filter_map changed_of rows) ≡ changed
  pub first_is : first_of rows ≡ first
  pub low : (p : List ℕ) → AllAbove p olds → Low p → AreBehind p rows

kept_count : (o : Option Entry) (es : List Entry) (n : ℕ) → length es ≡ n → length (cons_option o es) ≡ count_with o n
kept_count None es n is = is
kept_count (Some e) es n is = ap suc is

-- one more row before them
with_plan : (r : Row) → IsRow r → (olds : List Entry) (missing extra changed : ℕ) (first : Option (List ℕ)) (Low Lower : List ℕ → Type 0)
    → Plan olds missing extra changed first Low → AllAbove (row_path r) olds → Low (row_path r)
    → ((p : List ℕ) → AllAbove p (cons_option (old_of r) olds) → Lower p → path_cmp p (row_path r) ≡ Less)
    → Plan (cons_option (old_of r) olds) (count_with (missing_of r) missing) (count_with (extra_of r) extra)
    (count_with (changed_of r) changed) (first_with r first) Lower
with_plan r is olds missing extra changed first Low Lower plan above low lower = record {
  rows = r ∷ plan.rows;
  are = (is, plan.low (row_path r) above low, plan.are);
  old = ap (cons_option (old_of r)) plan.old;
  missing_are = kept_count (missing_of r) (filter_map missing_of plan.rows) missing plan.missing_are;
  extra_are = kept_count (extra_of r) (filter_map extra_of plan.rows) extra plan.extra_are;
  changed_are = kept_count (changed_of r) (filter_map changed_of plan.rows) changed plan.changed_are;
  first_is = ap (first_with r) plan.first_is;
  low = λ p a l. (lower p a l, behind_weaker p (row_path r) plan.rows (lower p a l) (plan.low (row_path r) above low));
}

-- Extra entries behind all others.

-- a path comes before that of one number
abbrev IsShort : ℕ → List ℕ → Type 0
IsShort b path = path_cmp path (b ∷ []) ≡ Less

number_less : (a b : ℕ) → a < b → nat_cmp a b ≡ Less
number_less a b less = grind (arith, nat_tests)

is_short : (b : ℕ) (path : List ℕ) → get_or path 0 0 < b → IsShort b path
is_short b [] less = refl
is_short b (a ∷ path) less = ap (λ (o : Ordering). ordering_then o (path_cmp path [])) (number_less a b less)

-- the first of them
abbrev first_end : ℕ → ℕ → Option (List ℕ)
first_end b zero = None
first_end b (suc extra) = Some (b ∷ [])

ends : (b extra : ℕ) → Plan [] 0 extra 0 (first_end b extra) (IsShort b)
ends b zero = record {
  rows = [];
  are = tt;
  old = refl;
  missing_are = refl;
  extra_are = refl;
  changed_are = refl;
  first_is = refl;
  low = λ p a l. tt;
}
ends b (suc extra) =
    with_plan (Extra (blank (b ∷ []))) tt [] 0 extra 0 (first_end (suc b) extra) (IsShort (suc b)) (IsShort b) (ends (suc b) extra) tt
    (is_short (suc b) (b ∷ []) (omega arith)) (λ p a l. l)

-- Missing and changed entries from the first one on.

-- the first path that differs
abbrev first_taken : ℕ → ℕ → List Entry → ℕ → ℕ → Option (List ℕ)
first_taken b extra [] missing changed = first_end b extra
first_taken b extra (e ∷ es) zero zero = first_taken b extra es zero zero
first_taken b extra (e ∷ es) zero (suc changed) = Some e.path
first_taken b extra (e ∷ es) (suc missing) changed = Some e.path

-- all of these are short
abbrev AreShort : ℕ → List Entry → Type 0
AreShort b es = AllBelow (b ∷ []) es

takes : (b extra : ℕ) (es : List Entry) (missing changed : ℕ) → InOrder es → AreShort b es → missing + changed ≤ length es
    → Plan es missing extra changed (first_taken b extra es missing changed) (IsShort b)
takes b extra [] zero zero order short most = ends b extra
takes b extra [] zero (suc changed) order short most = absurd (omega arith)
takes b extra [] (suc missing) changed order short most = absurd (omega arith)
takes b extra (e ∷ es) zero zero order short most =
    with_plan (Same e e) (refl, same_entry e) es 0 extra 0 (first_taken b extra es 0 0) (IsShort b) (IsShort b)
    (takes b extra es 0 0 order.1 short.1 (omega arith)) order.0 short.0 (λ p a l. a.0)
takes b extra (e ∷ es) zero (suc changed) order short most =
    with_plan (Changed e (longer e)) (refl, other_entry e) es 0 extra changed (first_taken b extra es 0 changed) (IsShort b) (IsShort b)
    (takes b extra es 0 changed order.1 short.1 (omega arith)) order.0 short.0 (λ p a l. a.0)
takes b extra (e ∷ es) (suc missing) changed order short most =
    with_plan (Missing e) tt es missing extra changed (first_taken b extra es missing changed) (IsShort b) (IsShort b)
    (takes b extra es missing changed order.1 short.1 (omega arith)) order.0 short.0 (λ p a l. a.0)

none_taken : (b : ℕ) (es : List Entry) → first_taken b 0 es 0 0 ≡ None
none_taken b [] = refl
none_taken b (e ∷ es) = none_taken b es

first_is_taken : (b extra : ℕ) (e : Entry) (es : List Entry) (missing changed : ℕ) → 1 ≤ missing + changed
    → first_taken b extra (e ∷ es) missing changed ≡ Some e.path
first_is_taken b extra e es zero zero some = absurd (omega arith)
first_is_taken b extra e es zero (suc changed) some = refl
first_is_taken b extra e es (suc missing) changed some = refl

-- The first path that is told.

-- a plan as another one
plan_as : (olds : List Entry) (missing extra changed : ℕ) (first wanted : Option (List ℕ)) (Low Lower : List ℕ → Type 0)
    → Plan olds missing extra changed first Low → first ≡ wanted → ((p : List ℕ) → Lower p → Low p)
    → Plan olds missing extra changed wanted Lower
plan_as olds missing extra changed first wanted Low Lower plan same weaker = record {
  rows = plan.rows;
  are = plan.are;
  old = plan.old;
  missing_are = plan.missing_are;
  extra_are = plan.extra_are;
  changed_are = plan.changed_are;
  first_is = plan.first_is ∙ same;
  low = λ p a l. plan.low p a (weaker p l);
}

-- a path before the first one
abbrev IsLow : List ℕ → List ℕ → Type 0
IsLow q p = path_cmp p q ≡ Less

module _ (b : ℕ) (q : List ℕ) (q_short : IsShort b q) where
  short_low : (p : List ℕ) → path_cmp p q ≡ Less → IsShort b p
  short_low p less = nat_list_cmp_total.trans p q (b ∷ []) less q_short

  -- it is extra, before these
  extra_first : (es : List Entry) (missing extra changed : ℕ) → InOrder es → AreShort b es → AllAbove q es → missing + changed ≤ length es
      → 1 ≤ extra → Plan es missing extra changed (Some q) (IsLow q)
  extra_first es missing zero changed order short above most some = absurd (omega arith)
  extra_first es missing (suc extra) changed order short above most some =
      with_plan (Extra (blank q)) tt es missing extra changed (first_taken b extra es missing changed) (IsShort b) (IsLow q)
      (takes b extra es missing changed order short most) above q_short (λ p a l. l)

  module _ (counts : Checked) where
    planned_first : (e : Entry) (es : List Entry) → InOrder (e ∷ es) → AreShort b (e ∷ es)
        → (ListCounts es counts (Some q) → Plan es counts.missing counts.extra counts.changed (Some q) (IsLow q))
        → ListCounts (e ∷ es) counts (Some q) → (r : Ordering) → path_cmp e.path q ≡ r
        → Plan (e ∷ es) counts.missing counts.extra counts.changed (Some q) (IsLow q)
    planned_first e es order short rest fits Less is =
        with_plan (Same e e) (refl, same_entry e) es counts.missing counts.extra counts.changed (Some q) (IsLow q) (IsLow q)
        (rest (counts_as (is_some (at es q)) (is_some (at (e ∷ es) q)) (count_behind q (own_paths es))
        (count_behind q (own_paths (e ∷ es))) counts (ap is_some (sym (at_other q e es is)))
        (sym (count_other q e es (ap is_lt (after e.path q is)))) fits)) order.0 is (λ p a l. a.0)
    planned_first e es order short rest fits Equal is =
        let own : e.path ≡ q = path_cmp-IsAntisymmetric e.path q is in
        let above : AllAbove q es = subst (λ (p : List ℕ). AllAbove p es) own order.0 in
        let here : FirstCounts true (length es) counts =
        counts_as true (is_some (at (e ∷ es) q)) (length es) (count_behind q (own_paths (e ∷ es))) counts
        (ap is_some (sym (at_here q e es own)))
        (sym (count_other q e es (ap is_lt (ap (path_cmp q) own ∙ itself q)) ∙ count_all q es above)) fits in
        plan_as (e ∷ es) counts.missing counts.extra counts.changed (first_taken b counts.extra (e ∷ es) counts.missing counts.changed)
        (Some q) (IsShort b) (IsLow q) (takes b counts.extra (e ∷ es) counts.missing counts.changed order short (omega (arith, here.1)))
        (first_is_taken b counts.extra e es counts.missing counts.changed here.0 ∙ ap Some own) short_low
    planned_first e es order short rest fits Greater is =
        let less : path_cmp q e.path ≡ Less = before e.path q is in
        let above : AllAbove q (e ∷ es) = (less, above_weaker q e.path es less order.0) in
        let here : FirstCounts false (length (e ∷ es)) counts =
        counts_as false (is_some (at (e ∷ es) q)) (length (e ∷ es)) (count_behind q (own_paths (e ∷ es))) counts
        (ap is_some (sym (at_above q (e ∷ es) above))) (sym (count_all q (e ∷ es) above)) fits in
        extra_first (e ∷ es) counts.missing counts.extra counts.changed order short above here.1 here.0

    planned_at : (es : List Entry) → InOrder es → AreShort b es → ListCounts es counts (Some q)
        → Plan es counts.missing counts.extra counts.changed (Some q) (IsLow q)
    planned_at [] order short fits = extra_first [] counts.missing counts.extra counts.changed tt tt tt fits.1 fits.0
    planned_at (e ∷ es) order short fits = planned_first e es order short (planned_at es order.1 short.1) fits (path_cmp e.path q) refl

-- All of it.

-- the sum of their first numbers
abbrev heads : List Entry → ℕ
heads [] = 0
heads (e ∷ es) = get_or e.path 0 0 + heads es

are_short : (b : ℕ) (es : List Entry) → heads es < b → AreShort b es
are_short b [] less = tt
are_short b (e ∷ es) less = (is_short b e.path (omega arith), are_short b es (omega arith))

none_first : (b : ℕ) (es : List Entry) (missing extra changed : ℕ) → missing ≡ 0 → extra ≡ 0 → changed ≡ 0
    → first_taken b extra es missing changed ≡ None
none_first b es missing extra changed m x c = (λ i. first_taken b (x i) es (m i) (c i)) ∙ none_taken b es

-- rows that tell what fits
pub planned : (es : List Entry) (counts : Checked) → InOrder es → (first : Option (List ℕ)) → ListCounts es counts first
    → Plan es counts.missing counts.extra counts.changed first (λ p. ⊥)
planned es counts order None fits =
    let b = suc (heads es) in
    let most : counts.missing + counts.changed ≤ length es = omega (arith, fits.0, fits.2) in
    plan_as es counts.missing counts.extra counts.changed (first_taken b counts.extra es counts.missing counts.changed) None
    (IsShort b) (λ p. ⊥)
    (takes b counts.extra es counts.missing counts.changed order (are_short b es (omega arith)) most)
    (none_first b es counts.missing counts.extra counts.changed fits.0 fits.1 fits.2) (λ p l. absurd l)
planned es counts order (Some q) fits =
    let b = suc (get_or q 0 0 + heads es) in
    plan_as es counts.missing counts.extra counts.changed (Some q) (Some q) (IsLow q) (λ p. ⊥)
    (planned_at b q (is_short b q (omega arith)) counts es order (are_short b es (omega arith)) fits) refl (λ p l. absurd l)
