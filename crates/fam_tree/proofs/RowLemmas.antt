-- Entries in rows, and one more behind them.
use Rattle.std.proofs.Common.{◌≡◌, ℕ, ◌+◌, ◌-◌, ◌<◌, ◌≤◌, List, [], ◌∷◌, ◌++◌, length, get_or, take, drop, refl, sym, ap, ap₂, subst, ◌∙◌, arith, length-append}
use Rattle.std.specs.Prelude.{IsTrue, slice_range}
use Rattle.std.proofs.lemmas.Slice.{between_is}
use Rattle.std.proofs.lemmas.List.{drop_at, get_or-map, map-append, take-append-le, take_all}
use Rattle.fam_base.specs.ExtentLists.{extent_limit}
use Rattle.fam_base.specs.Paths.{is_path}
use Rattle.fam_base.specs.declared.entry.Entry.{Entry}
use Rattle.fam_base.specs.declared.extents.Extent.{Extent}
use Rattle.fam_tree.specs.Rows.{AreRows, IsRow, entries_of_rows, entry_of, path_in, row_of}
use Rattle.fam_tree.specs.Runs.{entry_at, no_entry}
use Rattle.fam_tree.specs.declared.row.Row.{Row}
use Rattle.fam_tree.proofs.Edits.{all_at}
use Rattle.fam_tree.proofs.Ordered.{all_joined}

-- ---- parts of a list

module _ {X : Type 0} (xs ys : List X) where
  -- what is put behind changes no part
  part_more : (i j : ℕ) → j ≤ length xs → slice_range (xs ++ ys) i j ≡ slice_range xs i j
  part_more i j within = between_is (xs ++ ys) i j ∙ ap (drop i) (take-append-le j xs ys within) ∙ sym (between_is xs i j)

  -- and is the last part
  part_behind : slice_range (xs ++ ys) (length xs) (length xs + length ys) ≡ ys
  part_behind =
      let n : ℕ = length xs + length ys - length xs in
      ap (take n) (drop_at xs ys (length xs) refl) ∙ take_all n ys (omega arith)

-- ---- what is put behind changes no entry

module _ (paths more : List ℕ) (extents others : List Extent) where
  path_more : (row : Row) → IsRow paths extents row → path_in (paths ++ more) row ≡ path_in paths row
  path_more row is = part_more paths more row.path_start (row.path_start + row.path_len) is.path_within

  entry_more : (row : Row) → IsRow paths extents row → entry_of (paths ++ more) (extents ++ others) row ≡ entry_of paths extents row
  entry_more row is =
      ap₂ (λ (p : List ℕ) (x : List Extent). record { kind = row.kind; path = p; size = row.size; mode = row.mode; uid = row.uid; gid = row.gid; map = row.map; extents = x })
      (path_more row is) (part_more extents others row.extents_start (row.extents_start + row.extents_len) is.extents_within)

  row_more : (row : Row) → IsRow paths extents row → IsRow (paths ++ more) (extents ++ others) row
  row_more row is = record {
    path_within = omega (arith, is.path_within, length-append paths more);
    extents_within = omega (arith, is.extents_within, length-append extents others);
    path = subst (λ (p : List ℕ). IsTrue (is_path p)) (sym (path_more row is)) is.path;
    few = is.few;
  }

  rows_more : (rows : List Row) → AreRows paths extents rows → AreRows (paths ++ more) (extents ++ others) rows
  rows_more [] are = tt
  rows_more (row ∷ rows) are = (row_more row are.0, rows_more rows are.1)

  entries_more : (rows : List Row) → AreRows paths extents rows → entries_of_rows (paths ++ more) (extents ++ others) rows ≡ entries_of_rows paths extents rows
  entries_more [] are = refl
  entries_more (row ∷ rows) are =
      ap₂ (λ (e : Entry) (es : List Entry). e ∷ es) (entry_more row are.0) (entries_more rows are.1)

-- ---- one more entry

module _ (paths paths_new : List ℕ) (extents extents_new : List Extent) (rows rows_new : List Row) (row : Row) (e : Entry) (are : AreRows paths extents rows)
    (is : row ≡ row_of e (length paths) (length extents)) (longer : paths_new ≡ paths ++ e.path) (more : extents_new ≡ extents ++ e.extents) (put : rows_new ≡ rows ++ row ∷ []) where
  own_path : path_in paths_new row ≡ e.path
  own_path = ap₂ path_in longer is ∙ part_behind paths e.path

  own : entry_of paths_new extents_new row ≡ e
  own =
      ap (λ (r : Row). entry_of paths_new extents_new r) is
      ∙ ap₂ (λ (p : List ℕ) (x : List Extent). entry_of p x (row_of e (length paths) (length extents))) longer more
      ∙ ap₂ (λ (p : List ℕ) (x : List Extent). record { kind = e.kind; path = p; size = e.size; mode = e.mode; uid = e.uid; gid = e.gid; map = e.map; extents = x })
      (part_behind paths e.path) (part_behind extents e.extents)

  others : entries_of_rows paths_new extents_new rows ≡ entries_of_rows paths extents rows
  others = ap₂ (λ (p : List ℕ) (x : List Extent). entries_of_rows p x rows) longer more ∙ entries_more paths e.path extents e.extents rows are

  -- it is the last one
  pub put_entries : entries_of_rows paths_new extents_new rows_new ≡ entries_of_rows paths extents rows ++ e ∷ []
  put_entries =
      ap (entries_of_rows paths_new extents_new) put ∙ map-append (entry_of paths_new extents_new) rows (row ∷ [])
      ∙ ap₂ (λ (es : List Entry) (last : Entry). es ++ last ∷ []) others own

  last_row : IsTrue (is_path e.path) → length e.extents ≤ extent_limit → IsRow paths_new extents_new row
  last_row path few = record {
    path_within = omega (arith, ap (λ (l : List ℕ). length l) longer, length-append paths e.path, ap (λ (r : Row). r.path_start) is, ap (λ (r : Row). r.path_len) is);
    extents_within = omega (arith, ap (λ (l : List Extent). length l) more, length-append extents e.extents, ap (λ (r : Row). r.extents_start) is, ap (λ (r : Row). r.extents_len) is);
    path = subst (λ (p : List ℕ). IsTrue (is_path p)) (sym own_path) path;
    few = omega (arith, few, ap (λ (r : Row). r.extents_len) is);
  }

  pub put_rows : IsTrue (is_path e.path) → length e.extents ≤ extent_limit → AreRows paths_new extents_new rows_new
  put_rows path few =
      let old : AreRows paths_new extents_new rows =
      subst (λ (p : List ℕ). AreRows p extents_new rows) (sym longer) (subst (λ (x : List Extent). AreRows (paths ++ e.path) x rows) (sym more) (rows_more paths e.path extents e.extents rows are)) in
      subst (λ (l : List Row). AreRows paths_new extents_new l) (sym put) (all_joined (IsRow paths_new extents_new) rows (row ∷ []) old (last_row path few, tt))

-- ---- the entry at a place

module _ (paths : List ℕ) (extents : List Extent) (rows : List Row) where
  module _ (place : ℕ) (row : Row) (below : place < length rows) (is : row ≡ get_or rows place row) where
    pub entry_at-rows : entry_of paths extents row ≡ entry_at (entries_of_rows paths extents rows) place
    entry_at-rows = ap (entry_of paths extents) is ∙ sym (get_or-map (entry_of paths extents) rows place row no_entry below)

    pub row_at : AreRows paths extents rows → IsRow paths extents row
    row_at are = subst (IsRow paths extents) (sym is) (all_at (IsRow paths extents) rows place row are below)
