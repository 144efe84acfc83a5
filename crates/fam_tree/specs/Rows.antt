-- Entries in rows. A row has what is of fixed size, and says where the entry's path stands among the bytes of all paths,
-- and its extents among all extents.
use Rattle.std.specs.Prelude.{ℕ, ◌+◌, ◌≤◌, List, IsTrue, length, map, slice_range}
use Rattle.std.specs.List.{AllByRecursion}
use Rattle.fam_base.specs.ExtentLists.{extent_limit}
use Rattle.fam_base.specs.Paths.{is_path}
use Rattle.fam_base.specs.declared.entry.Entry.{Entry}
use Rattle.fam_base.specs.declared.extents.Extent.{Extent}
use Rattle.fam_tree.specs.declared.row.Row.{Row}

-- the path of a row
abbrev pub path_in : List ℕ → Row → List ℕ
path_in paths row = slice_range paths row.path_start (row.path_start + row.path_len)

-- its extents
abbrev pub extents_in : List Extent → Row → List Extent
extents_in extents row = slice_range extents row.extents_start (row.extents_start + row.extents_len)

-- its entry
abbrev pub entry_of : List ℕ → List Extent → Row → Entry
entry_of paths extents row =
    record { kind = row.kind; path = path_in paths row; size = row.size; mode = row.mode; uid = row.uid; gid = row.gid; map = row.map; extents = extents_in extents row }

-- the entries of rows
abbrev pub entries_of_rows : List ℕ → List Extent → List Row → List Entry
entries_of_rows paths extents rows = map (entry_of paths extents) rows

-- the row of an entry whose path and extents begin at these places
abbrev pub row_of : Entry → ℕ → ℕ → Row
row_of e path_start extents_start =
    record { map = e.map; size = e.size; path_start = path_start; extents_start = extents_start; mode = e.mode; uid = e.uid; gid = e.gid; path_len = length e.path; kind = e.kind; extents_len = length e.extents }

-- what a row says is there: its path is a path, and its extents are at most extent_limit (16)
pub record IsRow (paths : List ℕ) (extents : List Extent) (row : Row) : Type 0 where
  pub path_within : row.path_start + row.path_len ≤ length paths
  pub extents_within : row.extents_start + row.extents_len ≤ length extents
  pub path : IsTrue (is_path (path_in paths row))
  pub few : row.extents_len ≤ extent_limit

-- and so it is of each row
abbrev pub AreRows : List ℕ → List Extent → List Row → Type 0
AreRows paths extents rows = AllByRecursion (IsRow paths extents) rows
