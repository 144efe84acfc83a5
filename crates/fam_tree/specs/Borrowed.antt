-- Of what a borrowed entry is made.
use Rattle.std.specs.Prelude.{ℕ, ◌≤◌, List, IsTrue, length}
use Rattle.fam_base.specs.ExtentLists.{extent_limit}
use Rattle.fam_base.specs.Paths.{is_path}
use Rattle.fam_base.specs.declared.entry.Entry.{Entry}
use Rattle.fam_base.specs.declared.entry.Kind.{Kind}
use Rattle.fam_base.specs.declared.entry.MapKind.{MapKind}
use Rattle.fam_base.specs.declared.extents.Extent.{Extent}

-- the entry of these fields
abbrev pub made_of : Kind → MapKind → ℕ → ℕ → ℕ → ℕ → List ℕ → List Extent → Entry
made_of kind map size mode uid gid path extents =
    record { kind = kind; path = path; size = size; mode = mode; uid = uid; gid = gid; map = map; extents = extents }

-- its path is one, and its extents are at most extent_limit (16)
pub record IsBorrowed (bytes : List ℕ) (items : List Extent) : Type 0 where
  pub path : IsTrue (is_path bytes)
  pub few : length items ≤ extent_limit
