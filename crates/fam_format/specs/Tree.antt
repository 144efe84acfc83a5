-- The tree of a list of entries, and which entries join a list.
use Rattle.std.specs.Prelude.{ℕ, Option, Some, None, List, fold}
use Rattle.std.specs.FinMap as map
use Rattle.fam_base.specs.declared.entry.Params.{Params}
use Rattle.fam_base.specs.declared.entry.Entry.{Entry}
use Rattle.fam_base.specs.declared.entry.Kind.{Kind}
use Rattle.fam_base.specs.declared.entry.Kind.TheVariants.{File, Directory}
use Rattle.fam_base.specs.Paths.{parent_of}
use Rattle.fam_base.specs.PathOrder.{path_cmp}
use Rattle.fam_format.specs.declared.faults.Reason.{Reason}
use Rattle.fam_format.specs.declared.faults.Reason.TheVariants.{Exists, NoParent, ParentIsFile, Overlap}
use Rattle.fam_format.specs.Stop.{or_else}
use Rattle.fam_format.specs.Units.{units_in, is_used, first_overlap}

-- a finite map from path to entry
abbrev pub Tree : Type 0
Tree = map.FinMap path_cmp Entry

-- the tree with an entry at its path
abbrev pub with_entry : Tree → Entry → Tree
with_entry tree e = map.insert tree e.path e

-- each path of the list with its entry
abbrev pub replay : List Entry → Tree
replay list = fold with_entry map.empty list

-- something stands at the path
abbrev pub exists_fault : Option Entry → Option Reason
exists_fault (Some old) = Some (Exists old.kind)
exists_fault None = None

-- a file has nothing below it
abbrev pub file_fault : Kind → Option Reason
file_fault File = Some ParentIsFile
file_fault Directory = None

-- the parent is missing, or a file
abbrev pub parent_fault : Option Entry → Option Reason
parent_fault None = Some NoParent
parent_fault (Some parent) = file_fault parent.kind

-- a path of one component has the root as its parent, which always exists
abbrev pub root_fault : Tree → Option (List ℕ) → Option Reason
root_fault tree None = None
root_fault tree (Some parent) = parent_fault (map.get tree parent)

-- why an entry can't be put into a tree, or nothing where it can
abbrev pub tree_fault : Tree → Entry → Option Reason
tree_fault tree e = or_else (exists_fault (map.get tree e.path)) (root_fault tree (parent_of e.path))

-- a unit is used, or stands twice
abbrev pub overlap_fault : Option ℕ → Option Reason
overlap_fault None = None
overlap_fault (Some unit) = Some (Overlap unit)

-- why an entry doesn't join a list, or nothing where it does: the tree first, then the units
unfoldable pub join_fault : Params → List Entry → Entry → Option Reason
join_fault p list e =
    or_else (tree_fault (replay list) e) (overlap_fault (first_overlap (is_used p list) (units_in p.unit e.extents)))
