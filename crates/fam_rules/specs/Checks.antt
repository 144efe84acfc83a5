-- How a tree differs from a listing. docs/MODEL.md, "Reports".
use Rattle.std.specs.Prelude.{ℕ, ◌&&◌, ◌==◌, not, Bool, false, List, ◌++◌, length, filter, Option, Some, None}
use Rattle.std.specs.List.{fold}
use Rattle.std.specs.FinMap as finmap
use Rattle.std.specs.declared.cmp.Ordering.{Ordering}
use Rattle.std.specs.declared.cmp.Ordering.TheVariants.{Less, Equal, Greater}
use Rattle.fam_base.specs.declared.entry.Entry.{Entry}
use Rattle.fam_base.specs.ExtentLists.{extents_eq}
use Rattle.fam_base.specs.PathOrder.{path_cmp, path_eq}
use Rattle.fam_format.specs.Slot.{kind_word, map_word, chunk_word}
use Rattle.fam_format.specs.Tree.{Tree, replay}
use Rattle.fam_rules.specs.declared.answers.Checked.{Checked}

-- two entries agree in every field
abbrev pub entry_eq : Entry → Entry → Bool
entry_eq a b =
    (kind_word a.kind == kind_word b.kind) && path_eq a.path b.path && (a.size == b.size) && (a.mode == b.mode) && (a.uid == b.uid) && (a.gid == b.gid) && (map_word a.map == map_word b.map) && (chunk_word a.map == chunk_word b.map) && extents_eq a.extents b.extents

-- a tree has nothing at the entry's path
abbrev pub is_lacked : Tree → Entry → Bool
is_lacked tree e = not (finmap.contains_key tree e.path)

-- another entry stands there
abbrev pub is_other : Option Entry → Entry → Bool
is_other None e = false
is_other (Some old) e = not (entry_eq old e)

-- a tree has another entry at the entry's path
abbrev pub is_changed : Tree → Entry → Bool
is_changed tree e = is_other (finmap.get tree e.path) e

-- the entries of the tree that the listing lacks
abbrev pub missing_from : Tree → List Entry → List Entry
missing_from tree listing = filter (is_lacked (replay listing)) (finmap.values tree)

-- the entries of the listing that the tree lacks
abbrev pub extra_in : Tree → List Entry → List Entry
extra_in tree listing = filter (is_lacked tree) listing

-- the entries of the listing that the tree has otherwise
abbrev pub changed_in : Tree → List Entry → List Entry
changed_in tree listing = filter (is_changed tree) listing

-- the lesser of two paths
abbrev pub lesser_by : Ordering → List ℕ → List ℕ → List ℕ
lesser_by Less path other = path
lesser_by Equal path other = path
lesser_by Greater path other = other

-- the least of a path, where there is one yet, and an entry's
abbrev pub lesser : Option (List ℕ) → Entry → Option (List ℕ)
lesser None e = Some e.path
lesser (Some path) e = Some (lesser_by (path_cmp path e.path) path e.path)

-- the least path of entries, none of no entries
abbrev pub least_path : List Entry → Option (List ℕ)
least_path entries = fold lesser None entries

-- how many paths are missing, extra or changed, and the least of them
unfoldable pub checked : Tree → List Entry → Checked
checked tree listing = record {
  missing = length (missing_from tree listing);
  extra = length (extra_in tree listing);
  changed = length (changed_in tree listing);
  first = least_path (missing_from tree listing ++ extra_in tree listing ++ changed_in tree listing);
}
