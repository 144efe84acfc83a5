-- Entries that read, and what a survey says of them.
use Rattle.std.specs.Prelude.{ℕ, ◌≡◌, Bool, true, false, List, [], ◌∷◌, ◌++◌, map, filter, Option, Some, None}
use Rattle.fam_base.specs.declared.entry.Entry.{Entry}
use Rattle.fam_base.specs.declared.entry.Params.{Params}
use Rattle.fam_alloc.specs.Taken.{LieWithin}
use Rattle.fam_format.specs.Tree.{Tree, with_entry, tree_fault}
use Rattle.fam_format.specs.declared.faults.Reason.{Reason}
use Rattle.fam_fsck.specs.declared.found.Found.{Found}
use Rattle.fam_fsck.specs.declared.found_list.Mark.{Mark}
use Rattle.fam_fsck.specs.declared.joining.Joined.{Joined}

-- the entry with its number
abbrev pub pair_of : Found → ℕ × Entry
pair_of f = (f.number, f.entry)

-- all of them, as a survey lists them
abbrev pub pairs_of : List Found → List (ℕ × Entry)
pairs_of list = map pair_of list

-- those that applied
abbrev pub applied_of : List Found → List Entry
applied_of list = map (λ f. f.entry) (filter (λ f. f.applies) list)

-- its extents end within so many units
abbrev pub LiesWithin : ℕ → ℕ → Found → Type 0
LiesWithin unit units f = LieWithin unit units f.entry.extents

-- an entry applies where nothing is against it
abbrev pub applies_where : Option Reason → Bool
applies_where None = true
applies_where (Some reason) = false

-- the tree after an entry that applies, or doesn't
abbrev pub tree_after : Option Reason → Tree → Entry → Tree
tree_after None tree e = with_entry tree e
tree_after (Some reason) tree e = tree

-- the entry as it was found
abbrev pub found_as : ℕ → Entry → Option Reason → Found
found_as number e fault = record { number = number; entry = e; applies = applies_where fault }

-- an entry with what is told of it beside
abbrev pub with_mark : Entry → Mark → Found
with_mark e m = record { number = m.number; entry = e; applies = m.applies }

-- entries, each with the mark at its place
abbrev pub found_of : List Entry → List Mark → List Found
found_of [] marks = []
found_of (e ∷ es) [] = []
found_of (e ∷ es) (m ∷ ms) = with_mark e m ∷ found_of es ms

-- an entry joined the tree where it applies, and it is noted why it doesn't
pub record HasJoined (old : Joined) (e : Entry) (new : Joined) : Type 0 where
  pub fault : new.fault ≡ tree_fault old.tree e
  pub tree : new.tree ≡ tree_after new.fault old.tree e

-- the entries that were found
abbrev pub found_entries : List Found → List Entry
found_entries found = map (λ f. f.1) (pairs_of found)

-- entries of a file system
pub record Finds : Type 0 where
  pub params : Params
  pub found : List Found

-- none yet
abbrev pub first_finds : Params → Finds
first_finds p = record { params = p; found = [] }

-- one more
abbrev pub with_found : Finds → Found → Finds
with_found s f = record s { found = s.found ++ f ∷ [] }
