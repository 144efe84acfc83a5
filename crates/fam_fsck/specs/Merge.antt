-- One pass over the entries of a tree and a listing, both in byte order of their paths.
use Rattle.std.specs.Prelude.{ℕ, ◌+◌, if◌then◌else◌, List, [], ◌∷◌, fold, Option, Some, None}
use Rattle.std.specs.Ordering.{is_lt}
use Rattle.fam_base.specs.declared.entry.Entry.{Entry}
use Rattle.fam_base.specs.PathOrder.{path_cmp, path_eq}
use Rattle.fam_rules.specs.declared.answers.Checked.{Checked}
use Rattle.fam_rules.specs.Checks.{entry_eq}

-- before the first entry
abbrev pub no_difference : Checked
no_difference = record { missing = 0; extra = 0; changed = 0; first = None }

-- the path of the first entry that differs
abbrev pub first_path : Option (List ℕ) → Entry → Option (List ℕ)
first_path None e = Some e.path
first_path (Some path) e = Some path

-- with an entry of the tree that the listing lacks
abbrev pub with_missing : Checked → Entry → Checked
with_missing c e = record c { missing = c.missing + 1; first = first_path c.first e }

-- with an entry of the listing that the tree lacks
abbrev pub with_extra : Checked → Entry → Checked
with_extra c e = record c { extra = c.extra + 1; first = first_path c.first e }

-- with an entry of the listing that the tree has otherwise
abbrev pub with_changed : Checked → Entry → Checked
with_changed c e = record c { changed = c.changed + 1; first = first_path c.first e }

-- with an entry of the tree, and the listing's at its path
abbrev pub with_pair : Checked → Entry → Entry → Checked
with_pair c t e = if entry_eq t e then c else with_changed c e

-- the entries of a listing before a path are extra
abbrev pub passed : List ℕ → Checked → List Entry → Checked
passed path c [] = c
passed path c (e ∷ more) = if is_lt (path_cmp e.path path) then passed path (with_extra c e) more else c

-- the others, from the path on
abbrev pub left : List ℕ → List Entry → List Entry
left path [] = []
left path (e ∷ more) = if is_lt (path_cmp e.path path) then left path more else e ∷ more

-- an entry of the tree beside the first of a listing, which has none before it
abbrev pub met : Entry → Checked → List Entry → Checked
met t c [] = with_missing c t
met t c (e ∷ more) = if path_eq e.path t.path then with_pair c t e else with_missing c t

-- the listing behind it
abbrev pub listing_after : Entry → List Entry → List Entry
listing_after t [] = []
listing_after t (e ∷ more) = if path_eq e.path t.path then more else e ∷ more

-- the entries of a tree beside a listing; what is left of the listing at last is extra
abbrev pub compared_lists : Checked → List Entry → List Entry → Checked
compared_lists c [] listing = fold with_extra c listing
compared_lists c (t ∷ more) listing = compared_lists (met t (passed t.path c listing) (left t.path listing)) more (listing_after t (left t.path listing))
