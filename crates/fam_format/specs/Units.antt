-- Allocation units: which ones a list of entries uses. docs/FORMAT.md, "Units".
use Rattle.std.specs.Prelude.{ℕ, ◌/◌, ◌<◌, ◌==◌, ◌||◌, ◌⊎◌, Bool, nat_lt, if◌then◌else◌, List, [], ◌∷◌, Option, Some, None, Contains}
use Rattle.std.specs.List.{flat_map, list_any, range_with_len}
use Rattle.fam_base.specs.declared.entry.Params.{Params}
use Rattle.fam_base.specs.declared.entry.Entry.{Entry}
use Rattle.fam_base.specs.declared.extents.Extent.{Extent}
use Rattle.fam_format.specs.Layout.{head_units}

-- the units of extents, in the order of the extents and upwards in each
abbrev pub units_in : ℕ → List Extent → List ℕ
units_in unit extents = flat_map (λ x. range_with_len (x.offset / unit) (x.length / unit)) extents

-- the units of all extents of a list of entries
abbrev pub list_units : ℕ → List Entry → List ℕ
list_units unit list = flat_map (λ e. units_in unit e.extents) list

-- superblock and log, or an extent of an entry of the list
abbrev pub Used : Params → List Entry → ℕ → Type 0
Used p list u = (u < head_units p) ⊎ Contains (list_units p.unit list) u

-- the same as a test
abbrev pub is_used : Params → List Entry → ℕ → Bool
is_used p list u = nat_lt u (head_units p) || list_any (λ v. v == u) (list_units p.unit list)

-- the first of these units that is used or that stands among them twice
abbrev pub first_overlap : (ℕ → Bool) → List ℕ → Option ℕ
first_overlap used [] = None
first_overlap used (u ∷ more) = if used u then Some u else first_overlap (λ v. (v == u) || used v) more
