-- What a contract sees of an `AllocMap` or of `UsedUnits`: a list that says of each unit whether it is used.
use Rattle.std.specs.Prelude.{ℕ, Bool, false, ◌==◌, ◌+◌, ◌*◌, ◌≤◌, List, map, slice_index_or, count_by}
use Rattle.std.specs.List.{All, list_any, range_with_len}
use Rattle.fam_base.specs.declared.extents.Extent.{Extent}

-- unit u is used. No unit past the last one is
abbrev pub is_taken : List Bool → ℕ → Bool
is_taken map u = slice_index_or map u false

-- how many units are used
abbrev pub taken_units : List Bool → ℕ
taken_units map = count_by (λ b. b) map

-- unit u is in the list
abbrev pub holds : List ℕ → ℕ → Bool
holds us u = list_any (λ v. v == u) us

-- the extents end within so many units
abbrev pub LieWithin : ℕ → ℕ → List Extent → Type 0
LieWithin unit units extents = All (λ x. x.offset + x.length ≤ units * unit) extents

-- a test of so many units as such a list
unfoldable pub units_by : (ℕ → Bool) → ℕ → List Bool
units_by used units = map used (range_with_len 0 units)
