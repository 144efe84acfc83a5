-- The next extent of a list in print.
use Rattle.std.specs.Prelude.{ℕ, ◌==◌, if◌then◌else◌, List, [], ◌∷◌, Option, Some, None, slice_get}
use Rattle.fam_base.specs.declared.extents.Extent.{Extent}
use Rattle.fam_tree.specs.Lines.{comma, extent_text}

-- an extent with a comma before it, unless it is the first
abbrev pub next_form : ℕ → Option Extent → List ℕ
next_form i None = []
next_form i (Some extent) = if i == 0 then extent_text extent else comma ∷ extent_text extent

-- what is printed of the extent at a place
abbrev pub next_text : List Extent → ℕ → List ℕ
next_text extents i = next_form i (slice_get extents i)
