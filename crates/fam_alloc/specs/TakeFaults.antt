-- What a refused `take` says.
use Rattle.std.specs.Prelude.{ℕ, Option, Some, None, ◌≡◌}
use Rattle.fam_alloc.specs.declared.alloc_map.TakeFault.{TakeFault}
use Rattle.fam_alloc.specs.declared.alloc_map.TakeFault.TheVariants.{Overlap, OutOfMemory}

-- a fault that names a unit names the first one that overlaps, and where memory runs out there is none
abbrev pub NamesOverlap : Option ℕ → TakeFault → Type 0
NamesOverlap first (Overlap u) = first ≡ Some u
NamesOverlap first OutOfMemory = first ≡ None
