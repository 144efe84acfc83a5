-- Lines that stand one behind another, of which memory lacks no word: by one call of the media they are brought anew.
use Rattle.std.specs.Prelude.{ℕ, zero, suc, ◌+◌, ◌<◌, List, ⊤}
use Rattle.fam_base.specs.Image.{eight}
use Rattle.fam_machine.specs.declared.cell.Cell.{Cell}
use Rattle.fam_machine.specs.declared.cell.Cell.TheVariants.{Absent, Clean, Dirty}
use Rattle.fam_machine.specs.Caches.{Cache, cell_at, with_cell}
use Rattle.fam_machine.specs.OneLine.{IsDirty}
use Rattle.fam_media.specs.Runs.{line_in}

-- the first so many of these lines are brought anew, from line `first` on: their copies are clean
abbrev pub brought_run : ℕ → List (List ℕ) → ℕ → Cache → Cache
brought_run first lines zero cache = cache
brought_run first lines (suc k) cache = with_cell (first + k) (Clean (eight (line_in lines k))) (brought_run first lines k cache)

-- of so many lines, from line `first` on, none is dirty
abbrev pub LacksNone : Cache → ℕ → ℕ → Type 0
LacksNone cache first count = (k : ℕ) → k < count → ¬ (IsDirty (cell_at cache (first + k)))

-- the host holds a copy of which memory lacks no word
abbrev pub IsClean : Cell → Type 0
IsClean Absent = ⊥
IsClean (Clean words) = ⊤
IsClean (Dirty asked words) = ⊥

-- so it does of each of so many lines, from line `first` on
abbrev pub AreClean : Cache → ℕ → ℕ → Type 0
AreClean cache first count = (k : ℕ) → k < count → IsClean (cell_at cache (first + k))
