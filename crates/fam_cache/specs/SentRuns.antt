-- Lines that stand one behind another and were asked for: by one call of the media they are sent.
use Rattle.std.specs.Prelude.{ℕ, zero, suc, ◌+◌, ◌≡◌, ◌<◌, true, List, Option}
use Rattle.fam_base.specs.Image.{eight}
use Rattle.fam_machine.specs.declared.cell.Cell.{Cell}
use Rattle.fam_machine.specs.declared.cell.Cell.TheVariants.{Dirty}
use Rattle.fam_machine.specs.Caches.{Cache, cell_at, cell_changed}
use Rattle.fam_machine.specs.OneLine.{cleaned}
use Rattle.fam_media.specs.Outside.{IsTorn}
use Rattle.fam_media.specs.Runs.{line_in, run_written}
use Rattle.fam_cache.specs.Runs.{CacheOver}

-- the copy was asked for, and has the words of line k of these
pub record IsAskedCopy (copy : Cell) (lines : List (List ℕ)) (k : ℕ) : Type 0 where
  pub is : copy ≡ Dirty true (eight (line_in lines k))
  pub whole : eight (line_in lines k) ≡ line_in lines k

-- so the host's copy is of line k of these, the first of which is line `first`
abbrev pub IsAskedLine : Cache → ℕ → List (List ℕ) → ℕ → Type 0
IsAskedLine cache first lines k = IsAskedCopy (cell_at cache (first + k)) lines k

-- so many lines from line `first` on are clean
abbrev pub cleaned_run : ℕ → ℕ → Cache → Cache
cleaned_run first zero cache = cache
cleaned_run first (suc k) cache = cell_changed (first + k) cleaned (cleaned_run first k cache)

-- the first so many of these lines, each of which was asked for, were sent
pub record AreSent (first : ℕ) (lines : List (List ℕ)) (count : ℕ) (before now : CacheOver) : Type 0 where
  pub asked : (k : ℕ) → k < count → IsAskedLine before.lines first lines k
  pub cleans : now.lines ≡ cleaned_run first count before.lines
  pub sends : now.image ≡ run_written first lines count before.image

-- so many lines from line `first` on were sent
pub record SendsRun (first count : ℕ) (before now : CacheOver) : Type 0 where
  pub lines : List (List ℕ)
  pub sent : AreSent first lines count before now

-- lines from line `first` on were sent, up to the one at which the media failed
pub record BreaksOff (first line : ℕ) (before after : CacheOver) : Type 0 where
  pub lines : List (List ℕ)
  pub count : ℕ
  pub at : line ≡ first + count
  pub left : Option (List (List ℕ))
  pub sent : AreSent first lines count before (record { image = left; lines = after.lines })
  pub next : IsAskedLine before.lines first lines count
  pub torn : IsTorn left after.image line (line_in lines count)
