-- Lines that stand one behind another, and are brought by one call.
use Rattle.std.proofs.Common.{ℕ, zero, suc, ◌+◌, List, refl}
use Rattle.fam_base.specs.Image.{eight}
use Rattle.fam_machine.specs.Caches.{Cache}
use Rattle.fam_media.specs.Runs.{line_in}
use Rattle.fam_cache.specs.Blocks.{AskedWithin}
use Rattle.fam_cache.specs.BroughtRuns.{brought_run}
use Rattle.fam_cache.proofs.AskedRange.{within_clean}

-- none of them is asked for
pub within_run : (low high first : ℕ) (lines : List (List ℕ)) (count : ℕ) (cache : Cache) → AskedWithin low high cache → AskedWithin low high (brought_run first lines count cache)
within_run low high first lines zero cache was = was
within_run low high first lines (suc k) cache was =
    within_clean low high (brought_run first lines k cache) (brought_run first lines (suc k) cache) (within_run low high first lines k cache was) (first + k) (eight (line_in lines k)) refl
