-- An append of a host whose memory may run out: nothing of it was stored, or it has its places.
use Rattle.std.specs.Prelude.{ℕ, ◌≡◌, ◌⊎◌, ◌<◌, Option, Some}
use Rattle.fam_base.specs.Image.{Image}
use Rattle.fam_cache.specs.States.{CacheState}
use Rattle.fam_commands.specs.Appends.{IsBeforeWrites}
use Rattle.fam_commands.specs.FirstStore.{IsUpToStore}
use Rattle.fam_commands.specs.Task.{Task}
use Rattle.fam_machine.specs.Caches.{Cache, IsClean}
use Rattle.fam_media.specs.Outside.{IfModelled}
use Rattle.fam_run.specs.Places.{HasPlaces}

-- memory is as it was, and a cache has nothing to send as long as the task still reads, where an image is modelled
abbrev pub IsCalm : Option Image → Option Image → Task → Cache → Type 0
IsCalm told now t held = IfModelled told (λ image. (now ≡ Some image) × (IsBeforeWrites t.phase → IsClean held))

-- nothing of an append was stored; or it has its places, and there is room for its answer
abbrev pub IsSafe : Option Image → Option Image → Task → CacheState → ℕ → ℕ → Type 0
IsSafe told now t cache notes room = (IsUpToStore t × IsCalm told now t cache.lines) ⊎ (HasPlaces t cache × (notes < room))
