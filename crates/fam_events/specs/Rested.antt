-- What a command finds of caches, where no memory is left for it: whether they had nothing to send before it.
use Rattle.std.specs.Prelude.{ℕ, ⊤, ◌≡◌, List, Some, slice_get}
use Rattle.fam_machine.specs.Caches.{IsClean}
use Rattle.fam_journal.specs.ByWorld.{number_in}
use Rattle.fam_journal.specs.CallRecords.{IsUnstoredAt}
use Rattle.fam_journal.specs.declared.event.Event.{Event}
use Rattle.fam_journal.specs.declared.event.Event.TheVariants as event
use Rattle.fam_journal.specs.View.{HostView, WorldView}

-- no cache has anything to send
abbrev pub IsRested : WorldView → Type 0
IsRested world = (h : ℕ) (view : HostView) → slice_get world.hosts h ≡ Some view → IsClean view.cache

-- the task of the host of a name, as it was numbered, has stored nothing, and its cache has nothing to send
abbrev pub IsUnstoredOf : List ℕ → WorldView → WorldView → Type 0
IsUnstoredOf name numbered world = (h : ℕ) → number_in name numbered ≡ Some h → IsUnstoredAt h world

-- a host runs a command
abbrev pub IsRun : Event → Type 0
IsRun (event.Host name uuid) = ⊥
IsRun (event.Mkfs name request) = ⊥
IsRun (event.Begin name what) = ⊥
IsRun (event.Run name what) = ⊤
IsRun (event.Step name count) = ⊥
IsRun (event.Finish name) = ⊥
IsRun (event.Stop name) = ⊥
IsRun (event.Halt name) = ⊥
IsRun (event.Umount name) = ⊥
IsRun (event.Evict name line) = ⊥
IsRun (event.Leak name line mask) = ⊥
IsRun (event.Fetch name line mask) = ⊥
