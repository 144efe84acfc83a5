-- The first store of an append, and the tasks that have come no further.
use Rattle.std.specs.Prelude.{◌≡◌, ◌⊎◌, Some}
use Rattle.fam_base.specs.declared.entry.Entry.{Entry}
use Rattle.fam_commands.specs.Appends.{IsBeforeWrites}
use Rattle.fam_commands.specs.Task.{Task}
use Rattle.fam_commands.specs.Turns.{first_store}
use Rattle.fam_machine.specs.Caches.{Cache, IsClean}

-- the first store of an append comes next
pub record IsFirstStore (t : Task) : Type 0 where
  pub new : Entry
  pub entry : t.entry ≡ Some new
  pub phase : t.phase ≡ first_store new.size

-- nothing of an append was stored or sent
abbrev pub IsUpToStore : Task → Type 0
IsUpToStore t = IsBeforeWrites t.phase ⊎ IsFirstStore t

-- and its host's cache has nothing to send either, as long as the task still reads
abbrev pub IsUnstored : Task → Cache → Type 0
IsUnstored t held = IsUpToStore t × (IsBeforeWrites t.phase → IsClean held)
