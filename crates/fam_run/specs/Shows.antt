-- Tasks that only read, over a cache that lacks copies which their host has forgotten. What is told of them is told of a cache
-- that has all.
use Rattle.std.specs.Prelude.{◌≡◌, None}
use Rattle.fam_cache.specs.Shed.{IsShed, WantsSame}
use Rattle.fam_commands.specs.Appends.{IsBeforeWrites}
use Rattle.fam_commands.specs.Task.{Task, op_of}
use Rattle.fam_machine.specs.Caches.{Cache}
use Rattle.fam_rules.specs.Decide.{wish_of}

-- the task reads, and never stores: its command appends nothing
pub record OnlyReads (t : Task) : Type 0 where
  pub before : IsBeforeWrites t.phase
  pub wish : wish_of t.cmd ≡ None

-- the first cache lacks clean copies of the other one, and the task's next operation finds the same in both
pub record Shows (t : Task) (real shown : Cache) : Type 0 where
  pub shed : IsShed real shown
  pub same : WantsSame (op_of t) real shown
