-- A task, its host's cache and the media before and behind operations, over any media.
use Rattle.std.specs.Prelude.{ℕ}
use Rattle.fam_media.specs.States.{MediaChange, MediaState, change}
use Rattle.fam_machine.specs.Caches.{Cache}
use Rattle.fam_cache.specs.States.{CacheState}
use Rattle.fam_commands.specs.Task.{Task}

-- the task, the host's cache, how many lines the media has, and what it tells
pub record TaskChange : Type 0 where
  pub task : Task
  pub next : Task
  pub old : Cache
  pub new : Cache
  pub lines : ℕ
  pub media : MediaChange

-- by a call on a media, of which these tell the size and the state
abbrev pub task_change : {M : Type 0} → (M → ℕ) → (M → MediaState) → Task → Task → CacheState → CacheState → M → M → TaskChange
task_change size state task next old new before after = record {
  task = task;
  next = next;
  old = old.lines;
  new = new.lines;
  lines = size before;
  media = change state before after;
}
