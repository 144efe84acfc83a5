-- Operations of a task on copies of its host alone, one after another: they ask nothing of the media, and can't fail.
use Rattle.std.specs.Prelude.{ℕ, suc, ◌≡◌, false, slice_set}
use Rattle.fam_machine.specs.declared.cell.Cell.TheVariants.{Absent, Dirty}
use Rattle.fam_machine.specs.declared.op.Op.{Op}
use Rattle.fam_machine.specs.declared.op.Op.TheVariants.{Load, Store, WriteBack, Fence, Invalidate, Digest}
use Rattle.fam_machine.specs.Caches.{Cache, cell_at, with_cell}
use Rattle.fam_machine.specs.OneLine.{IsDirty, IsHeld, words_of}
use Rattle.fam_machine.specs.Operations.{IsWithin}
use Rattle.fam_cache.specs.Operations.{word_of}
use Rattle.fam_commands.specs.Task.{Task, op_of}
use Rattle.fam_commands.specs.Turns.{Goes, turn_of}
use Rattle.fam_tasks.specs.Sound.{IsSound}

-- the operation loads a word of a line that the host holds, or stores into one, or drops a line of which memory lacks
-- nothing
abbrev pub IsCached : Op → Cache → Type 0
IsCached (Load line k) held = IsHeld (cell_at held line.0)
IsCached (Store line k value) held = IsHeld (cell_at held line.0)
IsCached (WriteBack line) held = ⊥
IsCached Fence held = ⊥
IsCached (Invalidate line) held = ¬ (IsDirty (cell_at held line.0))
IsCached Digest held = ⊥

-- what such an operation leaves of the cache: a load all, a store another word in the line's copy, which is dirty, and a
-- drop all but the line
abbrev pub cached_after : Op → Cache → Cache
cached_after (Load line k) held = held
cached_after (Store line k value) held = with_cell line.0 (Dirty false (slice_set (words_of (cell_at held line.0)) k value)) held
cached_after (WriteBack line) held = held
cached_after Fence held = held
cached_after (Invalidate line) held = with_cell line.0 Absent held
cached_after Digest held = held

-- the task and its host's cache, and what so many such operations leave of both: behind each of them the task just goes
-- on, a load by the word of the copy
pub data CachedRun : Task → Cache → Task → Cache → ℕ → Type 0 where
  none : {t : Task} {held : Cache} → CachedRun t held t held 0
  more : {t mid next : Task} {held now after : Cache} {n : ℕ} → CachedRun t held mid now n → IsSound mid → IsWithin mid.lines (op_of mid) → IsCached (op_of mid) now → after ≡ cached_after (op_of mid) now → turn_of mid (word_of (op_of mid) now) ≡ Goes next → CachedRun t held next after (suc n)
