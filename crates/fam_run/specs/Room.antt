-- For which operations memory is wanted.
use Rattle.std.specs.Prelude.{ℕ, List, ◌≡◌, ◌⊎◌, ◌<◌, None}
use Rattle.fam_base.specs.declared.line.LineNo.{LineNo}
use Rattle.fam_cache.specs.States.{CacheState}
use Rattle.fam_machine.specs.declared.op.Op.{Op}
use Rattle.fam_machine.specs.declared.op.Op.TheVariants.{Load, Store, WriteBack, Fence, Invalidate, Digest}
use Rattle.fam_machine.specs.Caches.{cell_at}
use Rattle.fam_machine.specs.OneLine.{IsHeld}
use Rattle.fam_commands.specs.FirstStore.{IsFirstStore}
use Rattle.fam_commands.specs.Task.{Task, op_of}
use Rattle.fam_commands.specs.Turns.{turn_of}
use Rattle.fam_tasks.specs.Rest.{IsComparedLine, IsFileLineDue}
use Rattle.fam_tasks.specs.SlotLines.{IsSlotLine}
use Rattle.fam_tasks.specs.Tells.{WantsMemory}
use Rattle.fam_run.specs.Places.{append_places}

-- the cache has no place for a line that is to be brought
abbrev pub IsFull : LineNo → CacheState → Type 0
IsFull line cache = (cache.spare ≡ 0) × ¬ (IsHeld (cell_at cache.lines line.0))

-- for the operation of a task: a load or a store of a line for which there is no place, or a Digest that takes room
abbrev pub LacksRoom : Op → Task → CacheState → Type 0
LacksRoom (Load line k) task cache = IsFull line cache
LacksRoom (Store line k value) task cache = IsFull line cache
LacksRoom (WriteBack line) task cache = ⊥
LacksRoom Fence task cache = ⊥
LacksRoom (Invalidate line) task cache = ⊥
LacksRoom Digest task cache = WantsMemory task (turn_of task None)

-- a line of the new file is stored whole next, or one that is compared is dropped and loaded, or one of a slot
abbrev pub IsWholeDue : Task → LineNo → List ℕ → Type 0
IsWholeDue task line words = IsFileLineDue line words task ⊎ (IsComparedLine line task ⊎ IsSlotLine line task)

-- for a line that is stored, compared or loaded whole: there is no place for it
pub record LacksRoomWhole (task : Task) (cache : CacheState) : Type 0 where
  pub line : LineNo
  pub words : List ℕ
  pub due : IsWholeDue task line words
  pub full : IsFull line cache

-- for an append that comes to its first store: there are too few places for its lines
pub record LacksAppendRoom (task : Task) (cache : CacheState) : Type 0 where
  pub first : IsFirstStore task
  pub few : cache.spare < append_places task.params

-- for what comes next, one operation, or those that are done as a whole
abbrev pub WantsRoom : Task → CacheState → Type 0
WantsRoom task cache = LacksRoom (op_of task) task cache ⊎ (LacksRoomWhole task cache ⊎ LacksAppendRoom task cache)
