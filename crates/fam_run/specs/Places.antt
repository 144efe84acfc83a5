-- How many places of its host's cache an append wants behind its first store: one for a line of its file at a time, one
-- for each line of its slot and one for the gate.
use Rattle.std.specs.Prelude.{ℕ, ⊤, ◌≡◌, ◌⊎◌, ◌+◌, ◌<◌, ◌≤◌, Result, Ok, Err, None}
use Rattle.fam_cache.specs.declared.fault.OperationFault.{OperationFault}
use Rattle.fam_cache.specs.declared.fault.OperationFault.TheVariants as fault
use Rattle.fam_cache.specs.States.{CacheState}
use Rattle.fam_commands.specs.FirstStore.{IsFirstStore}
use Rattle.fam_commands.specs.declared.phase.Phase.{Phase}
use Rattle.fam_commands.specs.declared.phase.Phase.TheVariants as at
use Rattle.fam_commands.specs.Task.{Task, line_of}
use Rattle.fam_base.specs.declared.entry.Params.{Params}
use Rattle.fam_format.specs.Layout.{geometry, slot_line}
use Rattle.fam_machine.specs.Caches.{cell_at}
use Rattle.fam_machine.specs.OneLine.{IsHeld}
use Rattle.fam_tasks.specs.declared.answer.Turn.{Turn}
use Rattle.fam_tasks.specs.declared.answer.Turn.TheVariants.{Go}
use Rattle.fam_run.specs.Operation.{ended}

-- the cache holds a line, once its first word was stored
abbrev pub IsHeldFrom : ℕ → ℕ → CacheState → Type 0
IsHeldFrom k line cache = 0 < k → IsHeld (cell_at cache.lines line)

-- the places of a slot's lines and the gate's
abbrev pub slot_places : Params → ℕ
slot_places p = (geometry p).lines + 1

-- those, and one for a line of the file
abbrev pub append_places : Params → ℕ
append_places p = slot_places p + 1

-- places for the lines of the slot from line i on, and the gate's; the one for a line of the file is left
pub record HasSlotPlaces (p : Params) (i k : ℕ) (line : ℕ) (cache : CacheState) : Type 0 where
  pub begun : slot_places p ≤ cache.spare + i
  pub first : k ≡ 0 → append_places p ≤ cache.spare + i
  pub held : IsHeldFrom k line cache

-- in a phase. A task that has not come to its first store has none
abbrev pub HasPlacesAt : Phase → Task → CacheState → Type 0
HasPlacesAt at.DropMagic t cache = ⊥
HasPlacesAt at.Magic t cache = ⊥
HasPlacesAt (at.Drop part j) t cache = ⊥
HasPlacesAt (at.Word part j k) t cache = ⊥
HasPlacesAt at.DropGate t cache = ⊥
HasPlacesAt at.Gate t cache = ⊥
HasPlacesAt (at.Check i) t cache = ⊥
HasPlacesAt at.Decide t cache = ⊥
HasPlacesAt (at.StoreData j k) t cache = (append_places t.params ≤ cache.spare) × IsHeldFrom k (line_of t.entry j) cache
HasPlacesAt (at.SendData j) t cache = append_places t.params ≤ cache.spare
HasPlacesAt (at.StoreSlot i k) t cache = HasSlotPlaces t.params i k (slot_line t.params t.gate i) cache
HasPlacesAt (at.SendSlot i) t cache = slot_places t.params ≤ cache.spare + i
HasPlacesAt at.StoreGate t cache = 1 ≤ cache.spare
HasPlacesAt at.FenceSlot t cache = 1 ≤ cache.spare
HasPlacesAt at.SendGate t cache = ⊤
HasPlacesAt at.FenceGate t cache = ⊤

-- and so of a task
abbrev pub HasPlaces : Task → CacheState → Type 0
HasPlaces t cache = HasPlacesAt t.phase t cache

-- a line of the file whose first word comes next is held: another is stored whole, and takes no place
abbrev pub IsReadyAt : Phase → Task → CacheState → Type 0
IsReadyAt at.DropMagic t cache = ⊤
IsReadyAt at.Magic t cache = ⊤
IsReadyAt (at.Drop part j) t cache = ⊤
IsReadyAt (at.Word part j k) t cache = ⊤
IsReadyAt at.DropGate t cache = ⊤
IsReadyAt at.Gate t cache = ⊤
IsReadyAt (at.Check i) t cache = ⊤
IsReadyAt at.Decide t cache = ⊤
IsReadyAt (at.StoreData j k) t cache = k ≡ 0 → IsHeld (cell_at cache.lines (line_of t.entry j))
IsReadyAt (at.SendData j) t cache = ⊤
IsReadyAt (at.StoreSlot i k) t cache = ⊤
IsReadyAt (at.SendSlot i) t cache = ⊤
IsReadyAt at.StoreGate t cache = ⊤
IsReadyAt at.FenceSlot t cache = ⊤
IsReadyAt at.SendGate t cache = ⊤
IsReadyAt at.FenceGate t cache = ⊤

-- and so of a task
abbrev pub IsReady : Task → CacheState → Type 0
IsReady t cache = IsReadyAt t.phase t cache

-- what has places has them behind operations too
abbrev pub KeepsPlaces : Task → CacheState → Task → CacheState → Type 0
KeepsPlaces t cache next after = HasPlaces t cache → HasPlaces next after

-- an append that has its places just goes on behind operations, or answers, and has them then too; and it finds memory
abbrev pub PlacesKept : Task → CacheState → Task → CacheState → Result Turn OperationFault → Type 0
PlacesKept t cache next after (Ok turn) = ended turn ≡ None → HasPlaces t cache → (turn ≡ Go) × HasPlaces next after
PlacesKept t cache next after (Err (fault.MediaFault line)) = ⊤
PlacesKept t cache next after (Err fault.OutOfMemory) = ¬ (HasPlaces t cache)

-- behind one operation it has them where a line of its file that comes next is held
abbrev pub ReadyPlacesKept : Task → CacheState → Task → CacheState → Result Turn OperationFault → Type 0
ReadyPlacesKept t cache next after (Ok turn) =
    ended turn ≡ None → HasPlaces t cache → (turn ≡ Go) × (IsReady t cache → HasPlaces next after)
ReadyPlacesKept t cache next after (Err (fault.MediaFault line)) = ⊤
ReadyPlacesKept t cache next after (Err fault.OutOfMemory) = ¬ (HasPlaces t cache)

-- and one that comes to its first store has them behind operations before which they are made
abbrev pub PlacesMade : Task → CacheState → Task → CacheState → Result Turn OperationFault → Type 0
PlacesMade t cache next after (Ok turn) =
    ended turn ≡ None → IsFirstStore t ⊎ HasPlaces t cache → (turn ≡ Go) × HasPlaces next after
PlacesMade t cache next after (Err (fault.MediaFault line)) = ⊤
PlacesMade t cache next after (Err fault.OutOfMemory) = ¬ (HasPlaces t cache)
