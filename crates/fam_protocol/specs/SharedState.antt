-- Memory and the caches of any number of hosts, as functions of host and line; and what one operation changes.
-- docs/MODEL.md, "The protocol".
use Rattle.std.specs.Prelude.{ℕ, ◌≡◌, ◌≢◌, List, [], ◌∷◌, slice_index}
use Rattle.fam_machine.specs.declared.cell.Cell.{Cell}
use Rattle.fam_machine.specs.declared.cell.Cell.TheVariants.{Absent}
use Rattle.fam_machine.specs.declared.op.Op.{Op}
use Rattle.fam_machine.specs.declared.op.Op.TheVariants.{Load, Store, WriteBack, Fence, Invalidate, Digest}
use Rattle.fam_machine.specs.Moves.{Transfers}
use Rattle.fam_machine.specs.OneLine.{IsAsked, asked_for, brought, cleaned, current, sent, stored}

-- memory's words of each line, and each host's copy of it
pub record SharedState : Type 0 where
  pub memory : ℕ → List ℕ
  pub copy : ℕ → ℕ → Cell

-- nothing but one line of memory and one host's copy of it changes
pub record ChangesOnly (host line : ℕ) (old new : SharedState) : Type 0 where
  pub memory : (l : ℕ) → l ≢ line → new.memory l ≡ old.memory l
  pub lines : (h l : ℕ) → l ≢ line → new.copy h l ≡ old.copy h l
  pub hosts : (h l : ℕ) → h ≢ host → new.copy h l ≡ old.copy h l

-- a cache moves at a line by itself: asked or not, and also where the media fails
pub record TransfersAt (host line : ℕ) (old new : SharedState) : Type 0 where
  pub only : ChangesOnly host line old new
  pub here : Transfers (old.memory line) (old.copy host line) (new.memory line) (new.copy host line)

-- memory has these words of the line now, and the host this copy
pub record LeavesAt (host line : ℕ) (old new : SharedState) (memory : List ℕ) (copy : Cell) : Type 0 where
  pub only : ChangesOnly host line old new
  pub memory_is : new.memory line ≡ memory
  pub copy_is : new.copy host line ≡ copy

-- these lines of a host are sent whole, where they are dirty, one after another
pub data Sends (host : ℕ) : List ℕ → SharedState → SharedState → Type 0 where
  all_sent : {s : SharedState} → Sends host [] s s
  sends_one : {line : ℕ} {lines : List ℕ} {s next s' : SharedState} → LeavesAt host line s next (sent (s.memory line) (s.copy host line)) (cleaned (s.copy host line)) → Sends host lines next s' → Sends host (line ∷ lines) s s'

-- a host's asked lines are sent
pub record Fences (host : ℕ) (old new : SharedState) : Type 0 where
  pub lines : List ℕ
  pub sends : Sends host lines old new
  pub none_asked : (l : ℕ) → IsAsked (new.copy host l) → ⊥

-- the media failed: some lines had been sent whole, none but in a fence, and at this line the cache moved by itself
pub record Breaks (host line : ℕ) (old new : SharedState) : Type 0 where
  pub lines : List ℕ
  pub between : SharedState
  pub sends : Sends host lines old between
  pub moves : TransfersAt host line between new

-- one operation of a host; a load gives a word
abbrev pub Operates : Op → ℕ → SharedState → SharedState → ℕ → Type 0
Operates (Load l k) host old new word =
    LeavesAt host l.0 old new (old.memory l.0) (brought (old.memory l.0) (old.copy host l.0)) × (word ≡ slice_index (current (old.memory l.0) (old.copy host l.0)) k)
Operates (Store l k v) host old new word = LeavesAt host l.0 old new (old.memory l.0) (stored k v (old.memory l.0) (old.copy host l.0))
Operates (WriteBack l) host old new word = LeavesAt host l.0 old new (old.memory l.0) (asked_for (old.copy host l.0))
Operates Fence host old new word = Fences host old new
Operates (Invalidate l) host old new word = LeavesAt host l.0 old new (sent (old.memory l.0) (old.copy host l.0)) Absent
Operates Digest host old new word = new ≡ old

-- a host loses its cache
pub record Loses (host : ℕ) (old new : SharedState) : Type 0 where
  pub memory : (l : ℕ) → new.memory l ≡ old.memory l
  pub lost : (l : ℕ) → new.copy host l ≡ Absent
  pub hosts : (h l : ℕ) → h ≢ host → new.copy h l ≡ old.copy h l
