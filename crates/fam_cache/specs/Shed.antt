-- A cache that lacks clean copies of another, which a host has forgotten: memory lacks none of their words.
use Rattle.std.specs.Prelude.{ℕ, ⊤, ◌≡◌, ◌⊎◌}
use Rattle.fam_machine.specs.declared.cell.Cell.{Cell}
use Rattle.fam_machine.specs.declared.cell.Cell.TheVariants.{Absent}
use Rattle.fam_machine.specs.declared.op.Op.{Op}
use Rattle.fam_machine.specs.declared.op.Op.TheVariants.{Load, Store, WriteBack, Fence, Invalidate, Digest}
use Rattle.fam_machine.specs.Caches.{Cache, cell_at}
use Rattle.fam_machine.specs.OneLine.{IsDirty}

-- both have the same copy, or the first has none and the other's isn't dirty
abbrev pub IsShedCopy : Cell → Cell → Type 0
IsShedCopy real shown = (real ≡ shown) ⊎ ((real ≡ Absent) × ¬ (IsDirty shown))

-- so it is of each line
abbrev pub IsShed : Cache → Cache → Type 0
IsShed real shown = (line : ℕ) → IsShedCopy (cell_at real line) (cell_at shown line)

-- of a line that the operation loads or stores into both have the same copy: one that is dropped may be lacking
abbrev pub WantsSame : Op → Cache → Cache → Type 0
WantsSame (Load line k) real shown = cell_at real line.0 ≡ cell_at shown line.0
WantsSame (Store line k value) real shown = cell_at real line.0 ≡ cell_at shown line.0
WantsSame (WriteBack line) real shown = ⊤
WantsSame Fence real shown = ⊤
WantsSame (Invalidate line) real shown = ⊤
WantsSame Digest real shown = ⊤
