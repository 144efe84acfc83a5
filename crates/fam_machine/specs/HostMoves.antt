-- Moves that a host's cache makes by itself, at a line, asked or not: what they leave of a machine, and what is left
-- where the media fails in one.
use Rattle.std.specs.Prelude.{ℕ, List, Option, Some, None, option_map}
use Rattle.fam_base.specs.Image.{Image, line_at, with_line}
use Rattle.fam_machine.specs.declared.cell.Cell.{Cell}
use Rattle.fam_machine.specs.declared.cell.Cell.TheVariants.{Absent, Clean, Dirty}
use Rattle.fam_machine.specs.Caches.{cell_at, with_cell}
use Rattle.fam_machine.specs.OneLine.{failed_leak, failed_send, fetched, leaked, sent}
use Rattle.fam_machine.specs.Operations.{Machine, machine}

-- what a cache does by itself at a line
pub data Move : Type 0 where
  -- a line is sent, where it is dirty, and then absent
  Evict : Move
  -- masked words of a dirty line are sent, and it stays dirty
  Leak : (mask : ℕ) → Move
  -- an absent line is brought, or masked words of a clean one are refreshed
  Fetch : (mask : ℕ) → Move

-- memory's words after it
abbrev pub moved_words : Move → List ℕ → Cell → List ℕ
moved_words Evict memory cell = sent memory cell
moved_words (Leak mask) memory cell = leaked mask memory cell
moved_words (Fetch mask) memory cell = memory

-- the copy after it
abbrev pub moved_cell : Move → List ℕ → Cell → Cell
moved_cell Evict memory cell = Absent
moved_cell (Leak mask) memory cell = cell
moved_cell (Fetch mask) memory cell = fetched mask memory cell

-- a read that fails leaves memory's words; a dirty copy isn't refreshed, and can't fail
abbrev pub failed_fetch : List ℕ → Cell → Option (List ℕ)
failed_fetch memory Absent = Some memory
failed_fetch memory (Clean words) = Some memory
failed_fetch memory (Dirty a words) = None

-- memory's words after it failed in the move; the copy is as before. None: the move asks nothing of memory
abbrev pub failed_move : Move → ℕ → List ℕ → Cell → Option (List ℕ)
failed_move Evict through memory cell = failed_send through memory cell
failed_move (Leak mask) through memory cell = failed_leak mask through memory cell
failed_move (Fetch mask) through memory cell = failed_fetch memory cell

-- the move on a host's machine
abbrev pub moved : Move → ℕ → Machine → Machine
moved move l m =
    machine (with_line l (moved_words move (line_at m.image l) (cell_at m.cache l)) m.image) (with_cell l (moved_cell move (line_at m.image l) (cell_at m.cache l)) m.cache)

-- memory's image after it failed in the move
abbrev pub move_failed : Move → ℕ → ℕ → Machine → Option Image
move_failed move l through m =
    option_map (λ words. with_line l words m.image) (failed_move move through (line_at m.image l) (cell_at m.cache l))
