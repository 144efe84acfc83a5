-- Spots that need room, and those that don't.
use Rattle.std.proofs.Common.{◌≡◌, ℕ, ◌/◌, true, false, List, Option, Some, None, refl, sym, ap, ◌∙◌}
use Rattle.std.proofs.lemmas.Bool.{false≢true}
use Rattle.fam_machine.specs.declared.cell.Cell.{Cell}
use Rattle.fam_machine.specs.declared.cell.Cell.TheVariants.{Absent, Clean, Dirty}
use Rattle.fam_machine.specs.Caches.{cell_at}
use Rattle.fam_machine.specs.OneLine.{is_held, IsHeld, IsDirty}
use Rattle.fam_cache.specs.declared.blocks.Block.{Block}
use Rattle.fam_cache.specs.Blocks.{IsSpot, cache_of, is_gap}
use Rattle.fam_cache.proofs.BlockLemmas.{cell_none}

-- a dirty line is held
pub dirty_held : (cell : Cell) → IsDirty cell → IsHeld cell
dirty_held Absent is = is
dirty_held (Clean words) is = refl
dirty_held (Dirty a words) is = refl

module _ (bs : List Block) (line : ℕ) where
  -- a line that is held has its block, and needs no room
  pub held_placed : (spot : Option ℕ) → IsSpot bs spot (line / 16) → IsHeld (cell_at (cache_of bs) line) → is_gap spot ≡ false
  held_placed (Some at) stands held = refl
  held_placed None none held = absurd (false≢true (sym (ap is_held (cell_none bs line none)) ∙ held))

  -- a line without a block isn't held
  pub gap_unheld : (spot : Option ℕ) → IsSpot bs spot (line / 16) → is_gap spot ≡ true → IsHeld (cell_at (cache_of bs) line) → ⊥
  gap_unheld spot is gap held = false≢true (sym (held_placed spot is held) ∙ gap)
