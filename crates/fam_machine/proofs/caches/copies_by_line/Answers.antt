use Rattle.fam_machine.proofs.CacheLemmas.{cell_at-with_cell_same, cell_at-with_cell_other, same_cells}
use Rattle.fam_machine.proofs.caches.copies_by_line.Goals as goal

pub returns : goal.returns
returns c = record { here = cell_at-with_cell_same; others = cell_at-with_cell_other; same = same_cells }
