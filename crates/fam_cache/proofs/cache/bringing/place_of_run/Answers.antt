use Rattle.std.proofs.Common.{◌≡◌, ◌∙◌, ◌+◌, ap, subst, arith}
use Rattle.std.proofs.lemmas.Bool.{false≢true}
use Rattle.fam_machine.specs.declared.cell.Cell.{Cell}
use Rattle.fam_machine.specs.declared.cell.Cell.TheVariants.{Absent}
use Rattle.fam_machine.specs.Caches.{Cache, cell_at}
use Rattle.fam_machine.specs.OneLine.{IsDirty}
use Rattle.fam_cache.specs.Blocks.{cache_of}
use Rattle.fam_cache.proofs.BlockLemmas.{absent_within}
use Rattle.fam_cache.proofs.cache.bringing.place_of_run.Goals as goal

undirty : (cell : Cell) → cell ≡ Absent → ¬ (IsDirty cell)
undirty cell is dirty = false≢true (subst IsDirty is dirty)

pub returns-in-Ok-clause-none : goal.returns-in-Ok-clause-none
returns-in-Ok-clause-none c = λ k below.
    undirty (cell_at (cache_of c.empty_block.new.cache.blocks.items) (c.args.first + k))
    (ap (λ (cache : Cache). cell_at cache (c.args.first + k)) (c.empty_block.ensures.same ∙ ap cache_of c.make_room.ensures.same)
    ∙ absent_within c.args.places.now.blocks.items c.args.first k c.in-None.ensures (omega (arith, below, c.if-count-first.false)))
