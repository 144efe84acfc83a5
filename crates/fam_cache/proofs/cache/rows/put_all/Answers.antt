use Rattle.std.proofs.Common.{◌+◌, ◌-◌, ◌∙◌, sym, subst, arith}
use Rattle.fam_machine.specs.Caches.{Cache, cell_at}
use Rattle.fam_cache.specs.Blocks.{lines_of}
use Rattle.fam_cache.specs.BroughtRuns.{IsClean}
use Rattle.fam_cache.proofs.CleanRuns.{clean_behind, row_put, stands_clean}
use Rattle.fam_cache.proofs.cache.rows.put_all.Goals as goal

pub unreachable-requires : goal.unreachable-requires
unreachable-requires c =
    let line = c.args.first + c.loop-done.done in
    stands_clean c.loop-done.places.blocks.items line c.in-None.ensures
    (subst (λ (cache : Cache). IsClean (cell_at cache line)) (sym c.loop-done.invariant.cache)
    (clean_behind c.args.first c.args.lines.now c.loop-done.done c.args.count (lines_of c.args.places.now) c.requires.clean
    c.loop-done-test.true))

pub loop-done-preserved : goal.loop-done-preserved
loop-done-preserved c =
    let v = c.loop-done.invariant in
    let part = c.part_of-part.result in
    record {
      few = omega (arith, c.part_of-part.ensures.most, v.few);
      kept = c.set_run.ensures.kept;
      cache = row_put c.args.first c.args.lines.now c.loop-done.done part (c.loop-done.done + part - c.loop-done.done) (lines_of c.args.places.now)
          (lines_of c.loop-done.places) (lines_of c.set_run.new.cache)
          (omega arith) (omega (arith, c.part_of-part.ensures.most, v.few, c.requires.few)) v.cache c.set_run.ensures.cache;
      room = c.set_run.ensures.room ∙ v.room;
    }
