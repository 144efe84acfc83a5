use Rattle.std.proofs.Common.{◌≡◌, ◌+◌, ◌/◌, ℕ, List, sym, subst, arith}
use Rattle.fam_machine.specs.Caches.{Cache}
use Rattle.fam_cache.specs.Blocks.{AskedWithin, IsBlockOf, lines_of}
use Rattle.fam_cache.specs.BroughtRuns.{brought_run}
use Rattle.fam_cache.proofs.AskedRange.{within_absent}
use Rattle.fam_cache.proofs.BroughtRunLemmas.{within_run}
use Rattle.fam_cache.proofs.cache.HostCache.bring_run.Goals as goal

-- lines of the same cache were put
within_put : (low high first : ℕ) (lines : List (List ℕ)) (count : ℕ) (old there new : Cache) → AskedWithin low high old → there ≡ old
    → new ≡ brought_run first lines count there → AskedWithin low high new
within_put low high first lines count old there new was same put =
    subst (AskedWithin low high) (sym put) (within_run low high first lines count there (subst (AskedWithin low high) (sym same) was))

pub invariant_of-self-in-Ok : goal.invariant_of-self-in-Ok
invariant_of-self-in-Ok g c = (
  c.put_lines.ensures.kept,
  within_put c.self.inside.first_asked c.self.inside.last_asked _ _ _ (lines_of c.self.inside.places) _
      (lines_of c.put_lines.new.places) c.self.invariant.1 c.place_of_run.ensures.same c.put_lines.ensures.cache,
)

pub drop_copy-requires-clause-spot : goal.drop_copy-requires-clause-spot
drop_copy-requires-clause-spot g c =
    let line = c.args.first.0 + c.in-Err.failed.done in
    let same_block : c.args.first.0 / 16 ≡ line / 16 = omega (arith, c.in-Err.ensures.before, c.in-Some.ensures.within) in
    subst (IsBlockOf c.put_lines-in-Err.new.places.blocks.items c.in-Some.at) same_block c.put_lines-in-Err.ensures.stands

pub invariant_of-self-in-Err : goal.invariant_of-self-in-Err
invariant_of-self-in-Err g c = (
  c.drop_copy.ensures.kept,
  within_absent c.self.inside.first_asked c.self.inside.last_asked (lines_of c.put_lines-in-Err.new.places) (lines_of c.drop_copy.new.cache)
      (within_put c.self.inside.first_asked c.self.inside.last_asked _ _ _ (lines_of c.self.inside.places) _ (lines_of c.put_lines-in-Err.new.places)
      c.self.invariant.1 c.place_of_run.ensures.same c.put_lines-in-Err.ensures.cache)
      _ c.drop_copy.ensures.cache,
)
