use Rattle.std.proofs.Common.{ap}
use Rattle.fam_base.specs.Image.{eight}
use Rattle.fam_cache.specs.Blocks.{lines_of}
use Rattle.fam_cache.proofs.AskedRange.{within_absent, within_clean, within_renewed}
use Rattle.fam_cache.proofs.cache.HostCache.renew_line.Goals as goal
use Rattle.fam_cache.proofs.cache.HostCache.renew_line.Goals.{in-Ok, in-Err, in-Ok-bring_block, in-Err-bring_block}

pub invariant_of-self : goal.invariant_of-self
invariant_of-self g c = (
  c.renew_in_place.ensures.kept,
  elim c.match-renew_in_place.branch [
    | in-Ok w ↦ within_renewed _ _ _ _ c.self.invariant.1 c.args.line.0 w.in-Ok.words w.in-Ok.ensures.cache (λ none. ap (λ places. lines_of places) (w.in-Ok.ensures.other none))
    | in-Err w ↦ within_absent _ _ _ _ c.self.invariant.1 c.args.line.0 w.in-Err.ensures.failed_lines
  ],
)

pub invariant_of-self-in-None : goal.invariant_of-self-in-None
invariant_of-self-in-None g c = (
  c.bring_block.ensures.kept,
  elim c.match-bring_block.branch [
    | in-Ok-bring_block w ↦ within_clean _ _ _ _ c.self.invariant.1 c.args.line.0 (eight w.in-Ok-bring_block.words) w.in-Ok-bring_block.ensures.cache
    | in-Err-bring_block w ↦ within_absent _ _ _ _ c.self.invariant.1 c.args.line.0 w.in-Err-bring_block.ensures.failed_lines
  ],
)
