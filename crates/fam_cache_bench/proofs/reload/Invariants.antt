use Rattle.std.proofs.Common.{◌<◌}
use Rattle.fam_cache_bench.proofs.reload.Given as goal

-- the line stays within the media
abbrev pub invariant-loop-load : goal.invariant-loop-load
invariant-loop-load g l = l.line < g.M.Media.size l.media
