use Rattle.std.proofs.Common.{◌≡◌, ◌/◌}
use Rattle.fam_cache.specs.Blocks.{IsBlockOf, IsKept, lines_of}
use Rattle.fam_cache.specs.SentRuns.{cleaned_run}
use Rattle.fam_cache.proofs.sending.clean_lines.Given as goal

abbrev pub invariant-loop-k : goal.invariant-loop-k
invariant-loop-k l = record {
  kept : IsKept l.places;
  stands : IsBlockOf l.places.blocks.items l.at (l.line / 16);
  cache : lines_of l.places ≡ cleaned_run l.line l.k (lines_of l.fn.places);
  room : l.places.room ≡ l.fn.places.room;
}
