use Rattle.std.proofs.Common.{◌≡◌, ◌≢◌, ◌+◌, ℕ, ◌<◌, ◌≤◌, length, get_or}
use Rattle.fam_machine.specs.Caches.{cell_at}
use Rattle.fam_machine.specs.OneLine.{IsHeld, words_of}
use Rattle.fam_machine.specs.Operations.{load_ops}
use Rattle.fam_media.specs.Causes.{IsSteady}
use Rattle.fam_cache.specs.Runs.{AreDone, over}
use Rattle.fam_mkfs.proofs.lines.read_line.Given as goal

abbrev pub invariant-loop-word : goal.invariant-loop-word
invariant-loop-word g l = record {
  wide : length l.words ≡ 8;
  done : AreDone (load_ops l.line.0 l.word) (over (g.M.Media.state l.fn.media).image l.fn.cache.lines) (over (g.M.Media.state l.media).image l.cache.lines);
  words : (k : ℕ) → k < l.word → get_or l.words k 0 ≡ get_or (words_of (cell_at l.cache.lines l.line.0)) k 0;
  held : 0 < l.word → IsHeld (cell_at l.cache.lines l.line.0);
  others : (other : ℕ) → other ≢ l.line.0 → cell_at l.cache.lines other ≡ cell_at l.fn.cache.lines other;
  first : l.word ≡ 0 → l.fn.cache.spare ≤ l.cache.spare;
  spare : l.fn.cache.spare ≤ l.cache.spare + 1;
  steady : IsSteady g.M.Media.size g.M.Media.state l.fn.media l.media;
}
