use Rattle.std.proofs.Common.{◌≡◌, ◌≢◌, ◌+◌, ℕ, ◌<◌, ◌≤◌}
use Rattle.fam_machine.specs.Caches.{cell_at}
use Rattle.fam_machine.specs.OneLine.{IsHeld}
use Rattle.fam_media.specs.Causes.{IsSteady}
use Rattle.fam_cache.specs.Runs.{AreDone, over}
use Rattle.fam_mkfs.specs.Parts.{stores}
use Rattle.fam_mkfs.proofs.lines.store_words.Given as goal

abbrev pub invariant-loop-word : goal.invariant-loop-word
invariant-loop-word g l = record {
  done : AreDone (stores l.line.0 l.words l.word) (over (g.M.Media.state l.fn.media).image l.fn.cache.lines) (over (g.M.Media.state l.media).image l.cache.lines);
  held : 0 < l.word → IsHeld (cell_at l.cache.lines l.line.0);
  others : (other : ℕ) → other ≢ l.line.0 → cell_at l.cache.lines other ≡ cell_at l.fn.cache.lines other;
  first : l.word ≡ 0 → l.cache ≡ l.fn.cache;
  spare : l.fn.cache.spare ≤ l.cache.spare + 1;
  held_spare : IsHeld (cell_at l.fn.cache.lines l.line.0) → l.fn.cache.spare ≤ l.cache.spare;
  steady : IsSteady g.M.Media.size g.M.Media.state l.fn.media l.media;
}
