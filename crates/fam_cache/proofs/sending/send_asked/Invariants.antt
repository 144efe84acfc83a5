use Rattle.std.proofs.Common.{◌≡◌, ℕ, ◌+◌, ◌-◌, true}
use Rattle.fam_machine.specs.Caches.{cell_at}
use Rattle.fam_machine.specs.OneLine.{IsAsked}
use Rattle.fam_media.specs.Causes.{IsSteady}
use Rattle.fam_cache.specs.Blocks.{AskedWithin, IsKept, lines_of}
use Rattle.fam_cache.specs.Runs.{over}
use Rattle.fam_cache.proofs.Fenced.{HasSent}
use Rattle.fam_cache.proofs.sending.send_asked.Given as goal

abbrev pub invariant-loop-at : goal.invariant-loop-at
invariant-loop-at g l = record {
  kept : IsKept l.places;
  range : AskedWithin l.from l.last (lines_of l.places);
  sent : HasSent (over (g.M.Media.state l.fn.media).image (lines_of l.fn.places)) (over (g.M.Media.state l.media).image (lines_of l.places));
  same : ((line : ℕ) → IsAsked (cell_at (lines_of l.fn.places) line) → ⊥) → l.media ≡ l.fn.media;
  steady : IsSteady g.M.Media.size g.M.Media.state l.fn.media l.media;
  quiet : g.M.Media.exact ≡ true → (g.M.Media.state l.media).faults ≡ (g.M.Media.state l.fn.media).faults;
  room : l.places.room ≡ l.fn.places.room;
}

abbrev pub decreases-loop-at : goal.decreases-loop-at
decreases-loop-at g l = l.last + 1 - l.from
