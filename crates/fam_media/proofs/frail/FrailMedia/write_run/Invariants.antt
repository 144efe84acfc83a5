use Rattle.std.proofs.Common.{◌≡◌}
use Rattle.fam_media.specs.Frail.{frail_writes}
use Rattle.fam_media.specs.Runs.{AreDone, run_written, write_of}
use Rattle.fam_media.proofs.frail.FrailMedia.write_run.Given as goal

-- the lines so far were written
abbrev pub invariant-loop-k : goal.invariant-loop-k
invariant-loop-k g l = record {
  image : (g.M.Media.state l.self.media).image ≡ run_written l.first.0 l.lines l.k (g.M.Media.state l.fn.self.media).image;
  size : g.M.Media.size l.self.media ≡ g.M.Media.size l.fn.self.media;
  calls : AreDone (write_of (frail_writes g.M.Media.writes) l.first.0 l.lines) l.k l.fn.self l.self;
  counted : l.self.faults ≡ l.fn.self.faults;
}
