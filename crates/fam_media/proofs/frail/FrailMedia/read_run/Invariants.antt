use Rattle.std.proofs.Common.{◌≡◌, length}
use Rattle.fam_media.specs.Frail.{frail_reads}
use Rattle.fam_media.specs.Outside.{IfModelled}
use Rattle.fam_media.specs.Runs.{AreDone, AreRead, read_of}
use Rattle.fam_media.proofs.frail.FrailMedia.read_run.Given as goal

-- the lines so far were read
abbrev pub invariant-loop-k : goal.invariant-loop-k
invariant-loop-k g l = record {
  read : IfModelled (g.M.Media.state l.fn.self.media).image (λ image. AreRead image l.first.0 l.lines l.k);
  count : length l.lines ≡ length l.fn.lines;
  same : (g.M.Media.state l.self.media).image ≡ (g.M.Media.state l.fn.self.media).image;
  size : g.M.Media.size l.self.media ≡ g.M.Media.size l.fn.self.media;
  calls : AreDone (read_of (frail_reads g.M.Media.reads) l.first.0) l.k l.fn.self l.self;
  counted : l.self.faults ≡ l.fn.self.faults;
}
