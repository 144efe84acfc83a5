use Rattle.std.proofs.Common.{◌≡◌, true, ◌≤◌, length}
use Rattle.fam_media.specs.Outside.{IfModelled}
use Rattle.fam_media.specs.Runs.{AreDone, AreRead, read_of}
use Rattle.fam_media.proofs.media.Media.read_run.Given as goal

-- the lines so far were read
abbrev pub invariant-loop-k : goal.invariant-loop-k
invariant-loop-k g l = record {
  read : IfModelled (g.Self.Media.state l.fn.self).image (λ image. AreRead image l.first.0 l.lines l.k);
  count : length l.lines ≡ length l.fn.lines;
  same : (g.Self.Media.state l.self).image ≡ (g.Self.Media.state l.fn.self).image;
  size : g.Self.Media.size l.self ≡ g.Self.Media.size l.fn.self;
  calls : AreDone (read_of g.Self.Media.reads l.first.0) l.k l.fn.self l.self;
  counted : g.Self.Media.exact ≡ true → (g.Self.Media.state l.self).faults ≡ (g.Self.Media.state l.fn.self).faults;
  later : (g.Self.Media.state l.fn.self).faults ≤ (g.Self.Media.state l.self).faults;
}
