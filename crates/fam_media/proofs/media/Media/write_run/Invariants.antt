use Rattle.std.proofs.Common.{◌≡◌, true, ◌≤◌}
use Rattle.fam_media.specs.Runs.{AreDone, run_written, write_of}
use Rattle.fam_media.proofs.media.Media.write_run.Given as goal

-- the lines so far were written
abbrev pub invariant-loop-k : goal.invariant-loop-k
invariant-loop-k g l = record {
  image : (g.Self.Media.state l.self).image ≡ run_written l.first.0 l.lines l.k (g.Self.Media.state l.fn.self).image;
  size : g.Self.Media.size l.self ≡ g.Self.Media.size l.fn.self;
  calls : AreDone (write_of g.Self.Media.writes l.first.0 l.lines) l.k l.fn.self l.self;
  counted : g.Self.Media.exact ≡ true → (g.Self.Media.state l.self).faults ≡ (g.Self.Media.state l.fn.self).faults;
  later : (g.Self.Media.state l.fn.self).faults ≤ (g.Self.Media.state l.self).faults;
}
