use Rattle.std.proofs.Common.{◌≡◌, true, drop, length}
use Rattle.fam_base.specs.Image.{line_at}
use Rattle.fam_media.specs.Causes.{IsSteady}
use Rattle.fam_media.specs.Outside.{IfModelled}
use Rattle.fam_dup.specs.Lines.{files_puts}
use Rattle.fam_dup.specs.Passes.{ArePassed}
use Rattle.fam_dup.proofs.files.copy_files.Given as goal

-- the files so far were copied
abbrev pub invariant-loop-seq : goal.invariant-loop-seq
invariant-loop-seq g l = record {
  passed : IfModelled (g.M.Media.state l.fn.from).image (λ image.
      ArePassed (files_puts (line_at image) l.source.entries l.copies.entries) (files_puts (line_at image) (drop l.seq l.source.entries) (drop l.seq l.copies.entries))
      (g.N.Media.state l.fn.to).image (g.N.Media.state l.to).image);
  buffer : length l.buffer ≡ length l.fn.buffer;
  same : (g.M.Media.state l.from).image ≡ (g.M.Media.state l.fn.from).image;
  quiet_from : g.M.Media.exact ≡ true → (g.M.Media.state l.from).faults ≡ (g.M.Media.state l.fn.from).faults;
  quiet_to : g.N.Media.exact ≡ true → (g.N.Media.state l.to).faults ≡ (g.N.Media.state l.fn.to).faults;
  steady_from : IsSteady g.M.Media.size g.M.Media.state l.fn.from l.from;
  steady_to : IsSteady g.N.Media.size g.N.Media.state l.fn.to l.to;
}
