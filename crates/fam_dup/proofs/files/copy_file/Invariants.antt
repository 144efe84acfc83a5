use Rattle.std.proofs.Common.{◌≡◌, true, ◌-◌, ◌≤◌, length}
use Rattle.fam_base.specs.Image.{line_at}
use Rattle.fam_media.specs.Causes.{IsSteady}
use Rattle.fam_media.specs.Outside.{IfModelled}
use Rattle.fam_rules.specs.Content.{file_words}
use Rattle.fam_rules.specs.Written.{file_line, file_puts}
use Rattle.fam_rules.proofs.Puts.{puts_from}
use Rattle.fam_dup.specs.Lines.{bytes_in}
use Rattle.fam_dup.specs.Passes.{ArePassed}
use Rattle.fam_dup.proofs.files.copy_file.Given as goal

-- the lines so far were copied
abbrev pub invariant-loop-j : goal.invariant-loop-j
invariant-loop-j g l = record {
  passed : IfModelled (g.M.Media.state l.fn.from).image (λ image.
      ArePassed (file_puts l.copy (bytes_in (line_at image) l.entry)) (puts_from (file_line l.copy) (file_words (bytes_in (line_at image) l.entry)) l.j (l.lines - l.j))
      (g.N.Media.state l.fn.to).image (g.N.Media.state l.to).image);
  within : l.j ≤ l.lines;
  buffer : length l.buffer ≡ length l.fn.buffer;
  same : (g.M.Media.state l.from).image ≡ (g.M.Media.state l.fn.from).image;
  quiet_from : g.M.Media.exact ≡ true → (g.M.Media.state l.from).faults ≡ (g.M.Media.state l.fn.from).faults;
  quiet_to : g.N.Media.exact ≡ true → (g.N.Media.state l.to).faults ≡ (g.N.Media.state l.fn.to).faults;
  steady_from : IsSteady g.M.Media.size g.M.Media.state l.fn.from l.from;
  steady_to : IsSteady g.N.Media.size g.N.Media.state l.fn.to l.to;
}

abbrev pub decreases-loop-j : goal.decreases-loop-j
decreases-loop-j g l = l.lines - l.j
