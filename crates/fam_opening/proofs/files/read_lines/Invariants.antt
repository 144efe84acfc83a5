use Rattle.std.proofs.Common.{◌≡◌, ◌-◌, ◌*◌, ◌≤◌, length, vec_len}
use Rattle.fam_base.specs.Image.{line_at}
use Rattle.fam_media.specs.Causes.{IsSteady}
use Rattle.fam_media.specs.Outside.{IfModelled}
use Rattle.fam_opening.specs.Files.{HoldFirst}
use Rattle.fam_opening.proofs.files.read_lines.Given as goal

-- the lines so far were read
abbrev pub invariant-loop-j : goal.invariant-loop-j
invariant-loop-j g l = record {
  within : l.j ≤ l.lines;
  count : vec_len l.bytes ≡ 64 * l.j;
  held : IfModelled (g.M.Media.state l.fn.media).image (λ image. HoldFirst (line_at image) l.entry l.bytes.items);
  buffer : length l.buffer ≡ length l.fn.buffer;
  same : (g.M.Media.state l.media).image ≡ (g.M.Media.state l.fn.media).image;
  steady : IsSteady g.M.Media.size g.M.Media.state l.fn.media l.media;
}

abbrev pub decreases-loop-j : goal.decreases-loop-j
decreases-loop-j g l = l.lines - l.j
