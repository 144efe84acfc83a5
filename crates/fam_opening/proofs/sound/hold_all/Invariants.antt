use Rattle.std.proofs.Common.{◌≡◌, None, map, take, vec_len}
use Rattle.fam_base.specs.Image.{line_at}
use Rattle.fam_media.specs.Causes.{IsSteady}
use Rattle.fam_media.specs.Outside.{IfModelled}
use Rattle.fam_rules.specs.Solo.{held_file}
use Rattle.fam_settled.specs.Settled.{settled_files}
use Rattle.fam_opening.proofs.sound.hold_all.Given as goal

-- the entries so far were added
abbrev pub invariant-loop-seq : goal.invariant-loop-seq
invariant-loop-seq g l = record {
  params : l.log.params ≡ l.plan.params;
  entries : l.log.entries ≡ take l.seq l.plan.entries;
  none : l.log.pending ≡ None;
  files : IfModelled (g.M.Media.state l.fn.media).image (λ image. settled_files l.log ≡ map (held_file (line_at image)) (take l.seq l.plan.entries));
  buffer : vec_len l.buffer ≡ 1024;
  same : (g.M.Media.state l.media).image ≡ (g.M.Media.state l.fn.media).image;
  steady : IsSteady g.M.Media.size g.M.Media.state l.fn.media l.media;
}
