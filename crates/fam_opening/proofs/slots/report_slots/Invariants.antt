use Rattle.std.proofs.Common.{◌≡◌, ◌-◌}
use Rattle.fam_base.specs.Image.{line_at}
use Rattle.fam_media.specs.Causes.{IsSteady}
use Rattle.fam_media.specs.Outside.{IfModelled}
use Rattle.fam_rules.specs.Reports.{no_survey, survey_slots}
use Rattle.fam_opening.proofs.slots.report_slots.Given as goal

-- the slots so far were shown
abbrev pub invariant-loop-slot : goal.invariant-loop-slot
invariant-loop-slot g l = record {
  shown : IfModelled (g.M.Media.state l.fn.media).image (λ image.
      survey_slots (line_at image) l.params l.gate 0 l.params.slots no_survey ≡ survey_slots (line_at image) l.params l.gate l.slot (l.params.slots - l.slot) l.fsck.survey);
  params : l.fsck.params ≡ l.params;
  gate : l.fsck.gate ≡ l.gate;
  added : l.fsck.added ≡ l.slot;
  same : (g.M.Media.state l.media).image ≡ (g.M.Media.state l.fn.media).image;
  steady : IsSteady g.M.Media.size g.M.Media.state l.fn.media l.media;
}
