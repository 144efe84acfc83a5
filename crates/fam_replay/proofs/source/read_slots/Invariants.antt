use Rattle.std.proofs.Common.{◌≡◌, ℕ, true, ◌+◌, ◌-◌, [], length}
use Rattle.fam_base.specs.Image.{line_at}
use Rattle.fam_format.specs.Reading.{read_slots}
use Rattle.fam_media.specs.Causes.{IsSteady}
use Rattle.fam_media.specs.Outside.{IfModelled}
use Rattle.fam_replay.proofs.source.read_slots.Given as goal

-- the slots so far were read
abbrev pub invariant-loop-slot : goal.invariant-loop-slot
invariant-loop-slot g l = record {
  told : IfModelled (g.M.Media.state l.fn.media).image (λ image.
      read_slots (line_at image) l.fn.plan.params 0 l.count [] ≡ read_slots (line_at image) l.fn.plan.params l.slot (l.count - l.slot) l.plan.entries);
  each : IfModelled (g.M.Media.state l.fn.media).image (λ image. (more : ℕ) →
      read_slots (line_at image) l.fn.plan.params 0 (l.slot + more) [] ≡ read_slots (line_at image) l.fn.plan.params l.slot more l.plan.entries);
  count : length l.plan.entries ≡ l.slot;
  params : l.plan.params ≡ l.fn.plan.params;
  same : (g.M.Media.state l.media).image ≡ (g.M.Media.state l.fn.media).image;
  quiet : g.M.Media.exact ≡ true → (g.M.Media.state l.media).faults ≡ (g.M.Media.state l.fn.media).faults;
  steady : IsSteady g.M.Media.size g.M.Media.state l.fn.media l.media;
}
