use Rattle.std.proofs.Common.{◌≡◌, ℕ, ◌*◌, ◌<◌, length, get_or}
use Rattle.fam_base.specs.Image.{line_at}
use Rattle.fam_format.specs.Reading.{slot_word}
use Rattle.fam_media.specs.Causes.{IsSteady}
use Rattle.fam_media.specs.Outside.{IfModelled}
use Rattle.fam_opening.proofs.slots.read_words.Given as goal

-- the words of the lines so far
abbrev pub invariant-lines : goal.invariant-lines
invariant-lines g l = record {
  count : length l.words ≡ 128;
  words : IfModelled (g.M.Media.state l.fn.media).image (λ image. (k : ℕ) → k < 8 * l.line → get_or l.words k 0 ≡ slot_word (line_at image) l.params l.slot k);
  same : (g.M.Media.state l.media).image ≡ (g.M.Media.state l.fn.media).image;
  steady : IsSteady g.M.Media.size g.M.Media.state l.fn.media l.media;
}
