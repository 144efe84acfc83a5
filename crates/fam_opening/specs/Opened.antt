-- The state in which a history begins on an image.
use Rattle.std.specs.Prelude.{◌≡◌}
use Rattle.fam_base.specs.Image.{Image}
use Rattle.fam_journal.specs.Past.{first_state}
use Rattle.fam_judging.specs.Candidates.{IsGivenImage}
use Rattle.fam_settled.specs.Settled.{settled_log_state}
use Rattle.fam_opening.specs.declared.opened.Opened.{Opened}
use Rattle.fam_opening.specs.declared.opened.Opened.TheVariants.{Damaged, Sound}

-- a log is the image's first state, so its files have the bytes of the image and nothing pends; of any other image it is told how
-- it is damaged
abbrev pub IsOpened : Image → Opened → Type 0
IsOpened image (Sound log) = settled_log_state log ≡ first_state image
IsOpened image (Damaged given) = IsGivenImage image given
