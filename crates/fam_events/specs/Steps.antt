-- A world and a media of which nothing was changed.
use Rattle.std.specs.Prelude.{◌≡◌}
use Rattle.fam_events.specs.WorldChange.{WorldChange}

-- world and media are as they were
pub record IsStill (a : WorldChange) : Type 0 where
  pub world : a.new ≡ a.old
  pub media : a.media.new.image ≡ a.media.old.image
  pub count : a.media.new.faults ≡ a.media.old.faults
