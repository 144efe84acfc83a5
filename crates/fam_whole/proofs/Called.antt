-- The UUIDs of a command of its own, as the top call says of them.
use Rattle.std.proofs.Common.{ℕ, List}
use Rattle.fam_words.specs.declared.wanted.Shot.{Shot}
use Rattle.fam_words.specs.declared.wanted.Shot.TheVariants as shot
use Rattle.fam_top.specs.Calls.{HasOneShotUuids, shot_of}
use Rattle.fam_whole.proofs.Shots.{IsSoundShot}

pub shot_sound : (random : List ℕ) (what : Shot) → HasOneShotUuids (shot_of random what) → IsSoundShot (shot_of random what)
shot_sound random (shot.Mkfs fs unit log format force) is = is
shot_sound random (shot.Run what) is = tt
shot_sound random (shot.Parents path attr) is = tt
