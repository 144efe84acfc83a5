use Rattle.fam_rules.proofs.ListPlaces.{laid_apart, sound_apart}
use Rattle.fam_rules.proofs.place.laid_out_files_are_apart.Goals as goal

pub returns : goal.returns
returns c = record { list = laid_apart; sound = sound_apart }
