use Rattle.fam_format.proofs.ReadingLawsProofs.{sound_holds, holds_sound}
use Rattle.fam_format.proofs.reading_laws.a_sound_image_holds_its_entries.Goals as goal

pub returns : goal.returns
returns c = λ line have p entries words. (sound_holds line have p entries words, holds_sound line have p entries)
