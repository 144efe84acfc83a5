use Rattle.fam_grammar.proofs.SoundLaw.{line_sound}
use Rattle.fam_grammar.proofs.laws.what_reads_is_sound.Goals as goal

pub returns : goal.returns
returns c = line_sound
