use Rattle.fam_format.proofs.ByteLemmas.{byte_place}
use Rattle.fam_format.proofs.words.byte_of.Goals as goal

pub returns : goal.returns
returns c = byte_place c.args.word c.args.b
