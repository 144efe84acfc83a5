use Rattle.fam_crc.proofs.Steps.{zeros_split}
use Rattle.fam_crc.proofs.words.sixteen_step.Goals as goal

pub returns : goal.returns
returns c = zeros_split 1000 c.args.register _ _ _ _ c.after_1024.ensures c.after_1016.ensures c.after_1008.ensures c.after_1000.ensures
