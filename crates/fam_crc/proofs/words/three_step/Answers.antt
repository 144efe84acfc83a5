use Rattle.fam_crc.proofs.Steps.{zeros_split}
use Rattle.fam_crc.proofs.words.three_step.Goals as goal

pub returns : goal.returns
returns c = zeros_split 168 c.args.register _ _ _ _ c.after_192.ensures c.after_184.ensures c.after_176.ensures c.after_168.ensures
