use Rattle.fam_crc.proofs.TableRules.{at_2680}
use Rattle.fam_crc.proofs.tables.after_2680.Goals as goal

pub returns : goal.returns
returns c = at_2680 c.args.byte c.ranges.byte.fits
