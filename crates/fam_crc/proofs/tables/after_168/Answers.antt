use Rattle.fam_crc.proofs.TableRules.{at_168}
use Rattle.fam_crc.proofs.tables.after_168.Goals as goal

pub returns : goal.returns
returns c = at_168 c.args.byte c.ranges.byte.fits
