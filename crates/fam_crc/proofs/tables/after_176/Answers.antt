use Rattle.fam_crc.proofs.TableRules.{at_176}
use Rattle.fam_crc.proofs.tables.after_176.Goals as goal

pub returns : goal.returns
returns c = at_176 c.args.byte c.ranges.byte.fits
