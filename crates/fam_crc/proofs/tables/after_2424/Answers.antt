use Rattle.fam_crc.proofs.TableRules.{at_2424}
use Rattle.fam_crc.proofs.tables.after_2424.Goals as goal

pub returns : goal.returns
returns c = at_2424 c.args.byte c.ranges.byte.fits
