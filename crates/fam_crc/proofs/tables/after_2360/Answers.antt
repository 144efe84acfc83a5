use Rattle.fam_crc.proofs.TableRules.{at_2360}
use Rattle.fam_crc.proofs.tables.after_2360.Goals as goal

pub returns : goal.returns
returns c = at_2360 c.args.byte c.ranges.byte.fits
