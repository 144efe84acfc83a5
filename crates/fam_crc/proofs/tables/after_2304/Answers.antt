use Rattle.fam_crc.proofs.TableRules.{at_2304}
use Rattle.fam_crc.proofs.tables.after_2304.Goals as goal

pub returns : goal.returns
returns c = at_2304 c.args.byte c.ranges.byte.fits
