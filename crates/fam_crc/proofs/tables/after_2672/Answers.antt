use Rattle.fam_crc.proofs.TableRules.{at_2672}
use Rattle.fam_crc.proofs.tables.after_2672.Goals as goal

pub returns : goal.returns
returns c = at_2672 c.args.byte c.ranges.byte.fits
