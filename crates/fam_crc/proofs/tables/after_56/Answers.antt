use Rattle.fam_crc.proofs.TableRules.{at_56}
use Rattle.fam_crc.proofs.tables.after_56.Goals as goal

pub returns : goal.returns
returns c = at_56 c.args.byte c.ranges.byte.fits
