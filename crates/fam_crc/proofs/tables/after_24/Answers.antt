use Rattle.fam_crc.proofs.TableRules.{at_24}
use Rattle.fam_crc.proofs.tables.after_24.Goals as goal

pub returns : goal.returns
returns c = at_24 c.args.byte c.ranges.byte.fits
