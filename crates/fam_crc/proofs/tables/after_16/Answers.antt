use Rattle.fam_crc.proofs.TableRules.{at_16}
use Rattle.fam_crc.proofs.tables.after_16.Goals as goal

pub returns : goal.returns
returns c = at_16 c.args.byte c.ranges.byte.fits
