use Rattle.fam_crc.proofs.TableRules.{at_32}
use Rattle.fam_crc.proofs.tables.after_32.Goals as goal

pub returns : goal.returns
returns c = at_32 c.args.byte c.ranges.byte.fits
