use Rattle.fam_crc.proofs.TableRules.{at_8}
use Rattle.fam_crc.proofs.tables.after_8.Goals as goal

pub returns : goal.returns
returns c = at_8 c.args.byte c.ranges.byte.fits
