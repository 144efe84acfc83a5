use Rattle.fam_crc.proofs.TableRules.{at_1000}
use Rattle.fam_crc.proofs.tables.after_1000.Goals as goal

pub returns : goal.returns
returns c = at_1000 c.args.byte c.ranges.byte.fits
