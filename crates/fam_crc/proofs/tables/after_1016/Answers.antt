use Rattle.fam_crc.proofs.TableRules.{at_1016}
use Rattle.fam_crc.proofs.tables.after_1016.Goals as goal

pub returns : goal.returns
returns c = at_1016 c.args.byte c.ranges.byte.fits
