use Rattle.fam_crc.proofs.TableRules.{at_2368}
use Rattle.fam_crc.proofs.tables.after_2368.Goals as goal

pub returns : goal.returns
returns c = at_2368 c.args.byte c.ranges.byte.fits
