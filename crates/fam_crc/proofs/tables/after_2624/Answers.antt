use Rattle.fam_crc.proofs.TableRules.{at_2624}
use Rattle.fam_crc.proofs.tables.after_2624.Goals as goal

pub returns : goal.returns
returns c = at_2624 c.args.byte c.ranges.byte.fits
