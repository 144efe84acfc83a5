use Rattle.fam_crc.proofs.TableRules.{at_2688}
use Rattle.fam_crc.proofs.tables.after_2688.Goals as goal

pub returns : goal.returns
returns c = at_2688 c.args.byte c.ranges.byte.fits
