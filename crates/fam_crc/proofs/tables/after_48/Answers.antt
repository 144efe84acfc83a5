use Rattle.fam_crc.proofs.TableRules.{at_48}
use Rattle.fam_crc.proofs.tables.after_48.Goals as goal

pub returns : goal.returns
returns c = at_48 c.args.byte c.ranges.byte.fits
