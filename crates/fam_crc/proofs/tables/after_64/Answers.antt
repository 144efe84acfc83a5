use Rattle.fam_crc.proofs.TableRules.{at_64}
use Rattle.fam_crc.proofs.tables.after_64.Goals as goal

pub returns : goal.returns
returns c = at_64 c.args.byte c.ranges.byte.fits
