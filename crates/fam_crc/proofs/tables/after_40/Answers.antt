use Rattle.fam_crc.proofs.TableRules.{at_40}
use Rattle.fam_crc.proofs.tables.after_40.Goals as goal

pub returns : goal.returns
returns c = at_40 c.args.byte c.ranges.byte.fits
