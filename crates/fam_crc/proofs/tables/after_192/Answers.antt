use Rattle.fam_crc.proofs.TableRules.{at_192}
use Rattle.fam_crc.proofs.tables.after_192.Goals as goal

pub returns : goal.returns
returns c = at_192 c.args.byte c.ranges.byte.fits
