use Rattle.fam_crc.proofs.TableRules.{at_184}
use Rattle.fam_crc.proofs.tables.after_184.Goals as goal

pub returns : goal.returns
returns c = at_184 c.args.byte c.ranges.byte.fits
