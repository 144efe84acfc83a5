use Rattle.fam_crc.proofs.TableRules.{at_1008}
use Rattle.fam_crc.proofs.tables.after_1008.Goals as goal

pub returns : goal.returns
returns c = at_1008 c.args.byte c.ranges.byte.fits
