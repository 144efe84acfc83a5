use Rattle.fam_crc.proofs.TableRules.{at_2488}
use Rattle.fam_crc.proofs.tables.after_2488.Goals as goal

pub returns : goal.returns
returns c = at_2488 c.args.byte c.ranges.byte.fits
