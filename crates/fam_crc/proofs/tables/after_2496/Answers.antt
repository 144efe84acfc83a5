use Rattle.fam_crc.proofs.TableRules.{at_2496}
use Rattle.fam_crc.proofs.tables.after_2496.Goals as goal

pub returns : goal.returns
returns c = at_2496 c.args.byte c.ranges.byte.fits
