use Rattle.fam_crc.proofs.TableRules.{at_2432}
use Rattle.fam_crc.proofs.tables.after_2432.Goals as goal

pub returns : goal.returns
returns c = at_2432 c.args.byte c.ranges.byte.fits
