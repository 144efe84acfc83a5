use Rattle.fam_crc.proofs.TableRules.{at_1024}
use Rattle.fam_crc.proofs.tables.after_1024.Goals as goal

pub returns : goal.returns
returns c = at_1024 c.args.byte c.ranges.byte.fits
