use Rattle.fam_rules.proofs.ContentLines.{length_of_fill, byte_of_fill, fill_fits}
use Rattle.fam_rules.proofs.content.contents_fill_the_size.Goals as goal

pub returns-clause-count : goal.returns-clause-count
returns-clause-count c = length_of_fill

pub returns-clause-each : goal.returns-clause-each
returns-clause-each c = byte_of_fill

pub returns-clause-bytes : goal.returns-clause-bytes
returns-clause-bytes c = fill_fits
