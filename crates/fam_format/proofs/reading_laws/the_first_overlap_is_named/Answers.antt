use Rattle.fam_format.proofs.OverlapLaws.{overlap_found}
use Rattle.fam_format.proofs.reading_laws.the_first_overlap_is_named.Goals as goal

pub returns : goal.returns
returns c = overlap_found
