use Rattle.fam_storm.proofs.WholeScripts.{quiet_storm}
use Rattle.fam_storm.proofs.laws.a_storm_reads_no_source.Goals as goal

pub returns : goal.returns
returns c = quiet_storm
