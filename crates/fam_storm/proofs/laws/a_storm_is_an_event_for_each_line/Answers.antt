use Rattle.fam_storm.proofs.WholeScripts.{whole_storm}
use Rattle.fam_storm.proofs.laws.a_storm_is_an_event_for_each_line.Goals as goal

pub returns : goal.returns
returns c = whole_storm
