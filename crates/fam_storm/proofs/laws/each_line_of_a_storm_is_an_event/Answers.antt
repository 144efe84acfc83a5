use Rattle.fam_storm.proofs.EventLines.{all_events}
use Rattle.fam_storm.proofs.laws.each_line_of_a_storm_is_an_event.Goals as goal

pub returns : goal.returns
returns c = all_events
