use Rattle.std.proofs.Common.{ap}
use Rattle.std.specs.Prelude.{option_map}
use Rattle.fam_judging.specs.Candidates.{named_of}
use Rattle.fam_judging.specs.FoundLefts.{host_of}
use Rattle.fam_causes.proofs.acknowledged.is_acknowledged.Goals as goal

pub returns-in-Some : goal.returns-in-Some
returns-in-Some c = c.acknowledged_fits.ensures (host_of c.args.seen.now c.args.cmd.now c.args.track.now) (ap (option_map named_of) c.in-Some.is)
