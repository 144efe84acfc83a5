use Rattle.std.proofs.Common.{refl, sym, ap, Some}
use Rattle.fam_judging.specs.FoundLefts.{host_of}
use Rattle.fam_causes.proofs.acknowledged.may_name.Goals as goal

pub returns : goal.returns
returns c = c.writes_fits.ensures (host_of c.args.seen.now c.args.cmd.now c.args.track.now) refl (ap Some (sym c.requires))
