use Rattle.std.proofs.Common.{ap}
use Rattle.fam_settled.specs.Told.{bare_cmd}
use Rattle.fam_settled.proofs.Fills.{cp_fill}
use Rattle.fam_settled.proofs.told.bytes_told.Goals as goal

pub returns-in-Cp : goal.returns-in-Cp
returns-in-Cp c =
    let cp = c.in-Cp in
    cp_fill cp.path cp.attr cp.stripe cp.size (bare_cmd c.args.cmd.now) (ap bare_cmd cp.is)
