use Rattle.std.proofs.Common.{length, ap}
use Rattle.fam_judge.specs.Untold.{untold_cmd}
use Rattle.fam_settled.proofs.Fills.{cp_fill}
use Rattle.fam_settled.proofs.told.plain_bytes.Goals as goal

pub returns-in-Cp : goal.returns-in-Cp
returns-in-Cp c =
    let cp = c.in-Cp in
    cp_fill cp.path cp.attr cp.stripe (length cp.bytes) (untold_cmd c.args.cmd.now) (ap untold_cmd cp.is)
