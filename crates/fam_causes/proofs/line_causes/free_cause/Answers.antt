use Rattle.std.proofs.Common.{Some, sym, subst}
use Rattle.fam_lines.specs.declared.line.Line.{Line}
use Rattle.fam_causes.specs.Asked.{asked}
use Rattle.fam_causes.specs.Causes.{IsCause}
use Rattle.fam_causes.proofs.line_causes.free_cause.Goals as goal

pub returns-in-Host : goal.returns-in-Host
returns-in-Host c given candidates marks answers =
    subst (λ (l : Line). IsCause (asked given c.args.hosts.now candidates marks c.args.name.now answers (Some l)) c.same_cause.result) (sym c.in-Host.is)
    (c.same_cause.ensures given candidates marks c.args.name.now answers)
