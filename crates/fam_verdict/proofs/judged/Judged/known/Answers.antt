use Rattle.std.proofs.Common.{◌∙◌}
use Rattle.fam_verdict.specs.declared.verdict.Known.{Known}
use Rattle.fam_verdict.proofs.Knowing.{judged_known}
use Rattle.fam_verdict.proofs.judged.Judged.known.Goals as goal

pub returns-clause-is : goal.returns-clause-is
returns-clause-is c start given records judged =
    let known : Known = record { lines = c.args.lines; settled = c.settled_in.result; pending = c.pending_in.result; states = c.len.result } in
    judged_known start given records c.args.self.now known judged (c.len.ensures ∙ c.args.self.now.candidates.ok.0) c.settled_in.ensures.all c.settled_in.ensures.told c.pending_in.ensures.all c.pending_in.ensures.told
