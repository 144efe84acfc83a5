use Rattle.std.proofs.Common.{None, Some, rules}
use Rattle.fam_tasks.proofs.HeaderTurns.{header_told}
use Rattle.fam_tasks.proofs.task.Task.load_header.Goals as goal

pub returns-in-Err-clause-turn : goal.returns-in-Err-clause-turn
returns-in-Err-clause-turn c =
    let told = header_told c.self.inside c.args.self.now c.args.word c.push.new.self c.line.result (Some c.in-Err.fault) c.self.invariant
    c.self.view_is c.requires c.push.ensures c.line.ensures c.in-Err.ensures in
    rw told (search rules)

pub returns-in-Ok-clause-turn : goal.returns-in-Ok-clause-turn
returns-in-Ok-clause-turn c =
    let told = header_told c.self.inside c.args.self.now c.args.word c.push.new.self c.line.result None c.self.invariant c.self.view_is c.requires c.push.ensures c.line.ensures c.in-Ok.ensures in
    rw told (search rules)
