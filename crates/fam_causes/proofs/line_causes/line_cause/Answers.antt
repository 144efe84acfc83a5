use Rattle.fam_causes.proofs.line_causes.line_cause.Goals as goal

pub returns-in-Some : goal.returns-in-Some
returns-in-Some c answers = c.given_cause.ensures c.args.name.now answers

pub returns-in-None : goal.returns-in-None
returns-in-None c answers = c.free_cause.ensures c.args.given.now c.args.candidates.now.items c.args.marks.now answers
