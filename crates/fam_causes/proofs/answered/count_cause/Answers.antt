use Rattle.fam_causes.proofs.answered.count_cause.Goals as goal

pub returns-then-is_some : goal.returns-then-is_some
returns-then-is_some c given hosts name answers = c.few_cause-few.ensures given hosts name answers

pub returns : goal.returns
returns c given hosts name answers = c.many_cause.ensures given hosts c.args.marks.now name answers
