use Rattle.fam_judging.specs.Candidates.{possible_of}
use Rattle.fam_judging.specs.Going.{FindsEntries, Goes, MeetsAt}
use Rattle.fam_judging.proofs.Goings.{if_ok}
use Rattle.fam_judging.proofs.Meeting.{meets_found, meets_told}
use Rattle.fam_judging.proofs.steps.meet.Goals as goal

pub returns-then-has_met-clause-goes : goal.returns-then-has_met-clause-goes
returns-then-has_met-clause-goes c start has = meets_told start c.args.hosts.now c.args.candidate.now c.args.at c.args.n c.if-has_met.ensures

pub returns-clause-goes : goal.returns-clause-goes
returns-clause-goes c start has =
    let x = possible_of start c.args.hosts.now c.args.candidate.now in
    let y = possible_of start c.args.hosts.now c.found.new.candidate in
    if_ok c.found.result (Goes (FindsEntries start c.args.at c.args.n x) y) (Goes (MeetsAt start c.args.at c.args.n x) y)
    (meets_found start c.args.hosts.now c.args.candidate.now c.args.at c.args.n c.if-has_met.ensures y) (c.found.ensures.goes start has)
