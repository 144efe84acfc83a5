use Rattle.std.proofs.Common.{subst, Bool}
use Rattle.fam_judging.specs.Candidates.{possible_of}
use Rattle.fam_judging.specs.Going.{Goes, MeetsAt}
use Rattle.fam_judging.proofs.Meeting.{names_from, names_from_none}
use Rattle.fam_judging.proofs.steps.wrote.Goals as goal

pub returns-then-not-met-clause-names : goal.returns-then-not-met-clause-names
returns-then-not-met-clause-names c start has =
    let x = possible_of start c.args.hosts.now c.args.candidate.now in
    let y = possible_of start c.args.hosts.now c.meet.new.candidate in
    names_from_none start c.args.at c.args.n x y y
    (subst (λ (b : Bool). Goes (MeetsAt start c.args.at c.args.n x) y b) c.if-not-met.true (c.in_ok-met.ensures.goes start has))

pub returns-clause-names : goal.returns-clause-names
returns-clause-names c start has =
    let x = possible_of start c.args.hosts.now c.args.candidate.now in
    let y = possible_of start c.args.hosts.now c.meet.new.candidate in
    names_from start c.args.at c.args.n x y (possible_of start c.args.hosts.now c.name.new.candidate) c.name.result
    (subst (λ (b : Bool). Goes (MeetsAt start c.args.at c.args.n x) y b) c.if-not-met.false (c.in_ok-met.ensures.goes start has))
    (c.name.ensures.names start c.args.given.now (c.meet.ensures.given start has))

pub returns-clause-given : goal.returns-clause-given
returns-clause-given c start has = c.name.ensures.given start c.args.given.now (c.meet.ensures.given start has)
