use Rattle.std.proofs.Common.{subst}
use Rattle.fam_verdict.specs.Judged.{IsReadAs}
use Rattle.fam_verdict.proofs.Onward.{stops_unresolved}
use Rattle.fam_verdict.proofs.judged.Judged.follow_if.Goals as goal

pub returns-in-Some-clause-goes : goal.returns-in-Some-clause-goes
returns-in-Some-clause-goes c start records r long judged read =
    c.follow.ensures.goes start records r long judged (subst (IsReadAs c.args.self.now.hosts.seen.items r) c.in-Some.is read)

pub returns-in-None-clause-stops : goal.returns-in-None-clause-stops
returns-in-None-clause-stops c start records r long judged read e =
    stops_unresolved start c.args.given.now records c.args.self.now judged c.requires.kept r (subst (IsReadAs c.args.self.now.hosts.seen.items r) c.in-None.is read)
