use Rattle.fam_judging.specs.Candidates.{possible_of}
use Rattle.fam_judging.proofs.Meeting.{writes_goes}
use Rattle.fam_judging.proofs.steps.writes.Goals as goal

pub returns-clause-goes : goal.returns-clause-goes
returns-clause-goes c start has =
    writes_goes start c.args.at c.args.seq (possible_of start c.args.hosts.now c.args.candidate.now) c.args.entry.now (possible_of start c.args.hosts.now c.wrote.new.candidate)
    c.in_ok-named.named c.is_named.result (c.in_ok-named.ensures.names start has) c.is_named.ensures
