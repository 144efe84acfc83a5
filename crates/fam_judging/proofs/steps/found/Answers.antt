use Rattle.std.proofs.Common.{length, refl, sym, ap, ◌∙◌, List}
use Rattle.fam_judge.proofs.Members.{changed_count}
use Rattle.fam_judging.specs.declared.candidate.Track.{Track}
use Rattle.fam_judging.proofs.Goings.{found_next, goes_there}
use Rattle.fam_judging.proofs.steps.found.Goals as goal

pub returns-in_err-find-clause-given : goal.returns-in_err-find-clause-given
returns-in_err-find-clause-given c start has = c.find.ensures.given start c.args.given.now has

pub returns-clause-given : goal.returns-clause-given
returns-clause-given c start has = c.find.ensures.given start c.args.given.now has

pub returns-clause-goes : goal.returns-clause-goes
returns-clause-goes c start has =
    let m = (c.if-not-may_be_found.ensures start has).0 refl in
    let next = found_next start c.args.hosts.now c.args.candidate.now (record { settled = c.find.new.settled; tracks = c.put_met.new.tracks }) c.args.at c.args.n c.put_met.ensures
    (c.in_ok-find.ensures.found start c.args.given.now has) in
    goes_there _ (record { head = m.head; wishes = m.wishes; found = m.found; is = next }) (λ z f. f.is ∙ sym next)

pub returns-clause-placed : goal.returns-clause-placed
returns-clause-placed c = ap (λ (ts : List Track). length ts) c.put_met.ensures ∙ changed_count c.args.at _ c.args.candidate.now.tracks.items
