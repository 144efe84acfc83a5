use Rattle.std.proofs.Common.{List, length, refl, ap, ◌∙◌}
use Rattle.fam_judge.proofs.Members.{changed_count}
use Rattle.fam_judging.specs.declared.candidate.Track.{Track}
use Rattle.fam_judging.proofs.Goings.{mark_goes, mark_next, mark_not}
use Rattle.fam_judging.proofs.steps.mark.Goals as goal

pub returns-then-not-has_begun-clause-goes : goal.returns-then-not-has_begun-clause-goes
returns-then-not-has_begun-clause-goes c start given has = mark_not start c.args.hosts.now c.args.candidate.now c.args.at _ c.if-not-has_begun.ensures

pub returns-clause-goes : goal.returns-clause-goes
returns-clause-goes c start given has =
    mark_goes start c.args.hosts.now c.args.candidate.now c.args.at _ c.if-not-has_begun.ensures
    (mark_next start c.args.hosts.now c.args.candidate.now (record { settled = c.args.candidate.now.settled; tracks = c.put_marked.new.tracks }) c.args.at c.settled_count-count.result
    c.put_marked.ensures refl (c.settled_count-count.ensures start given has))

pub returns-clause-placed : goal.returns-clause-placed
returns-clause-placed c = ap (λ (ts : List Track). length ts) c.put_marked.ensures ∙ changed_count c.args.at _ c.args.candidate.now.tracks.items
