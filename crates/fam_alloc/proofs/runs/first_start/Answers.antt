use Rattle.fam_alloc.proofs.SpacedLemmas.{ends_below, ends_upto, ends_wider}
use Rattle.fam_alloc.proofs.runs.first_start.Goals as goal

pub returns-in-Some-clause-before : goal.returns-in-Some-clause-before
returns-in-Some-clause-before c =
    let run = c.in-Some.run' in
    ends_wider c.args.runs.now.entries run.start c.args.unit c.in-Some.ensures.low
    (ends_below 0 c.args.units c.args.runs.now.entries run.start _ c.requires.spaced c.in-Some.ensures.stands)

pub returns-in-None-clause-before : goal.returns-in-None-clause-before
returns-in-None-clause-before c = ends_upto c.args.runs.now.entries c.args.unit c.in-None.ensures
