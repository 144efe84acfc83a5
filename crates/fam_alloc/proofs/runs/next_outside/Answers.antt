use Rattle.std.proofs.Common.{ℕ, min, ap, ◌∙◌}
use Rattle.fam_alloc.proofs.SpacedLemmas.{next_held, next_none}
use Rattle.fam_alloc.proofs.runs.next_outside.Goals as goal

pub returns-in-Some : goal.returns-in-Some
returns-in-Some c =
    let run = c.in-Some.run' in
    next_held c.args.units c.args.runs.now.entries c.args.from c.args.to run.start run.end c.min.result
    c.requires.spaced c.in-Some.ensures c.requires.order (c.min.ensures ∙ ap (λ (k : ℕ). min k c.args.to) c.max.ensures)

pub returns-in-None : goal.returns-in-None
returns-in-None c = next_none c.args.runs.now.entries c.args.from c.args.to c.in-None.ensures c.requires.order
