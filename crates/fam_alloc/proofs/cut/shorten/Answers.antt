use Rattle.std.proofs.Common.{◌∙◌}
use Rattle.fam_alloc.proofs.EmptyLemmas.{shortened_whole, shortened_part}
use Rattle.fam_alloc.proofs.cut.shorten.Goals as goal

pub returns-then-start-end : goal.returns-then-start-end
returns-then-start-end c = c.remove.ensures.entries ∙ shortened_whole c.args.runs.now.entries c.args.start c.args.end c.if-start-end.true

pub returns-else-start-end : goal.returns-else-start-end
returns-else-start-end c = c.set_length.ensures ∙ shortened_part c.args.runs.now.entries c.args.start c.args.end c.if-start-end.false
