use Rattle.std.proofs.Common.{List, ℕ, ap, ◌∙◌}
use Rattle.fam_format.specs.Super.{super_body_of}
use Rattle.fam_tasks.proofs.Lines.{two_lines}
use Rattle.fam_tasks.proofs.task.loads.read_body.Goals as goal

pub returns-clause-value : goal.returns-clause-value
returns-clause-value c =
    c.read_superblock.ensures.value
    ∙ ap (λ (w : List ℕ). super_body_of w c.args.have)
    (two_lines c.args.words.now c.line.result c.line-2.result c.requires.count c.line.ensures c.line-2.ensures)
