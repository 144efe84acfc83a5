use Rattle.std.proofs.Common.{rules, ◌∙◌}
use Rattle.fam_replay.proofs.Lines.{body_tells}
use Rattle.fam_replay.proofs.head.read_superblock.Goals as goal

pub returns-clause-value : goal.returns-clause-value
returns-clause-value c =
    c.read_super.ensures.value ∙ body_tells c.args.first.now c.args.second.now c.args.have (search rules) (search rules)
