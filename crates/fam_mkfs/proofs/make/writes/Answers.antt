use Rattle.std.proofs.Common.{◌∙◌, ◌++◌, ap, ℕ, List, Option, true}
use Rattle.fam_machine.specs.declared.op.Op.{Op}
use Rattle.fam_machine.specs.Mkfs.{expected_by, read_ops}
use Rattle.fam_mkfs.proofs.SuperPuts.{all_written}
use Rattle.fam_mkfs.proofs.make.writes.Goals as goal

pub returns-in-None : goal.returns-in-None
returns-in-None c p =
    ap (λ (halt : Option ℕ). expected_by true halt p) c.in-None.is ∙ ap (λ (ops : List Op). read_ops ++ ops) (all_written p)
