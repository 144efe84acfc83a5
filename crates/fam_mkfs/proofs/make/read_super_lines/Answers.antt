use Rattle.fam_machine.specs.Mkfs.{read_ops}
use Rattle.fam_mkfs.proofs.SuperLines.{lines_read, cut_magic, cut_prefix, cut_rest, super_loaded}
use Rattle.fam_mkfs.proofs.WholeLines.{cut_on}
use Rattle.fam_mkfs.proofs.make.read_super_lines.Goals as goal

pub returns-in_err-magic-clause-cut : goal.returns-in_err-magic-clause-cut
returns-in_err-magic-clause-cut g c =
    cut_on read_ops _ _ c.in_err-magic.field-0.0 c.from_residual.result c.from_residual.ensures (cut_magic _ _ _ c.in_err-magic.ensures.cut)

pub returns-in_err-first-clause-cut : goal.returns-in_err-first-clause-cut
returns-in_err-first-clause-cut g c =
    cut_on read_ops _ _ c.in_err-first.field-0.0 c.from_residual-in_err-first.result c.from_residual-in_err-first.ensures
    (cut_prefix _ _ _ _ c.in_ok-magic.ensures.done c.in_err-first.ensures.cut)

pub returns-in_err-second-clause-cut : goal.returns-in_err-second-clause-cut
returns-in_err-second-clause-cut g c =
    cut_on read_ops _ _ c.in_err-second.field-0.0 c.from_residual-in_err-second.result c.from_residual-in_err-second.ensures
    (cut_rest _ _ _ _ _ c.in_ok-magic.ensures.done c.in_ok-first.ensures.done c.in_err-second.ensures.cut)

pub returns-clause-done : goal.returns-clause-done
returns-clause-done g c = lines_read _ _ _ _ c.in_ok-magic.ensures.done c.in_ok-first.ensures.done c.in_ok-second.ensures.done

pub returns-clause-found : goal.returns-clause-found
returns-clause-found g c image is have =
    super_loaded c.in_ok-magic.magic c.in_ok-first.first c.in_ok-second.second _ _ _ _ image c.in_ok-magic.ensures.done c.in_ok-first.ensures.done
    c.in_ok-second.ensures.done c.in_ok-magic.ensures.words c.in_ok-first.ensures.words c.in_ok-second.ensures.words is have
