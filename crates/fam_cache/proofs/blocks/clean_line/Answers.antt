use Rattle.std.proofs.Common.{◌∙◌, ap, sym}
use Rattle.fam_machine.specs.declared.cell.Cell.{Cell}
use Rattle.fam_machine.specs.Caches.{with_cell}
use Rattle.fam_machine.specs.OneLine.{cleaned}
use Rattle.fam_cache.specs.Blocks.{lines_of}
use Rattle.fam_cache.proofs.blocks.clean_line.Goals as goal

pub returns-clause-cache : goal.returns-clause-cache
returns-clause-cache c =
    c.set_mark.ensures.cache
    ∙ ap (λ (copy : Cell). with_cell c.args.line copy (lines_of c.args.cache.now)) (c.cleaned_mark-mark.ensures _ ∙ sym (ap cleaned c.mark_at.ensures))
