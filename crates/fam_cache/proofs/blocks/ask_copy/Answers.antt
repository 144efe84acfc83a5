use Rattle.std.proofs.Common.{◌∙◌, ap, sym}
use Rattle.fam_machine.specs.declared.cell.Cell.{Cell}
use Rattle.fam_machine.specs.Caches.{with_cell}
use Rattle.fam_machine.specs.OneLine.{asked_for}
use Rattle.fam_cache.specs.Blocks.{lines_of}
use Rattle.fam_cache.proofs.BlockLemmas.{absent_none, cell_none}
use Rattle.fam_cache.proofs.blocks.ask_copy.Goals as goal

pub returns-in-Some-clause-cache : goal.returns-in-Some-clause-cache
returns-in-Some-clause-cache c =
    c.set_mark.ensures.cache
    ∙ ap (λ (copy : Cell). with_cell c.args.line copy (lines_of c.args.cache.now)) (c.asked_mark-mark.ensures _ ∙ sym (ap asked_for c.mark_at.ensures))

pub returns-in-None-clause-cache : goal.returns-in-None-clause-cache
returns-in-None-clause-cache c =
    absent_none c.args.cache.now.blocks.items c.args.line (rw c.in-None.is at c.requires.spot)
    ∙ sym (ap (λ (copy : Cell). with_cell c.args.line (asked_for copy) (lines_of c.args.cache.now)) (cell_none c.args.cache.now.blocks.items c.args.line (rw c.in-None.is at c.requires.spot)))
