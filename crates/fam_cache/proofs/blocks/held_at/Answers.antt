use Rattle.std.proofs.Common.{◌∙◌, ap}
use Rattle.fam_machine.specs.OneLine.{is_held}
use Rattle.fam_cache.proofs.BlockLemmas.{cell_none, unheld}
use Rattle.fam_cache.proofs.blocks.held_at.Goals as goal

pub returns-then-is_held_mark-clause-held : goal.returns-then-is_held_mark-clause-held
returns-then-is_held_mark-clause-held c = ap is_held c.mark_at.ensures ∙ c.is_held_mark.ensures _ ∙ c.if-is_held_mark.true

pub returns-else-is_held_mark-clause-absent : goal.returns-else-is_held_mark-clause-absent
returns-else-is_held_mark-clause-absent c = λ none. unheld _ (ap is_held c.mark_at.ensures ∙ c.is_held_mark.ensures _ ∙ c.if-is_held_mark.false)

pub returns-in-None-clause-absent : goal.returns-in-None-clause-absent
returns-in-None-clause-absent c = λ none. cell_none c.args.cache.now.blocks.items c.args.line (rw c.in-None.is at c.requires.spot)
