use Rattle.std.proofs.Common.{◌∙◌, sym}
use Rattle.std.specs.FinMap.{get-empty}
use Rattle.std.proofs.lemmas.Bool.{cond-true, cond-false}
use Rattle.fam_base.specs.PathOrder.{path_cmp}
use Rattle.fam_plain.proofs.Scans.{at_more}
use Rattle.fam_plain.proofs.join.entry_at.Goals as goal
use Rattle.fam_plain.proofs.join.entry_at.Goals.{then-eq, else-eq}

pub loop-entry-init : goal.loop-entry-init
loop-entry-init c = sym (get-empty path_cmp c.args.path.now)

pub loop-entry-preserved : goal.loop-entry-preserved
loop-entry-preserved c =
    let more = at_more c.args.entries.now c.loop-entry.entry-index c.entry-item.result c.args.path.now c.loop-entry-test.true c.entry-item.is in
    elim c.if-eq.branch [
      | then-eq w ↦ w.found-is ∙ sym (more ∙ cond-true _ _ _ (sym c.eq.ensures.value ∙ w.if-eq.true))
      | else-eq w ↦ w.found-is ∙ c.loop-entry.invariant ∙ sym (more ∙ cond-false _ _ _ (sym c.eq.ensures.value ∙ w.if-eq.false))
    ]
