use Rattle.std.proofs.Common.{◌∙◌, sym, arith}
use Rattle.std.specs.FinMap.{get-empty}
use Rattle.std.proofs.lemmas.Bool.{cond-true, cond-false}
use Rattle.fam_base.specs.PathOrder.{path_cmp}
use Rattle.fam_plan.proofs.Prefixes.{held_more}
use Rattle.fam_plan.proofs.plan.Plan.held_among.Goals as goal
use Rattle.fam_plan.proofs.plan.Plan.held_among.Goals.{then-eq, else-eq}

pub loop-i-init : goal.loop-i-init
loop-i-init c = sym (get-empty path_cmp c.args.path.now)

pub loop-i-preserved : goal.loop-i-preserved
loop-i-preserved c =
    let more = held_more c.args.self.now.entries c.loop-i.i c.entry-entry.result c.args.path.now (omega arith) c.entry-entry.ensures.value in
    elim c.if-eq.branch [
      | then-eq w ↦ w.found-is ∙ sym (more ∙ cond-true _ _ _ (sym c.eq.ensures.value ∙ w.if-eq.true))
      | else-eq w ↦ w.found-is ∙ c.loop-i.invariant ∙ sym (more ∙ cond-false _ _ _ (sym c.eq.ensures.value ∙ w.if-eq.false))
    ]
