use Rattle.std.proofs.Common.{ap, sym, ◌∙◌}
use Rattle.fam_base.specs.declared.entry.Params.{Params}
use Rattle.fam_rules.specs.Decide.{early_refusal}
use Rattle.fam_plan.specs.Wishes.{wish_in}
use Rattle.fam_plan.proofs.Lengths.{early_ends, early_goes}
use Rattle.fam_plan.proofs.decide.decide_wish_with_length.Goals as goal

pub returns-in-Ok : goal.returns-in-Ok
returns-in-Ok c =
    let early = ap (λ (p : Params). early_refusal p c.args.me.now c.args.wish.now.path) (sym c.params.ensures) ∙ c.in-Ok.ensures in
    c.decide_wish.ensures ∙ sym (early_goes c.args.plan.now.params c.args.me.now c.args.plan.now.entries (wish_in c.args.wish.now) early)

pub returns-in-Err : goal.returns-in-Err
returns-in-Err c =
    let early = ap (λ (p : Params). early_refusal p c.args.me.now c.args.wish.now.path) (sym c.params.ensures) ∙ c.in-Err.ensures in
    sym (early_ends c.args.plan.now.params c.args.me.now c.args.plan.now.entries (wish_in c.args.wish.now) c.in-Err.refused early)
