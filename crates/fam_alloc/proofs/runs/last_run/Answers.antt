use Rattle.std.proofs.Common.{◌≡◌, ◌+◌, ◌-◌, Some, ap, ◌∙◌, arith}
use Rattle.std.proofs.lemmas.Map.Keys.{le_from_not_gt, ge_from_not_lt}
use Rattle.fam_alloc.proofs.SpacedLemmas.{not_above, run_bounds, last_holds, none_upto, no_run}
use Rattle.fam_alloc.proofs.runs.last_run.Goals as goal

pub overflow_add-result : goal.overflow_add-result
overflow_add-result c =
    let rs = c.args.runs.now.entries in
    let stands = ((c.range.ensures.in_range tt).3 _ _ c.in-Some.ensures.steps).1 in
    omega (arith, (run_bounds 0 c.args.units rs c.in-Some.start.now c.in-Some.length.now c.requires.spaced stands).1, c.requires.few)

pub returns-in-Some : goal.returns-in-Some
returns-in-Some c =
    let rs = c.args.runs.now.entries in
    let s = c.in-Some.start.now in
    let n = c.in-Some.length.now in
    let entry = (c.range.ensures.in_range tt).3 _ _ c.in-Some.ensures.steps in
    let greatest = (c.range.ensures.in_range tt).4 _ _ c.in-Some.ensures.steps in
    let low = le_from_not_gt s c.args.unit entry.0.1 in
    record {
      low = low;
      order = omega arith;
      stands = entry.1 ∙ ap Some (let e : n ≡ s + n - s = omega arith in e);
      here = last_holds 0 c.args.units rs c.args.unit s n c.requires.spaced entry.1 low (λ q below some. ge_from_not_lt s q (greatest q (tt, not_above q c.args.unit below) some));
    }

pub returns-in-None : goal.returns-in-None
returns-in-None c = λ v below.
    let rs = c.args.runs.now.entries in
    let none = (c.range.ensures.in_range tt).5 c.in-None.ensures.steps.0 in
    none_upto 0 c.args.units rs v c.requires.spaced (λ q low. no_run rs q (none q (tt, not_above q c.args.unit (omega arith))))
