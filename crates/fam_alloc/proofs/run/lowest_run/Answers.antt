use Rattle.std.proofs.Common.{◌+◌, ◌-◌, ◌<◌, ◌≤◌, min, max, Some, ap, sym, ◌∙◌, arith}
use Rattle.fam_alloc.proofs.FitLemmas.{first_fit, fit_here, fit_later, fit_between, fit_is_room}
use Rattle.fam_alloc.proofs.run.lowest_run.Goals as goal

pub loop-start-init : goal.loop-start-init
loop-start-init c =
    let rs = c.args.runs.now.entries in
    ap (first_fit c.args.from c.args.to c.args.count) (c.into_iter-start-iterator.ensures.into_iter_gives ∙ c.range-start-items.ensures.between tt)
    ∙ fit_between c.args.from c.args.to c.args.count c.first_start-first.result rs c.requires.some c.first_start-first.ensures.before
    ∙ fit_is_room c.args.units c.args.from c.args.to c.args.count rs c.requires.some c.requires.spaced

pub loop-start-preserved : goal.loop-start-preserved
loop-start-preserved c =
    let s = c.in-Some.start.now in
    let n = c.in-Some.length.now in
    let short : min c.args.to (s + n) - max c.args.from s < c.args.count = omega arith in
    sym (fit_later c.args.from c.args.to c.args.count (s, n) c.next.new.self short)
    ∙ ap (first_fit c.args.from c.args.to c.args.count) (sym c.in-Some.ensures.steps)
    ∙ c.loop-start.invariant

pub returns-then-saturating_sub-count : goal.returns-then-saturating_sub-count
returns-then-saturating_sub-count c =
    let s = c.in-Some.start.now in
    let n = c.in-Some.length.now in
    let long : c.args.count ≤ min c.args.to (s + n) - max c.args.from s = omega arith in
    ap Some c.max-begin.ensures
    ∙ sym (fit_here c.args.from c.args.to c.args.count (s, n) c.next.new.self long)
    ∙ ap (first_fit c.args.from c.args.to c.args.count) (sym c.in-Some.ensures.steps)
    ∙ c.loop-start.invariant

pub returns : goal.returns
returns c =
    ap (first_fit c.args.from c.args.to c.args.count) (sym c.in-None.ensures.steps.0)
    ∙ c.loop-start.invariant
