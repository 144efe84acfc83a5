use Rattle.std.proofs.Common.{◌≡◌, subst, sym, arith, rules}
use Rattle.fam_alloc.specs.Runs.{AreSpaced}
use Rattle.fam_alloc.proofs.TakeLemmas.{opened_spaced, opened_fits, put_back, left_spaced, left_outside, left_empty, left_length, last_spaced, last_outside, last_fits, last_empty, last_length}
use Rattle.fam_alloc.proofs.cut.+take_from.Goals as goal

pub take_from-requires-2 : goal.take_from-requires-2
take_from-requires-2 t c =
    let run = c.run_at-run.result in
    let held = c.in_ok-held.held in
    let spaced : AreSpaced 0 c.args.units c.open.new.runs.entries =
    opened_spaced c.args.units c.args.unit c.args.extents.now c.args.i c.args.runs.now.entries run.start run.end held.start held.end
    (omega arith) c.run_at-run.ensures.start c.run_at-run.ensures.end (omega (arith, c.run_at-run.ensures.end, c.if-run.false)) c.requires.spaced c.in_ok-held.ensures.held c.in_ok-held.ensures.whole
    c.open.new.runs.entries c.in_ok-open.ensures.opened in
    (search rules, (c.requires.unit, (c.requires.within, (c.requires.few, (omega arith, spaced)))))

pub returns-in-Err-clause-spaced : goal.returns-in-Err-clause-spaced
returns-in-Err-clause-spaced t c =
    let run = c.run_at-run.result in
    let held = c.in_ok-held.held in
    let same : c.close.new.runs.entries ≡ c.args.runs.now.entries =
    put_back c.args.units c.args.unit c.args.extents.now c.args.i c.args.runs.now.entries run.start run.end held.start held.end
    (omega arith) c.run_at-run.ensures.start c.run_at-run.ensures.end (omega (arith, c.run_at-run.ensures.end, c.if-run.false)) c.requires.spaced c.in_ok-held.ensures.held c.in_ok-held.ensures.whole
    c.open.new.runs.entries c.in_ok-open.ensures.opened c.take_from-2.new.runs.entries c.close.new.runs.entries c.in-Err.ensures.err c.close.ensures in
    subst (AreSpaced 0 c.args.units) (sym same) c.requires.spaced

pub returns-in-Err-clause-err : goal.returns-in-Err-clause-err
returns-in-Err-clause-err t c =
    let run = c.run_at-run.result in
    let held = c.in_ok-held.held in
    put_back c.args.units c.args.unit c.args.extents.now c.args.i c.args.runs.now.entries run.start run.end held.start held.end
    (omega arith) c.run_at-run.ensures.start c.run_at-run.ensures.end (omega (arith, c.run_at-run.ensures.end, c.if-run.false)) c.requires.spaced c.in_ok-held.ensures.held c.in_ok-held.ensures.whole
    c.open.new.runs.entries c.in_ok-open.ensures.opened c.take_from-2.new.runs.entries c.close.new.runs.entries c.in-Err.ensures.err c.close.ensures

pub returns-clause-spaced : goal.returns-clause-spaced
returns-clause-spaced t c =
    let run = c.run_at-run.result in
    let held = c.in_ok-held.held in
    left_spaced c.args.units c.args.unit c.args.extents.now c.args.i c.args.runs.now.entries run.start run.end held.start held.end
    (omega arith) c.run_at-run.ensures.start c.run_at-run.ensures.end (omega (arith, c.run_at-run.ensures.end, c.if-run.false)) c.requires.spaced c.in_ok-held.ensures.held c.in_ok-held.ensures.whole
    c.open.new.runs.entries c.in_ok-open.ensures.opened
    c.take_from-2.new.runs.entries c.settle.new.runs.entries c.in_default.ensures.spaced c.in_default.ensures.taken c.in_default.ensures.empty c.settle.ensures

pub returns-clause-taken : goal.returns-clause-taken
returns-clause-taken t c =
    let run = c.run_at-run.result in
    let held = c.in_ok-held.held in
    left_outside c.args.units c.args.unit c.args.extents.now c.args.i c.args.runs.now.entries run.start run.end held.start held.end
    (omega arith) c.run_at-run.ensures.start c.run_at-run.ensures.end (omega (arith, c.run_at-run.ensures.end, c.if-run.false)) c.requires.spaced c.in_ok-held.ensures.held c.in_ok-held.ensures.whole
    c.open.new.runs.entries c.in_ok-open.ensures.opened
    c.take_from-2.new.runs.entries c.settle.new.runs.entries c.in_default.ensures.spaced c.in_default.ensures.taken c.in_default.ensures.empty c.settle.ensures

pub returns-clause-fits : goal.returns-clause-fits
returns-clause-fits t c =
    let run = c.run_at-run.result in
    let held = c.in_ok-held.held in
    opened_fits c.args.units c.args.unit c.args.extents.now c.args.i c.args.runs.now.entries run.start run.end held.start held.end
    (omega arith) c.run_at-run.ensures.start c.run_at-run.ensures.end (omega (arith, c.run_at-run.ensures.end, c.if-run.false)) c.requires.spaced c.in_ok-held.ensures.held c.in_ok-held.ensures.whole
    c.open.new.runs.entries c.in_ok-open.ensures.opened c.in_default.ensures.fits

pub returns-clause-empty : goal.returns-clause-empty
returns-clause-empty t c =
    let run = c.run_at-run.result in
    let held = c.in_ok-held.held in
    left_empty c.args.units c.args.unit c.args.extents.now c.args.i c.args.runs.now.entries run.start run.end held.start held.end
    (omega arith) c.run_at-run.ensures.start c.run_at-run.ensures.end (omega (arith, c.run_at-run.ensures.end, c.if-run.false)) c.requires.spaced c.in_ok-held.ensures.held c.in_ok-held.ensures.whole
    c.open.new.runs.entries c.in_ok-open.ensures.opened
    c.take_from-2.new.runs.entries c.settle.new.runs.entries c.in_default.ensures.spaced c.in_default.ensures.taken c.in_default.ensures.empty c.settle.ensures

pub returns-clause-more : goal.returns-clause-more
returns-clause-more t c =
    let run = c.run_at-run.result in
    let held = c.in_ok-held.held in
    left_length c.args.units c.args.unit c.args.extents.now c.args.i c.args.runs.now.entries run.start run.end held.start held.end
    (omega arith) c.run_at-run.ensures.start c.run_at-run.ensures.end (omega (arith, c.run_at-run.ensures.end, c.if-run.false)) c.requires.spaced c.in_ok-held.ensures.held c.in_ok-held.ensures.whole
    c.open.new.runs.entries c.in_ok-open.ensures.opened
    c.take_from-2.new.runs.entries c.settle.new.runs.entries c.in_default.ensures.spaced c.in_default.ensures.taken c.in_default.ensures.empty c.settle.ensures c.in_default.ensures.more

pub returns-then-i-len-2-clause-spaced : goal.returns-then-i-len-2-clause-spaced
returns-then-i-len-2-clause-spaced t c =
    let run = c.run_at-run.result in
    let held = c.in_ok-held.held in
    last_spaced c.args.units c.args.unit c.args.extents.now c.args.i c.args.runs.now.entries run.start run.end held.start held.end
    (omega arith) c.run_at-run.ensures.start c.run_at-run.ensures.end (omega (arith, c.run_at-run.ensures.end, c.if-run.false)) c.requires.spaced c.in_ok-held.ensures.held c.in_ok-held.ensures.whole
    c.take_run.new.runs.entries (omega (arith, c.if-i-len-2.true, c.len-2.ensures.count)) c.in_ok-take_run.ensures.taken

pub returns-then-i-len-2-clause-taken : goal.returns-then-i-len-2-clause-taken
returns-then-i-len-2-clause-taken t c =
    let run = c.run_at-run.result in
    let held = c.in_ok-held.held in
    last_outside c.args.units c.args.unit c.args.extents.now c.args.i c.args.runs.now.entries run.start run.end held.start held.end
    (omega arith) c.run_at-run.ensures.start c.run_at-run.ensures.end (omega (arith, c.run_at-run.ensures.end, c.if-run.false)) c.requires.spaced c.in_ok-held.ensures.held c.in_ok-held.ensures.whole
    c.take_run.new.runs.entries (omega (arith, c.if-i-len-2.true, c.len-2.ensures.count)) c.in_ok-take_run.ensures.taken

pub returns-then-i-len-2-clause-fits : goal.returns-then-i-len-2-clause-fits
returns-then-i-len-2-clause-fits t c =
    let run = c.run_at-run.result in
    let held = c.in_ok-held.held in
    last_fits c.args.units c.args.unit c.args.extents.now c.args.i c.args.runs.now.entries run.start run.end held.start held.end
    (omega arith) c.run_at-run.ensures.start c.run_at-run.ensures.end (omega (arith, c.run_at-run.ensures.end, c.if-run.false)) c.requires.spaced c.in_ok-held.ensures.held c.in_ok-held.ensures.whole
    c.take_run.new.runs.entries (omega (arith, c.if-i-len-2.true, c.len-2.ensures.count)) c.in_ok-take_run.ensures.taken

pub returns-then-i-len-2-clause-empty : goal.returns-then-i-len-2-clause-empty
returns-then-i-len-2-clause-empty t c =
    let run = c.run_at-run.result in
    let held = c.in_ok-held.held in
    last_empty c.args.units c.args.unit c.args.extents.now c.args.i c.args.runs.now.entries run.start run.end held.start held.end
    (omega arith) c.run_at-run.ensures.start c.run_at-run.ensures.end (omega (arith, c.run_at-run.ensures.end, c.if-run.false)) c.requires.spaced c.in_ok-held.ensures.held c.in_ok-held.ensures.whole
    c.take_run.new.runs.entries (omega (arith, c.if-i-len-2.true, c.len-2.ensures.count)) c.in_ok-take_run.ensures.taken

pub returns-then-i-len-2-clause-more : goal.returns-then-i-len-2-clause-more
returns-then-i-len-2-clause-more t c =
    let run = c.run_at-run.result in
    let held = c.in_ok-held.held in
    last_length c.args.units c.args.unit c.args.extents.now c.args.i c.args.runs.now.entries run.start run.end held.start held.end
    (omega arith) c.run_at-run.ensures.start c.run_at-run.ensures.end (omega (arith, c.run_at-run.ensures.end, c.if-run.false)) c.requires.spaced c.in_ok-held.ensures.held c.in_ok-held.ensures.whole
    c.take_run.new.runs.entries (omega (arith, c.if-i-len-2.true, c.len-2.ensures.count)) c.in_ok-take_run.ensures.taken
