use Rattle.std.proofs.Common.{◌≡◌, ◌+◌, ◌∙◌, ℕ, length, sym, ap, subst, arith}
use Rattle.fam_base.specs.declared.entry.Params.{Params}
use Rattle.fam_format.specs.Layout.{slot_line}
use Rattle.fam_media.specs.Outside.{IfModelled}
use Rattle.fam_media.specs.Runs.{AreRead}
use Rattle.fam_cache.specs.BroughtRuns.{LacksNone, brought_run}
use Rattle.fam_run.proofs.SlotRuns.{run_done, run_failed, slot_line_is}
use Rattle.fam_run.proofs.slot_run.load_run.Goals as goal

pub returns-in-Ok-true-clause-loaded : goal.returns-in-Ok-true-clause-loaded
returns-in-Ok-true-clause-loaded g c = λ _.
    let m = g.M.Media in
    let e = c.in-Ok-true.ensures in
    let is = c.in-Ok-true.field-0-test in
    let old = m.state c.args.media.now in
    let new = m.state c.bring_run.new.media in
    let same : length c.bring_run.new.lines ≡ length c.args.lines.now = e.len in
    run_done c.args.due.first c.bring_run.new.lines old.image new.image e.image (g.met.M.Media.normal c.args.media.now)
    (m.size c.args.media.now) old.faults new.faults c.args.cache.now.lines c.args.task.now
    (length c.bring_run.new.lines) (omega (arith, same, c.requires.all, c.requires.some)) c.load_lines_of_slot.new.self c.load_lines_of_slot.ensures.loads
    (subst (LacksNone c.args.cache.now.lines c.args.due.first) (sym same) (e.clean is))
    (subst (λ (n : ℕ). IfModelled old.image (λ image. AreRead image c.args.due.first c.bring_run.new.lines n)) (sym same) (e.words is))
    c.bring_run.new.self.lines (e.brought is ∙ ap (λ (n : ℕ). brought_run c.args.due.first c.bring_run.new.lines n c.args.cache.now.lines) (sym same))

pub returns-in-Err-clause-failed : goal.returns-in-Err-clause-failed
returns-in-Err-clause-failed g c =
    let m = g.M.Media in
    let e = c.in-Err.ensures in
    let n = c.in-Err.failed.done in
    let old = m.state c.args.media.now in
    let new = m.state c.bring_run.new.media in
    let line = c.line_of_slot_due-line.result in
    let mid = c.load_lines_of_slot-in-Err in
    let at : line.0 ≡ c.args.due.first + n =
    slot_line_is mid.new.self line c.args.due.slot c.args.due.first n (mid.ensures.next (omega (arith, e.before, c.requires.all)))
    (c.requires.first ∙ ap (λ (p : Params). slot_line p c.args.due.slot 0) (sym mid.ensures.params)) c.line_of_slot_due-line.ensures in
    run_failed c.args.due.first c.bring_run.new.lines old.image new.image e.image (g.met.M.Media.normal c.args.media.now)
    (m.size c.args.media.now) old.faults new.faults c.args.cache.now.lines c.args.task.now
    n mid.new.self c.drop_line_of_slot.new.self line at mid.ensures.loads c.is_sound.ensures c.drop_line_of_slot.ensures c.is_sound-in-Err.ensures
    (λ k below. e.failed_clean k (omega (arith, below, e.before))) e.failed_words e.failed
    (omega (arith, at, e.before, c.requires.all, c.if-due-size.false, c.if-due-size-2.false, c.lines-size.ensures.count))
    c.bring_run.new.self.lines e.failed_lines

pub returns-in-Ok-true-clause-image : goal.returns-in-Ok-true-clause-image
returns-in-Ok-true-clause-image g c = c.bring_run.ensures.image

pub returns-in-Ok-true-clause-steady : goal.returns-in-Ok-true-clause-steady
returns-in-Ok-true-clause-steady g c = c.bring_run.ensures.steady

pub returns-in-Ok-false-clause-image : goal.returns-in-Ok-false-clause-image
returns-in-Ok-false-clause-image g c = c.bring_run.ensures.image

pub returns-in-Ok-false-clause-steady : goal.returns-in-Ok-false-clause-steady
returns-in-Ok-false-clause-steady g c = c.bring_run.ensures.steady

pub returns-in-Err-clause-image : goal.returns-in-Err-clause-image
returns-in-Err-clause-image g c = c.bring_run.ensures.image

pub returns-in-Err-clause-steady : goal.returns-in-Err-clause-steady
returns-in-Err-clause-steady g c = c.bring_run.ensures.steady
