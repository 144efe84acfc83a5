use Rattle.std.proofs.Common.{◌≡◌, ◌∙◌, ℕ, length, refl, sym, ap, subst, arith}
use Rattle.fam_machine.specs.Caches.{Cache}
use Rattle.fam_media.specs.Causes.{IsSteady}
use Rattle.fam_cache.specs.BroughtRuns.{LacksNone, brought_run}
use Rattle.fam_cache.specs.States.{CacheState}
use Rattle.fam_tasks.specs.CompareRuns.{ComparesRun}
use Rattle.fam_tasks.specs.declared.answer.Turn.{Turn}
use Rattle.fam_run.specs.Operation.{said_of}
use Rattle.fam_run.specs.Room.{WantsRoom}
use Rattle.fam_run.specs.TaskChange.{TaskChange, task_change}
use Rattle.fam_run.proofs.ComparedRuns.{absent_still, lacks_brought, run_done, run_failed}
use Rattle.fam_run.proofs.Operated.{from_same}
use Rattle.fam_run.proofs.comparing_run.compare_run.Goals as goal

-- lines that were brought may be dropped again
pub drop_behind-requires-clause-clean : goal.drop_behind-requires-clause-clean
drop_behind-requires-clause-clean g c =
    let e = c.in-Ok-true.ensures in
    let lines = c.bring_run.new.lines in
    let same : length lines ≡ length c.args.lines.now = e.len in
    subst (λ (m : Cache). LacksNone m c.args.first.0 (length lines))
    (sym (e.brought c.in-Ok-true.field-0-test ∙ ap (λ (n : ℕ). brought_run c.args.first.0 lines n c.args.cache.now.lines) (sym same)))
    (lacks_brought c.args.first.0 lines (length lines) c.args.cache.now.lines)

pub drop_behind-requires-in-Some-compare_run-clause-clean : goal.drop_behind-requires-in-Some-compare_run-clause-clean
drop_behind-requires-in-Some-compare_run-clause-clean g c =
    let e = c.in-Err.ensures in
    let n = c.in-Err.failed.done in
    let lines = c.bring_run.new.lines in
    subst (λ (m : Cache). LacksNone m c.args.first.0 n)
    (sym (e.failed_lines ∙ absent_still c.args.first.0 lines n c.args.cache.now.lines (c.requires.absent n e.before)))
    (lacks_brought c.args.first.0 lines n c.args.cache.now.lines)

-- all lines were read and are the same
pub returns-in-None-clause-advanced : goal.returns-in-None-clause-advanced
returns-in-None-clause-advanced g c =
    let m = g.M.Media in
    let e = c.in-Ok-true.ensures in
    let is = c.in-Ok-true.field-0-test in
    let old = m.state c.args.media.now in
    let new = m.state c.bring_run.new.media in
    let lines = c.bring_run.new.lines in
    let same : length lines ≡ length c.args.lines.now = e.len in
    run_done c.args.first.0 lines old.image new.image e.image (g.met.M.Media.normal c.args.media.now)
    (m.size c.args.media.now) old.faults new.faults c.args.cache.now.lines c.args.task.now
    (length lines) (omega (arith, same, c.requires.some)) c.compare_run.new.self c.compare_run.new.turn (c.in-None.ensures.goes refl)
    (λ k below. e.clean is k (omega (arith, below, same))) (λ image shown k below. e.words is image shown k (omega (arith, below, same)))
    c.bring_run.new.self.lines (e.brought is ∙ ap (λ (n : ℕ). brought_run c.args.first.0 lines n c.args.cache.now.lines) (sym same))

-- one differs: those behind it are dropped again
pub returns-in-Some-clause-advanced : goal.returns-in-Some-clause-advanced
returns-in-Some-clause-advanced g c =
    let m = g.M.Media in
    let e = c.in-Ok-true.ensures in
    let is = c.in-Ok-true.field-0-test in
    let old = m.state c.args.media.now in
    let new = m.state c.bring_run.new.media in
    let lines = c.bring_run.new.lines in
    let same : length lines ≡ length c.args.lines.now = e.len in
    let some = c.in-Some.ensures in
    run_done c.args.first.0 lines old.image new.image e.image (g.met.M.Media.normal c.args.media.now)
    (m.size c.args.media.now) old.faults new.faults c.args.cache.now.lines c.args.task.now
    c.in-Some.compared some.some c.compare_run.new.self c.compare_run.new.turn some.ends
    (λ k below. e.clean is k (omega (arith, below, same, some.most))) (λ image shown k below. e.words is image shown k (omega (arith, below, same, some.most)))
    c.drop_behind.new.cache.lines
    (c.drop_behind.ensures lines c.args.cache.now.lines (λ k below. c.requires.absent k (omega (arith, below, same)))
    (e.brought is ∙ ap (λ (n : ℕ). brought_run c.args.first.0 lines n c.args.cache.now.lines) (sym same)))

-- the media failed, but one before it differs
pub returns-in-Some-compare_run-clause-advanced : goal.returns-in-Some-compare_run-clause-advanced
returns-in-Some-compare_run-clause-advanced g c =
    let m = g.M.Media in
    let e = c.in-Err.ensures in
    let n = c.in-Err.failed.done in
    let old = m.state c.args.media.now in
    let new = m.state c.bring_run.new.media in
    let lines = c.bring_run.new.lines in
    let some = c.in-Some-compare_run.ensures in
    run_done c.args.first.0 lines old.image new.image e.image (g.met.M.Media.normal c.args.media.now)
    (m.size c.args.media.now) old.faults new.faults c.args.cache.now.lines c.args.task.now
    c.in-Some-compare_run.compared some.some c.compare_run-in-Err.new.self c.compare_run-in-Err.new.turn some.ends
    (λ k below. e.failed_clean k (omega (arith, below, e.before, some.most))) (λ image shown k below. e.failed_words image shown k (omega (arith, below, some.most)))
    c.drop_behind-in-Some-compare_run.new.cache.lines
    (c.drop_behind-in-Some-compare_run.ensures lines c.args.cache.now.lines (λ k below. c.requires.absent k (omega (arith, below, e.before)))
    (e.failed_lines ∙ absent_still c.args.first.0 lines n c.args.cache.now.lines (c.requires.absent n e.before)))

-- or none does
pub returns-in-None-compare_run-clause-advanced : goal.returns-in-None-compare_run-clause-advanced
returns-in-None-compare_run-clause-advanced g c =
    let m = g.M.Media in
    let e = c.in-Err.ensures in
    let n = c.in-Err.failed.done in
    let old = m.state c.args.media.now in
    let new = m.state c.bring_run.new.media in
    let lines = c.bring_run.new.lines in
    let mid = c.compare_run-in-Err.new.self in
    run_failed c.args.first.0 lines old.image new.image e.image (g.met.M.Media.normal c.args.media.now)
    (m.size c.args.media.now) old.faults new.faults c.args.cache.now.lines c.args.task.now
    n mid c.drop_compared.new.self
    (subst (λ (said : Turn). ComparesRun c.args.first.0 lines c.args.task.now mid n said) (c.in-None-compare_run.ensures.go refl) (c.in-None-compare_run.ensures.goes refl))
    c.is_sound-in-None-compare_run.ensures c.drop_compared.ensures c.is_sound-in-None-compare_run-2.ensures
    (λ k below. e.failed_clean k (omega (arith, below, e.before))) e.failed_words e.failed
    (omega (arith, e.before, c.requires.fits))
    c.bring_run.new.self.lines e.failed_lines

pub returns-in-Ok-false-clause-advanced : goal.returns-in-Ok-false-clause-advanced
returns-in-Ok-false-clause-advanced g c =
    let m = g.M.Media in
    let b = c.in-Ok-false in
    let a : TaskChange = task_change m.size m.state c.args.task.now c.compare_line.new.task c.args.cache.now c.compare_line.new.cache c.args.media.now c.compare_line.new.media in
    let cache : c.bring_run.new.self ≡ c.args.cache.now = b.ensures.other b.field-0-test in
    let media : c.bring_run.new.media ≡ c.args.media.now = b.ensures.same b.field-0-test in
    from_same a (said_of c.compare_line.result c.compare_line.new.turn) c.args.task.now c.bring_run.new.self.lines (m.state c.bring_run.new.media)
    (m.size c.bring_run.new.media) refl (ap (λ (s : CacheState). s.lines) cache) (ap m.state media) (ap m.size media) c.compare_line.ensures.advanced

pub returns-in-Ok-false-clause-want : goal.returns-in-Ok-false-clause-want
returns-in-Ok-false-clause-want g c = λ full.
    subst (WantsRoom c.args.task.now) (c.in-Ok-false.ensures.other c.in-Ok-false.field-0-test) (c.compare_line.ensures.want full)

pub returns-in-Ok-false-clause-steady : goal.returns-in-Ok-false-clause-steady
returns-in-Ok-false-clause-steady g c =
    subst (λ media. IsSteady g.M.Media.size g.M.Media.state media c.compare_line.new.media) (c.in-Ok-false.ensures.same c.in-Ok-false.field-0-test) c.compare_line.ensures.steady
