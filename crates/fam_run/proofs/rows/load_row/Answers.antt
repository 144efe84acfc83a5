use Rattle.std.proofs.Common.{◌≡◌, ◌≤◌, suc, length, sym, ap, subst, arith}
use Rattle.fam_cache.specs.States.{CacheState}
use Rattle.fam_cache.specs.BroughtRuns.{LacksNone}
use Rattle.fam_cache.proofs.CleanRuns.{lacks_none_clean}
use Rattle.fam_tasks.specs.declared.answer.Turn.{Turn}
use Rattle.fam_run.specs.Led.{HasDone}
use Rattle.fam_run.specs.TaskChange.{task_change}
use Rattle.fam_run.proofs.SlotRows.{first_judged, row_breaks, row_done, wide_read}
use Rattle.fam_run.proofs.rows.load_row.Goals as goal

pub returns-then-breaks_off-clause-advanced : goal.returns-then-breaks_off-clause-advanced
returns-then-breaks_off-clause-advanced g c =
    let m = g.M.Media in
    let old = m.state c.args.media.now in
    let r = c.read_lines-read in
    let f = c.find_slots-found in
    let b = c.break_row in
    let new = m.state r.new.media in
    let below = c.breaks_off.ensures.read c.if-breaks_off.true in
    let lacks : LacksNone c.args.cache.now.lines c.args.due.first (suc r.result) =
    lacks_none_clean c.args.cache.now.lines c.args.due.first (suc r.result) (λ k less. c.requires.clean k (omega (arith, less, below, r.ensures.len))) in
    row_breaks c.args.due.first r.new.lines old.image new.image r.ensures.image (g.met.M.Media.normal c.args.media.now)
    (m.size c.args.media.now) old.faults new.faults c.args.cache.now.lines c.args.task.now c.args.due.lines c.args.due.slot c.requires.some
    f.result.0 f.result.1 r.result f.new.task b.new.task b.new.cache.lines b.result f.ensures.found f.ensures.most b.ensures lacks r.ensures.words
    (r.ensures.failed (omega (arith, below, r.ensures.len)))
    (omega (arith, b.ensures.is, below, r.ensures.len, c.requires.within))

pub returns-then-at-gt0-clause-advanced : goal.returns-then-at-gt0-clause-advanced
returns-then-at-gt0-clause-advanced g c =
    let m = g.M.Media in
    let old = m.state c.args.media.now in
    let r = c.read_lines-read in
    let f = c.find_slots-found in
    let new = m.state r.new.media in
    let some = c.if-at-gt0.true in
    let lacks : LacksNone c.args.cache.now.lines c.args.due.first f.result.1 =
    lacks_none_clean c.args.cache.now.lines c.args.due.first f.result.1 (λ k less. c.requires.clean k (omega (arith, less, f.ensures.most, r.ensures.most))) in
    subst (λ (said : Turn). HasDone (task_change m.size m.state c.args.task.now f.new.task c.args.cache.now c.renew_row.new.self c.args.media.now r.new.media) said) (sym c.requires.go)
    (row_done c.args.due.first r.new.lines old.image new.image r.ensures.image (g.met.M.Media.normal c.args.media.now)
    (m.size c.args.media.now) old.faults new.faults c.args.cache.now.lines c.args.task.now c.args.due.lines c.args.due.slot c.requires.some
    f.result.0 f.result.1 f.new.task f.ensures.found some lacks (λ image is k less. r.ensures.words image is k (omega (arith, less, f.ensures.most)))
    c.renew_row.new.self.lines (ap (λ (s : CacheState). s.lines) c.renew_row.ensures))

pub returns-else-at-gt0-clause-advanced : goal.returns-else-at-gt0-clause-advanced
returns-else-at-gt0-clause-advanced g c =
    let m = g.M.Media in
    let old = m.state c.args.media.now in
    let r = c.read_lines-read in
    let f = c.find_slots-found in
    let w = c.renew_row-else-at-gt0 in
    let new = m.state r.new.media in
    let none : f.result.1 ≡ 0 = omega (arith, c.if-at-gt0.false) in
    let all : c.args.due.lines ≤ r.result =
    wide_read r.result (length r.new.lines) f.result.0 c.args.slots f.result.1 c.args.due.lines c.breaks_off.result c.if-breaks_off.false
    c.breaks_off.ensures.other (omega (arith, f.ensures.none none, c.requires.slots)) (omega (arith, c.requires.whole, r.ensures.len)) none in
    let lacks : LacksNone c.args.cache.now.lines c.args.due.first c.args.due.lines =
    lacks_none_clean c.args.cache.now.lines c.args.due.first c.args.due.lines (λ k less. c.requires.clean k (omega (arith, less, c.requires.whole))) in
    first_judged c.args.due.first r.new.lines old.image new.image r.ensures.image (g.met.M.Media.normal c.args.media.now)
    (m.size c.args.media.now) old.faults new.faults c.args.cache.now.lines c.args.task.now c.args.due.lines c.args.due.slot c.requires.some
    f.new.task c.load_lines_of_slot.new.self c.check_loaded.new.task c.check_loaded.new.turn (f.ensures.same none) c.load_lines_of_slot.ensures.loads lacks
    (λ image is k less. r.ensures.words image is k (omega (arith, less, all))) w.new.self.lines (ap (λ (s : CacheState). s.lines) w.ensures)
    (c.check_loaded.ensures w.new.self.lines (m.size c.args.media.now) new)

pub returns-then-breaks_off-clause-image : goal.returns-then-breaks_off-clause-image
returns-then-breaks_off-clause-image g c = c.read_lines-read.ensures.image

pub returns-then-breaks_off-clause-steady : goal.returns-then-breaks_off-clause-steady
returns-then-breaks_off-clause-steady g c = c.read_lines-read.ensures.steady

pub returns-then-at-gt0-clause-image : goal.returns-then-at-gt0-clause-image
returns-then-at-gt0-clause-image g c = c.read_lines-read.ensures.image

pub returns-then-at-gt0-clause-steady : goal.returns-then-at-gt0-clause-steady
returns-then-at-gt0-clause-steady g c = c.read_lines-read.ensures.steady

pub returns-else-at-gt0-clause-image : goal.returns-else-at-gt0-clause-image
returns-else-at-gt0-clause-image g c = c.read_lines-read.ensures.image

pub returns-else-at-gt0-clause-steady : goal.returns-else-at-gt0-clause-steady
returns-else-at-gt0-clause-steady g c = c.read_lines-read.ensures.steady
