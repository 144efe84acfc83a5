use Rattle.std.proofs.Common.{◌≡◌, Err, refl, ap, sym, subst}
use Rattle.std.specs.Prelude.{◌<◌, ℕ}
use Rattle.fam_cache.specs.States.{CacheState}
use Rattle.fam_tasks.specs.declared.answer.Turn.{Turn}
use Rattle.fam_run.specs.Led.{HasDone}
use Rattle.fam_run.specs.Operation.{said_of}
use Rattle.fam_run.specs.TaskChange.{TaskChange, task_change}
use Rattle.fam_run.proofs.Operated.{alone, from_same}
use Rattle.fam_run.proofs.PlacesKept.{put_kept}
use Rattle.fam_run.proofs.Stored.{line_sent, line_torn}
use Rattle.fam_run.proofs.storing.store_line.Goals as goal

pub returns-in-Ok-true-clause-advanced : goal.returns-in-Ok-true-clause-advanced
returns-in-Ok-true-clause-advanced g c =
    let put = c.in-Ok-true.field-0-test in
    let due = c.line_due-due.result in
    subst (λ (said : Turn). HasDone
    (task_change g.M.Media.size g.M.Media.state c.args.task.now c.read_on.new.self c.args.cache.now c.put_line.new.self c.args.media.now
    c.put_line.new.media) said) (sym c.requires.go)
    (line_sent due.0 due.1 c.args.task.now c.store_line.new.self (g.M.Media.state c.args.media.now).image c.args.cache.now.lines
    (g.met.M.Media.normal c.args.media.now) c.store_line.ensures (c.in-Ok-true.ensures.absent put) c.is_sound.ensures
    c.is_sound-in-Ok-true.ensures
    _ _ _ c.read_on.new.self c.put_line.new.self.lines (g.M.Media.state c.put_line.new.media).image c.in-Ok-true.ensures.lines (c.in-Ok-true.ensures.memory put) c.read_on.ensures)

pub returns-in-Err-Failed-clause-advanced : goal.returns-in-Err-Failed-clause-advanced
returns-in-Err-Failed-clause-advanced g c =
    let f = c.in-Err-Failed.ensures in
    let is = ap Err c.in-Err-Failed.field-0-is in
    let due = c.line_due-due.result in
    let within : due.0.0 < g.M.Media.size c.args.media.now = subst (λ (n : ℕ). due.0.0 < n) c.requires.lines c.store_line-in-Err-Failed.ensures.within in
    line_torn due.0 due.1 c.args.task.now c.store_line-in-Err-Failed.new.self (g.M.Media.state c.args.media.now).image c.args.cache.now.lines
    (g.met.M.Media.normal c.args.media.now) c.store_line-in-Err-Failed.ensures (f.failed_absent is) c.is_sound.ensures
    c.is_sound-in-Err-Failed.ensures
    _ _ _ c.store_line-in-Err-Failed.new.self c.put_line.new.self.lines (g.M.Media.state c.put_line.new.media).image refl (f.failed_lines is) (f.torn is) (f.failed is) within

pub returns-in-Ok-true-clause-places : goal.returns-in-Ok-true-clause-places
returns-in-Ok-true-clause-places g c = λ on has. (
  c.requires.go,
  put_kept c.line_due-due.result.0 c.line_due-due.result.1 c.args.task.now c.args.cache.now c.line_due-due.ensures c.store_line.new.self
      c.read_on.new.self c.put_line.new.self c.is_sound.ensures c.is_sound-in-Ok-true.ensures
      c.store_line.ensures c.in-Ok-true.ensures.ok_spare c.read_on.ensures has,
)

pub returns-in-Ok-false-clause-advanced : goal.returns-in-Ok-false-clause-advanced
returns-in-Ok-false-clause-advanced g c =
    let m = g.M.Media in
    let b = c.in-Ok-false in
    let a : TaskChange = task_change m.size m.state c.args.task.now c.operate.new.task c.args.cache.now c.operate.new.cache c.args.media.now c.operate.new.media in
    let cache : c.put_line.new.self ≡ c.args.cache.now = b.ensures.other b.field-0-test in
    let media : c.put_line.new.media ≡ c.args.media.now = b.ensures.same b.field-0-test in
    from_same a (said_of c.operate.result c.operate.new.turn) c.args.task.now c.put_line.new.self.lines (m.state c.put_line.new.media)
    (m.size c.put_line.new.media) refl (ap (λ (s : CacheState). s.lines) cache) (ap m.state media) (ap m.size media)
    (alone (record a {
      task = c.args.task.now;
      old = c.put_line.new.self.lines;
      lines = m.size c.put_line.new.media;
      media =
          record { old = m.state c.put_line.new.media; new = a.media.new };
    }) (said_of c.operate.result c.operate.new.turn) c.operate.ensures.operated)

pub returns-in-Ok-true-clause-steady : goal.returns-in-Ok-true-clause-steady
returns-in-Ok-true-clause-steady g c = c.put_line.ensures.steady

pub returns-in-Err-Failed-clause-steady : goal.returns-in-Err-Failed-clause-steady
returns-in-Err-Failed-clause-steady g c = c.put_line.ensures.steady

pub returns-in-Err-OutOfMemory-clause-steady : goal.returns-in-Err-OutOfMemory-clause-steady
returns-in-Err-OutOfMemory-clause-steady g c = c.put_line.ensures.steady
