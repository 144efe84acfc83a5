use Rattle.fam_run.specs.TaskChange.{TaskChange, task_change}
use Rattle.fam_run.proofs.Checked.{checked_behind}
use Rattle.fam_run.proofs.slots.load_slot.Goals as goal

pub returns-in-Ok-true-clause-advanced : goal.returns-in-Ok-true-clause-advanced
returns-in-Ok-true-clause-advanced g c =
    let m = g.M.Media in
    let e = c.in-Ok-true.ensures in
    let a : TaskChange = task_change m.size m.state c.args.task.now c.load_run.new.task c.args.cache.now c.load_run.new.cache c.args.media.now c.load_run.new.media in
    checked_behind a e.image (e.loaded c.in-Ok-true.field-0-test) c.check_loaded.new.task c.check_loaded.new.turn
    (c.check_loaded.ensures c.load_run.new.cache.lines (m.size c.args.media.now) (m.state c.load_run.new.media))
