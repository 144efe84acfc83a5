use Rattle.std.proofs.Common.{ℕ, inl, refl, arith}
use Rattle.fam_media.specs.Causes.{IsSteady}
use Rattle.fam_media.specs.States.{MediaState}
use Rattle.fam_run.specs.Operation.{said_of}
use Rattle.fam_run.specs.TaskChange.{TaskChange, task_change}
use Rattle.fam_run.proofs.Operated.{alone}
use Rattle.fam_run.proofs.PlacesKept.{no_places, none_kept, other_kept}
use Rattle.fam_run.proofs.RunAlone.{run_alone}
use Rattle.fam_run.proofs.advancing.go_on.Goals as goal

-- a media that nothing was asked of
steady_same : {M : Type 0} (lines : M → ℕ) (state : M → MediaState) (media : M) → IsSteady lines state media media
steady_same lines state media = record {
  size = refl;
  later = omega arith;
}

pub returns-in-Other-clause-advanced : goal.returns-in-Other-clause-advanced
returns-in-Other-clause-advanced g c =
    let m = g.M.Media in
    let a : TaskChange = task_change m.size m.state c.args.task.now c.operate.new.task c.args.cache.now c.operate.new.cache c.args.media.now c.operate.new.media in
    run_alone a (said_of c.operate.result c.operate.new.turn) (alone a (said_of c.operate.result c.operate.new.turn) c.operate.ensures.operated)

pub returns-in-Checked-clause-advanced : goal.returns-in-Checked-clause-advanced
returns-in-Checked-clause-advanced g c =
    let m = g.M.Media in
    let a : TaskChange = task_change m.size m.state c.args.task.now c.check_slot.new.task c.args.cache.now c.args.cache.now c.args.media.now c.args.media.now in
    run_alone a (said_of c.check_slot.result c.check_slot.new.turn)
    (alone a (said_of c.check_slot.result c.check_slot.new.turn) (c.check_slot.ensures.operated c.args.cache.now.lines (m.size c.args.media.now) (m.state c.args.media.now)))

pub returns-in-Slot-clause-advanced : goal.returns-in-Slot-clause-advanced
returns-in-Slot-clause-advanced g c =
    let m = g.M.Media in
    run_alone (task_change m.size m.state c.args.task.now c.load_slot.new.task c.args.cache.now c.load_slot.new.cache c.args.media.now
    c.load_slot.new.media) (said_of c.load_slot.result c.load_slot.new.turn) c.load_slot.ensures.advanced

pub returns-in-Compared-clause-advanced : goal.returns-in-Compared-clause-advanced
returns-in-Compared-clause-advanced g c =
    let m = g.M.Media in
    run_alone (task_change m.size m.state c.args.task.now c.compare_lines.new.task c.args.cache.now c.compare_lines.new.cache c.args.media.now
    c.compare_lines.new.media) (said_of c.compare_lines.result c.compare_lines.new.turn) c.compare_lines.ensures.advanced

pub returns-in-Slot-clause-places : goal.returns-in-Slot-clause-places
returns-in-Slot-clause-places g c =
    none_kept c.args.task.now c.load_slot.new.task c.args.cache.now c.load_slot.new.cache (said_of c.load_slot.result c.load_slot.new.turn)
    (no_places _ c.args.task.now c.args.cache.now c.in-Slot.ensures.0 (λ has. has))

pub returns-in-Compared-clause-places : goal.returns-in-Compared-clause-places
returns-in-Compared-clause-places g c =
    none_kept c.args.task.now c.compare_lines.new.task c.args.cache.now c.compare_lines.new.cache
    (said_of c.compare_lines.result c.compare_lines.new.turn)
    (no_places _ c.args.task.now c.args.cache.now c.in-Compared.ensures.phase (λ has. has))

pub returns-in-Checked-clause-places : goal.returns-in-Checked-clause-places
returns-in-Checked-clause-places g c =
    none_kept c.args.task.now c.check_slot.new.task c.args.cache.now c.args.cache.now (said_of c.check_slot.result c.check_slot.new.turn)
    (no_places _ c.args.task.now c.args.cache.now c.in-Checked.ensures (λ has. has))

pub returns-in-Other-clause-places : goal.returns-in-Other-clause-places
returns-in-Other-clause-places g c =
    other_kept c.args.task.now c.operate.new.task c.args.cache.now c.operate.new.cache (said_of c.operate.result c.operate.new.turn) c.in-Other.ensures c.operate.ensures.places

pub returns-in-Checked-clause-steady : goal.returns-in-Checked-clause-steady
returns-in-Checked-clause-steady g c =
    steady_same g.M.Media.size g.M.Media.state c.args.media.now

pub returns-in-Checked-clause-want : goal.returns-in-Checked-clause-want
returns-in-Checked-clause-want g c =
    c.check_slot.ensures.want c.args.cache.now

pub returns-in-Other-clause-want : goal.returns-in-Other-clause-want
returns-in-Other-clause-want g c =
    λ full. inl (c.operate.ensures.want full)

pub returns-in-Slot-clause-want : goal.returns-in-Slot-clause-want
returns-in-Slot-clause-want g c = c.load_slot.ensures.want

pub returns-in-Slot-clause-steady : goal.returns-in-Slot-clause-steady
returns-in-Slot-clause-steady g c = c.load_slot.ensures.steady

pub returns-in-Stored-clause-advanced : goal.returns-in-Stored-clause-advanced
returns-in-Stored-clause-advanced g c = c.store_lines.ensures.advanced

pub returns-in-Stored-clause-want : goal.returns-in-Stored-clause-want
returns-in-Stored-clause-want g c = c.store_lines.ensures.want

pub returns-in-Stored-clause-places : goal.returns-in-Stored-clause-places
returns-in-Stored-clause-places g c = c.store_lines.ensures.places

pub returns-in-Stored-clause-steady : goal.returns-in-Stored-clause-steady
returns-in-Stored-clause-steady g c = c.store_lines.ensures.steady

pub returns-in-Compared-clause-want : goal.returns-in-Compared-clause-want
returns-in-Compared-clause-want g c = c.compare_lines.ensures.want

pub returns-in-Compared-clause-steady : goal.returns-in-Compared-clause-steady
returns-in-Compared-clause-steady g c = c.compare_lines.ensures.steady

pub returns-in-Other-clause-steady : goal.returns-in-Other-clause-steady
returns-in-Other-clause-steady g c = c.operate.ensures.steady
