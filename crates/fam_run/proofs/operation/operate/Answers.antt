use Rattle.std.proofs.Common.{◌≡◌, Err, refl, ap, sym, subst, ◌∙◌}
use Rattle.std.proofs.lemmas.Result.{err_from_is_err_and}
use Rattle.fam_commands.specs.Task.{op_of}
use Rattle.fam_commands.specs.Turns.{turn_of}
use Rattle.fam_machine.specs.declared.op.Op.TheVariants.{Digest}
use Rattle.fam_tasks.specs.declared.answer.Turn.{Turn}
use Rattle.fam_tasks.specs.Tells.{Tells}
use Rattle.fam_tasks.proofs.Keeping.{go_keeps}
use Rattle.fam_run.specs.TaskChange.{TaskChange, task_change}
use Rattle.fam_run.proofs.Operated.{done, failed}
use Rattle.fam_run.specs.Operation.{said_of}
use Rattle.fam_run.proofs.PlacesKept.{digest_places, kept, quiet}
use Rattle.fam_run.proofs.operation.operate.Goals as goal

pub returns-then-reads_on-clause-operated : goal.returns-then-reads_on-clause-operated
returns-then-reads_on-clause-operated g c =
    let m = g.M.Media in
    let e = c.in_ok-word-in_default.ensures in
    let a : TaskChange = task_change m.size m.state c.args.task.now c.read_on.new.self c.args.cache.now c.perform.new.self c.args.media.now c.perform.new.media in
    done a c.next.result c.next.ensures.op c.is_sound.ensures c.next.ensures.within c.in_ok-word-in_default.word c.args.turn.now e.operated e.given
    e.cache e.word (subst (λ (said : Turn). Tells (turn_of c.args.task.now c.in_ok-word-in_default.word) said c.read_on.new.self)
    (sym c.requires.go) c.read_on.ensures) (go_keeps c.args.task.now c.read_on.new.self c.in_ok-word-in_default.word c.read_on.ensures)

pub returns-else-reads_on-clause-operated : goal.returns-else-reads_on-clause-operated
returns-else-reads_on-clause-operated g c =
    let m = g.M.Media in
    let e = c.in_ok-word-in_default.ensures in
    let a : TaskChange = task_change m.size m.state c.args.task.now c.take_word.new.task c.args.cache.now c.perform.new.self c.args.media.now c.perform.new.media in
    done a c.next.result c.next.ensures.op c.is_sound.ensures c.next.ensures.within c.in_ok-word-in_default.word c.take_word.new.turn e.operated
    e.given e.cache e.word c.take_word.ensures.turn c.take_word.ensures.kept

pub returns-in_err-word-in_default-clause-operated : goal.returns-in_err-word-in_default-clause-operated
returns-in_err-word-in_default-clause-operated g c =
    let m = g.M.Media in
    let e = c.in_err-word-in_default.ensures in
    let a : TaskChange = task_change m.size m.state c.args.task.now c.args.task.now c.args.cache.now c.perform.new.self c.args.media.now c.perform.new.media in
    let p = err_from_is_err_and c.from_residual.result c.from_residual.ensures.1 in
    rw (p.1, p.2)
    (failed a c.next.result c.next.ensures.op c.is_sound.ensures c.next.ensures.within c.in_err-word-in_default.field-0.0 refl e.err e.failed e.line e.inside e.rose
    (λ full. record {
      task = refl;
      cache = ap (λ s. s.lines) (e.unchanged (ap Err full));
      media = ap m.state (e.undone (ap Err full));
    }))

pub returns-in-Checked-clause-operated : goal.returns-in-Checked-clause-operated
returns-in-Checked-clause-operated g c = c.check_slot.ensures.operated c.args.cache.now.lines (g.M.Media.size c.args.media.now) (g.M.Media.state c.args.media.now)

pub returns-in-Ok-clause-operated : goal.returns-in-Ok-clause-operated
returns-in-Ok-clause-operated g c =
    let m = g.M.Media in
    let op : op_of c.args.task.now ≡ Digest = sym c.next.ensures.op ∙ c.in-Digest.is in
    let a : TaskChange = task_change m.size m.state c.args.task.now c.take_digest.new.task c.args.cache.now c.args.cache.now c.args.media.now c.args.media.now in
    done a Digest (sym op) c.is_sound.ensures tt Rattle.std.proofs.Common.None c.take_digest.new.turn
    (λ image is. record { image = is; cache = refl }) (λ image is. refl) refl refl c.in-Ok.ensures.turn c.in-Ok.ensures.kept

pub returns-then-reads_on-clause-places : goal.returns-then-reads_on-clause-places
returns-then-reads_on-clause-places g c = λ on has. (
  quiet c.args.task.now c.read_on.new.self c.in_ok-word-in_default.word c.args.turn.now c.args.cache.now
      (subst (λ (said : Turn). Tells (turn_of c.args.task.now c.in_ok-word-in_default.word) said c.read_on.new.self)
      (sym c.requires.go) c.read_on.ensures) on has,
  λ ready.
      kept c.args.task.now c.read_on.new.self c.next.result c.in_ok-word-in_default.word c.args.turn.now (g.M.Media.state c.args.media.now).image
      c.args.cache.now c.perform.new.self c.next.ensures.op c.is_sound.ensures
      c.perform.ensures.spare c.perform.ensures.held_spare c.in_ok-word-in_default.ensures.cache
      (subst (λ (said : Turn). Tells (turn_of c.args.task.now c.in_ok-word-in_default.word) said c.read_on.new.self)
      (sym c.requires.go) c.read_on.ensures) on ready has,
)

pub returns-else-reads_on-clause-places : goal.returns-else-reads_on-clause-places
returns-else-reads_on-clause-places g c = λ on has. (
  quiet c.args.task.now c.take_word.new.task c.in_ok-word-in_default.word c.take_word.new.turn c.args.cache.now c.take_word.ensures.turn on has,
  λ ready.
      kept c.args.task.now c.take_word.new.task c.next.result c.in_ok-word-in_default.word c.take_word.new.turn
      (g.M.Media.state c.args.media.now).image c.args.cache.now c.perform.new.self c.next.ensures.op c.is_sound.ensures
      c.perform.ensures.spare c.perform.ensures.held_spare c.in_ok-word-in_default.ensures.cache c.take_word.ensures.turn on ready has,
)

pub returns-in-Checked-clause-places : goal.returns-in-Checked-clause-places
returns-in-Checked-clause-places g c =
    digest_places c.args.task.now c.args.cache.now c.check_slot.new.task c.args.cache.now (said_of c.check_slot.result c.check_slot.new.turn) (sym c.next.ensures.op ∙ c.in-Digest.is)

pub returns-in-Ok-clause-places : goal.returns-in-Ok-clause-places
returns-in-Ok-clause-places g c =
    digest_places c.args.task.now c.args.cache.now c.take_digest.new.task c.args.cache.now (said_of (Rattle.std.proofs.Common.Ok tt) c.take_digest.new.turn) (sym c.next.ensures.op ∙ c.in-Digest.is)
