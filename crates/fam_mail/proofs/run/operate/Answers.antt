use Rattle.std.proofs.Common.{◌≡◌, ◌∙◌, ◌<◌, ℕ, Err, false, le_refl, refl, ap, sym, subst, unwrap_or}
use Rattle.std.specs.Prelude.{IsErrOf, Option}
use Rattle.fam_cache.specs.declared.fault.OperationFault.{OperationFault}
use Rattle.fam_cache.specs.declared.fault.OperationFault.TheVariants as fault
use Rattle.fam_cache.specs.Faults.{IfMediaFault}
use Rattle.fam_media.specs.Causes.{Rose}
use Rattle.fam_media.specs.Outside.{IfModelled}
use Rattle.fam_machine.specs.Cuts.{HasFailed, IsMachine}
use Rattle.fam_machine.specs.declared.op.Op.{Op}
use Rattle.fam_machine.specs.declared.op.Op.TheVariants.{Digest}
use Rattle.fam_machine.specs.Operations.{IsWithin, given, machine, operated}
use Rattle.fam_mail.specs.Running.{Around, IsTaskDone, LinesFit, TaskOperated, around}
use Rattle.fam_mail.specs.Tasks.{PhaseFits, MailTask, ends_mail_task, left_of, next_task, phase_op, task_op, mail_turn}
use Rattle.fam_mail.specs.declared.phase.Phase.{Phase}
use Rattle.fam_mail.specs.declared.phase.Phase.TheVariants as at
use Rattle.fam_mail.specs.declared.turn.Turn.{Turn}
use Rattle.fam_mail.proofs.Falling.{falls}
use Rattle.fam_mail.proofs.Running.{failed_fit, lines_fit, op_within}
use Rattle.fam_rules.specs.Written.{file_line}
use Rattle.fam_mail.proofs.run.operate.Goals as goal

failed : (a : Around) (e : OperationFault) → a.next ≡ a.task
    → IfMediaFault e (λ line. IfModelled a.told (λ image. HasFailed (task_op a.place a.task) (machine image a.old) line a.left a.new))
    → IfMediaFault e (λ line. Rose a.before a.now) → (e ≡ fault.OutOfMemory → (a.new ≡ a.old) × (a.left ≡ a.told) × (a.now ≡ a.before)) → TaskOperated a (Err e)
failed a (fault.MediaFault line) same broke rose full = record { task = same; failed = broke; rose = rose }
failed a fault.OutOfMemory same broke rose full = let f = full refl in record { task = same; cache = f.0; image = f.1; faults = f.2 }

-- a fault that is answered is the one of the call
fault_is : (e f : OperationFault) → IsErrOf {T = Turn} (Err e) f → e ≡ f
fault_is e f is = cc

-- where a task counts, nothing is asked of cache and memory
counted : (a : Around) (turn : Turn) → a.task.phase ≡ at.Count → a.new ≡ a.old → a.left ≡ a.told → turn ≡ mail_turn 0 a.task
    → (ends_mail_task turn ≡ false → a.next ≡ next_task 0 a.task) → IsTaskDone a turn
counted a turn is new left turned goes =
    let op : task_op a.place a.task ≡ Digest = ap (λ (p : Phase). phase_op p a.place a.task) is in
    record {
      word = 0;
      done = λ image told. subst (λ (o : Op). IsMachine (operated o (machine image a.old)) a.left a.new) (sym op) (record { image = left ∙ told; cache = new });
      word_is = λ image told. subst (λ (o : Op). 0 ≡ unwrap_or (given o (machine image a.old)) 0) (sym op) refl;
      turn_is = turned;
      goes = goes;
    }

pub returns-in-Ok-clause-operated : goal.returns-in-Ok-clause-operated
returns-in-Ok-clause-operated g c =
    counted (around g.M.Media.state (file_line c.args.entry.now) c.args.task.now c.digest.new.self c.args.cache.now c.args.cache.now c.args.media.now c.args.media.now)
    c.in-Ok.turn (c.counts.ensures.0 c.if-counts.true) refl refl c.in-Ok.ensures.turn c.in-Ok.ensures.goes

pub returns-in-Ok-clause-fits : goal.returns-in-Ok-clause-fits
returns-in-Ok-clause-fits g c = c.requires.fits

pub returns-in-Err-clause-operated : goal.returns-in-Err-clause-operated
returns-in-Err-clause-operated g c = record { task = c.in-Err.ensures.err; cache = refl; image = refl; faults = refl }

pub returns-in-Err-clause-fits : goal.returns-in-Err-clause-fits
returns-in-Err-clause-fits g c = c.requires.fits

pub returns-in-Ok-perform-clause-operated : goal.returns-in-Ok-perform-clause-operated
returns-in-Ok-perform-clause-operated g c = record {
  word = unwrap_or c.in-Ok-perform.word 0;
  done = rw c.next-op.ensures at c.in-Ok-perform.ensures.operated;
  word_is = λ image told. ap (λ (o : Option ℕ). unwrap_or o 0) ((rw c.next-op.ensures at c.in-Ok-perform.ensures.given) image told);
  turn_is = c.feed.ensures.turn;
  goes = c.feed.ensures.goes;
}

pub returns-in-Err-perform-clause-operated : goal.returns-in-Err-perform-clause-operated
returns-in-Err-perform-clause-operated g c =
    let m = g.M.Media in
    let e = c.in-Err-perform.ensures in
    let a : Around = around m.state (file_line c.args.entry.now) c.args.task.now c.args.task.now c.args.cache.now c.perform.new.self c.args.media.now c.perform.new.media in
    failed a c.in-Err-perform.fault refl (rw c.next-op.ensures at e.failed) e.rose
    (λ full. (
      ap (λ s. s.lines) (e.unchanged (ap Err full)),
      ap (λ x. (m.state x).image) (e.undone (ap Err full)),
      ap (λ x. (m.state x).faults) (e.undone (ap Err full)),
    ))

pub returns-in-Err-perform-clause-undone : goal.returns-in-Err-perform-clause-undone
returns-in-Err-perform-clause-undone g c = λ full. c.in-Err-perform.ensures.undone (ap Err (fault_is c.in-Err-perform.fault fault.OutOfMemory full))

pub returns-in-Err-perform-clause-unchanged : goal.returns-in-Err-perform-clause-unchanged
returns-in-Err-perform-clause-unchanged g c = λ full. c.in-Err-perform.ensures.unchanged (ap Err (fault_is c.in-Err-perform.fault fault.OutOfMemory full))

pub returns-in-Err-perform-clause-fits : goal.returns-in-Err-perform-clause-fits
returns-in-Err-perform-clause-fits g c =
    let fits : LinesFit (g.M.Media.size c.args.media.now) c.args.cache.now.lines = c.requires.fits in
    subst (λ (n : ℕ). LinesFit n c.perform.new.self.lines) (sym c.perform.ensures.steady.size)
    (failed_fit c.next-op.result (g.M.Media.size c.args.media.now) c.args.cache.now.lines c.perform.new.self.lines c.in-Err-perform.ensures.err fits)

pub returns-in-Err-perform-clause-steady : goal.returns-in-Err-perform-clause-steady
returns-in-Err-perform-clause-steady g c = c.perform.ensures.steady

pub returns-in-Ok-perform-clause-fits : goal.returns-in-Ok-perform-clause-fits
returns-in-Ok-perform-clause-fits g c =
    let size = g.M.Media.size c.args.media.now in
    let within : IsWithin size c.next-op.result =
    subst (IsWithin size) (sym c.next-op.ensures) (op_within (file_line c.args.entry.now) size c.args.task.now c.requires.within c.args.task.now.phase c.is_sound.ensures.fits) in
    subst (λ (n : ℕ). LinesFit n c.perform.new.self.lines) (sym c.in-Ok-perform.ensures.steady.size)
    (lines_fit c.next-op.result size (g.M.Media.state c.args.media.now).image c.args.cache.now.lines c.perform.new.self.lines within c.in-Ok-perform.ensures.cache c.requires.fits)

pub perform-requires-clause-within : goal.perform-requires-clause-within
perform-requires-clause-within g c =
    let size = g.M.Media.size c.args.media.now in
    subst (IsWithin size) (sym c.next-op.ensures) (op_within (file_line c.args.entry.now) size c.args.task.now c.requires.within c.args.task.now.phase c.is_sound.ensures.fits)

nearer : (t next : MailTask) (turn : Turn) (word : ℕ) → PhaseFits t.phase t → turn ≡ mail_turn word t → (ends_mail_task turn ≡ false → next ≡ next_task word t) → ends_mail_task turn ≡ false
    → left_of next < left_of t
nearer t next turn word fits is goes on =
    subst (λ (x : MailTask). left_of x < left_of t) (sym (goes on)) (falls t.phase t word fits (ap ends_mail_task (sym is) ∙ on))

pub returns-in-Ok-clause-falls : goal.returns-in-Ok-clause-falls
returns-in-Ok-clause-falls g c = nearer c.args.task.now c.digest.new.self c.in-Ok.turn 0 c.is_sound.ensures.fits c.in-Ok.ensures.turn c.in-Ok.ensures.goes

pub returns-in-Ok-perform-clause-falls : goal.returns-in-Ok-perform-clause-falls
returns-in-Ok-perform-clause-falls g c = nearer c.args.task.now c.feed.new.self c.feed.result (unwrap_or c.in-Ok-perform.word 0) c.is_sound.ensures.fits c.feed.ensures.turn c.feed.ensures.goes

pub returns-in-Ok-perform-clause-steady : goal.returns-in-Ok-perform-clause-steady
returns-in-Ok-perform-clause-steady g c = c.perform.ensures.steady

pub returns-in-Ok-clause-steady : goal.returns-in-Ok-clause-steady
returns-in-Ok-clause-steady g c = record { size = refl; later = le_refl _ }

pub returns-in-Err-clause-steady : goal.returns-in-Err-clause-steady
returns-in-Err-clause-steady g c = record { size = refl; later = le_refl _ }

pub returns-in-Ok-clause-counted : goal.returns-in-Ok-clause-counted
returns-in-Ok-clause-counted g c exact = refl

pub returns-in-Err-clause-counted : goal.returns-in-Err-clause-counted
returns-in-Err-clause-counted g c exact = refl

pub returns-in-Ok-perform-clause-counted : goal.returns-in-Ok-perform-clause-counted
returns-in-Ok-perform-clause-counted g c = c.in-Ok-perform.ensures.counted

pub returns-in-Err-perform-clause-counted : goal.returns-in-Err-perform-clause-counted
returns-in-Err-perform-clause-counted g c = c.in-Err-perform.ensures.counted
