-- What a task rests on, and that the task's facts stay while that stays.
use Rattle.std.proofs.Common.{◌≡◌, ℕ, ◌+◌, ◌<◌, ◌≤◌, List, length, take, sym, ap, ◌∙◌, arith}
use Rattle.std.specs.Prelude.{Option, Some}
use Rattle.fam_protocol.specs.Lines.{Finished, Fresh, FreshGate, Holding, IsAtLeast, IsHandedOver}
use Rattle.fam_protocol.specs.SharedState.{SharedState}
use Rattle.fam_mail.specs.declared.ask.Ask.{Ask}
use Rattle.fam_mail.specs.declared.phase.Phase.{Phase}
use Rattle.fam_mail.specs.declared.phase.Phase.TheVariants as at
use Rattle.fam_mail.specs.Mail.{Mail, TaskRun}
use Rattle.fam_mail.specs.Protocol.{AtMailPhase, Box, BoxCore, HasGate, HasStoredGate, HasReadRecords, IsPosting, RunHolds, gate_at, top_at}
use Rattle.fam_mail.specs.Tasks.{MailTask}

-- what a writer's task rests on
pub record WriterKeeps (b : Box) (h : ℕ) (s s' : SharedState) : Type 0 where
  pub top : top_at b s' ≡ top_at b s
  pub gate : Fresh (s.memory (b.place 0)) (s.copy h (b.place 0)) → Fresh (s'.memory (b.place 0)) (s'.copy h (b.place 0))
  pub finished : (wanted : List ℕ) (l : ℕ) → Finished wanted (s.memory l) (s.copy h l) → Finished wanted (s'.memory l) (s'.copy h l)
  pub holding : (k : ℕ) (wanted : List ℕ) (l : ℕ) → Holding k wanted (s.memory l) (s.copy h l) → Holding k wanted (s'.memory l) (s'.copy h l)
  pub handed : (l : ℕ) → IsHandedOver (s.copy h l) → IsHandedOver (s'.copy h l)

-- what any task rests on
pub record Keeps (b : Box) (h : ℕ) (s s' : SharedState) (m : Mail) : Type 0 where
  pub memory : (i : ℕ) → i < top_at b s → s'.memory (b.place (1 + i)) ≡ s.memory (b.place (1 + i))
  pub fresh : (i : ℕ) → i < top_at b s → Fresh (s.memory (b.place (1 + i))) (s.copy h (b.place (1 + i))) → Fresh (s'.memory (b.place (1 + i))) (s'.copy h (b.place (1 + i)))
  pub gate : gate_at b s ≤ gate_at b s'
  pub gate_copy : (floor : Option ℕ) → IsAtLeast floor (length m.list) → FreshGate floor (s.memory (b.place 0)) (s.copy h (b.place 0)) → FreshGate floor (s'.memory (b.place 0)) (s'.copy h (b.place 0))
  pub writing : b.writer ≡ Some h → WriterKeeps b h s s'

module _ (b : Box) (s s' : SharedState) (m : Mail) (core : BoxCore b s m) (h : ℕ) (keeps : Keeps b h s s' m) where
  writing_kept : (ask : Ask) (gate : ℕ) → IsPosting b h ask gate s m → IsPosting b h ask gate s' m
  writing_kept ask gate w = record { own = w.own; settled = w.settled; pending = w.pending; unpublished = (keeps.writing w.own.writer).top ∙ w.unpublished; room = w.room }

  published_kept : (ask : Ask) (gate : ℕ) → HasStoredGate b h ask gate s m → HasStoredGate b h ask gate s' m
  published_kept ask gate p = record { own = p.own; published = (keeps.writing p.own.writer).top ∙ p.published; count = p.count; last = p.last; settled = p.settled }

  gate_kept : (floor : Option ℕ) (gate : ℕ) → HasGate b floor gate s → HasGate b floor gate s'
  gate_kept floor gate g = record { low = g.low; high = omega (arith, g.high, keeps.gate) }

  read_kept : (i : ℕ) (floor : Option ℕ) (gate : ℕ) (records : List (List ℕ)) → HasReadRecords i b floor gate records s m → HasReadRecords i b floor gate records s' m
  read_kept i floor gate records r = record { has = gate_kept floor gate r.has; below = r.below; read = r.read }

  -- what is known of a task by its phase stays
  pub phase_kept : (p : Phase) (floor : Option ℕ) (t : MailTask) → AtMailPhase p b h floor t s m → AtMailPhase p b h floor t s' m
  phase_kept at.DropGate floor t at = at
  phase_kept at.LoadGate floor t at = (
    record { low = at.0.low; copy = keeps.gate_copy floor at.0.low at.0.copy; writers = λ is. (keeps.writing is).gate (at.0.writers is) },
    at.1,
  )
  phase_kept (at.StoreRecord k) floor t at = (at.0, writing_kept t.ask t.gate at.1, (keeps.writing at.1.own.writer).holding k _ _ at.2)
  phase_kept at.SendRecord floor t at = (writing_kept t.ask t.gate at.0, (keeps.writing at.0.own.writer).holding 8 _ _ at.1)
  phase_kept at.FenceRecord floor t at =
      let keep = keeps.writing at.0.own.writer in
      (writing_kept t.ask t.gate at.0, (keep.holding 8 _ _ at.1.0, keep.handed _ at.1.1))
  phase_kept at.StoreGate floor t at = (writing_kept t.ask t.gate at.0, (keeps.writing at.0.own.writer).finished _ _ at.1)
  phase_kept at.SendGate floor t at = published_kept t.ask t.gate at
  phase_kept at.FenceGate floor t at = (published_kept t.ask t.gate at.0, (keeps.writing at.0.own.writer).handed _ at.1)
  phase_kept at.Count floor t at = (gate_kept floor t.gate at.0, at.1)
  phase_kept (at.DropRecord i) floor t at = read_kept i floor t.gate t.records at
  phase_kept (at.LoadRecord i k) floor t at =
      let r = at.1 in
      let lt : i < top_at b s = omega (arith, r.has.below, r.has.has.high, core.order) in (
        at.0,
        record {
          has = read_kept i floor t.gate t.records r.has;
          fresh = keeps.fresh i lt r.fresh;
          words = r.words ∙ ap (λ (w : List ℕ). take k w) (sym (keeps.memory i lt));
        },
      )

  -- and so all that is known of it
  pub task_kept : (r : TaskRun) → RunHolds b h r s m → RunHolds b h r s' m
  task_kept r holds = record { capacity = holds.capacity; long = holds.long; post = holds.post; phase = phase_kept r.task.phase r.floor r.task holds.phase }
