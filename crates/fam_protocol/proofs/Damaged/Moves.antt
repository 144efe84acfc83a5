-- On a damaged image nothing is dirty: caches move, and memory doesn't.
use Rattle.std.proofs.Common.{ℕ, List, Option, ◌∙◌}
use Rattle.fam_format.specs.Layout.{gate_line}
use Rattle.fam_commands.specs.declared.phase.Phase.{Phase}
use Rattle.fam_commands.specs.declared.phase.Phase.TheVariants as at
use Rattle.fam_commands.specs.Task.{Task, part_line}
use Rattle.fam_format.specs.Reading.{Lines}
use Rattle.fam_protocol.specs.SharedState.{SharedState, TransfersAt}
use Rattle.fam_protocol.specs.Lines.{Fresh}
use Rattle.fam_protocol.specs.Bad.{Still, BadTaskHolds, AtDamagedPhase}
use Rattle.fam_protocol.proofs.Lines.Free.{cell_kept, dirty_was, memory_still, wide_now}
use Rattle.fam_protocol.proofs.Lines.Moves.{fresh_kept}

-- the lines that are read by a fresh copy at their places
module _ (image : Lines) (have host h : ℕ) (t : Task) (s s' : SharedState) (fresh : (l : ℕ) → Fresh (s.memory l) (s.copy h l) → Fresh (s'.memory l) (s'.copy h l)) where
  phase_moved : (p : Phase) → AtDamagedPhase p image have h t s → AtDamagedPhase p image have h t s'
  phase_moved at.DropMagic a = a
  phase_moved at.Magic a = (a.0, fresh 0 a.1)
  phase_moved (at.Drop part j) a = a
  phase_moved (at.Word part j k) a = (a.0, a.1, a.2, fresh (part_line t part j) a.3, a.4)
  phase_moved at.DropGate a = a
  phase_moved at.Gate a = (a.0, a.1, a.2, fresh gate_line a.3)
  phase_moved (at.Check i) a = a
  phase_moved at.Decide a = a
  phase_moved e a = absurd a

-- a cache moves at a line
module _ (image : Lines) (have host line : ℕ) (s s' : SharedState) (transfer : TransfersAt host line s s') (still : Still image have s) where
  -- memory stays, and nothing is to be sent
  pub still_kept : Still image have s'
  still_kept = record {
    wide = wide_now host line s s' transfer still.wide;
    memory = λ l. memory_still host line s s' transfer still.wide l (still.clean host l) ∙ still.memory l;
    clean = λ h l d. still.clean h l (dirty_was host line s s' transfer still.wide h l d);
    bad = still.bad;
  }

  -- a copy that can't be stale stays one
  pub fresh_stays : (h l : ℕ) → Fresh (s.memory l) (s.copy h l) → Fresh (s'.memory l) (s'.copy h l)
  fresh_stays h l f = cell_kept host line s s' transfer still.wide Fresh (λ m m' c c' v wide. fresh_kept v wide) h l (λ other. still.clean host l) f

  -- what holds of a host's task
  pub bad_task_kept : (uuid : ℕ → Option (List ℕ)) (h : ℕ) (t : Task) → BadTaskHolds image have uuid h t s → BadTaskHolds image have uuid h t s'
  bad_task_kept uuid h t holds = record { me = holds.me; lines = holds.lines; phase = phase_moved image have host h t s s' (fresh_stays h) t.phase holds.phase }
