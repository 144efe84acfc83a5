-- What else happens keeps what holds: a cache moves by itself, the media fails, a task begins, is dropped, a host halts, and
-- the writer is declared.
use Rattle.std.proofs.Common.{◌≡◌, ◌≢◌, ℕ, ◌+◌, ◌≤◌, inl, inr, List, length, refl, sym, ap, subst, ◌∙◌, arith}
use Rattle.std.specs.Prelude.{Option, Some, None}
use Rattle.std.proofs.lemmas.Bool.{cases_eq}
use Rattle.std.proofs.lemmas.Option.{same_Some}
use Rattle.fam_machine.specs.declared.cell.Cell.{Cell}
use Rattle.fam_machine.specs.declared.cell.Cell.TheVariants.{Absent}
use Rattle.fam_machine.specs.OneLine.{IsDirty, current}
use Rattle.fam_protocol.specs.Core.{masters_copy}
use Rattle.fam_protocol.specs.Lines.{Holding, IsHandedOver, gate_of, top}
use Rattle.fam_protocol.specs.SharedState.{SharedState, Breaks, Loses, TransfersAt}
use Rattle.fam_protocol.proofs.Lines.Free.{none_some}
use Rattle.fam_protocol.proofs.Lines.Moves.{never}
use Rattle.fam_mail.specs.declared.ask.Ask.{Ask}
use Rattle.fam_mail.specs.declared.phase.Phase.{Phase}
use Rattle.fam_mail.specs.declared.phase.Phase.TheVariants as at
use Rattle.fam_mail.specs.Mail.{Mail, TaskRun}
use Rattle.fam_mail.specs.Protocol.{AtMailPhase, Box, BoxCore, BoxInvariant, IsWriters, TaskRuns, RunHolds, gate_at, top_at}
use Rattle.fam_mail.specs.Records.{record_in}
use Rattle.fam_mail.specs.Tasks.{IsPost, MailTask, new_task}
use Rattle.fam_mail.proofs.Keeping.{Keeps, task_kept}
use Rattle.fam_mail.proofs.Moving.{core_moved, keeps_moved, sends_keep}

module _ (b : Box) (runs : TaskRuns) (s s' : SharedState) (m : Mail) (inv : BoxInvariant b runs s m) where
  -- a cache moves by itself at a line
  pub moves_hold : (host line : ℕ) → TransfersAt host line s s' → BoxInvariant b runs s' m
  moves_hold host line moves = record {
    core = core_moved b s s' m inv.core host line moves;
    tasks = λ h r is. task_kept b s s' m inv.core h (keeps_moved b s s' m inv.core host line moves h) r (inv.tasks h r is);
  }

  -- a host loses its cache, and has no task
  module _ (host : ℕ) (loses : Loses host s s') (idle : runs host ≡ None) where
    dirty_lost : (h l : ℕ) → IsDirty (s'.copy h l) → IsDirty (s.copy h l)
    dirty_lost h l d =
        elim (cases_eq h host) [
          | inl e ↦ absurd (never (subst IsDirty (ap (λ (k : ℕ). s'.copy k l) e ∙ loses.lost l) d))
          | inr ne ↦ subst IsDirty (loses.hosts h l ne) d
        ]

    wide_lost : (h l : ℕ) → length (current (s'.memory l) (s'.copy h l)) ≡ 8
    wide_lost h l =
        elim (cases_eq h host) [
          | inl e ↦ rw (ap (λ (k : ℕ). s'.copy k l) e ∙ loses.lost l) (ap (λ (w : List ℕ). length w) (loses.memory l) ∙ inv.core.wide.memory l)
          | inr ne ↦ rw (loses.hosts h l ne, loses.memory l) (inv.core.wide.copies h l)
        ]

    -- the writer's gate is memory's then
    top_lost : (gate_at b s' ≤ top_at b s') × (top_at b s' ≤ top_at b s)
    top_lost = go b.writer refl
      where
        m0 : gate_of (s'.memory (b.place 0)) ≡ gate_of (s.memory (b.place 0))
        m0 = ap gate_of (loses.memory (b.place 0))

        go : (o : Option ℕ) → b.writer ≡ o → (gate_at b s' ≤ top (s'.memory (b.place 0)) (masters_copy o s' (b.place 0))) × (top (s'.memory (b.place 0)) (masters_copy o s' (b.place 0)) ≤ top_at b s)
        go None is = (omega arith, omega (arith, m0, inv.core.order))
        go (Some w) is =
            elim (cases_eq w host) [
              | inl e ↦ rw (ap (λ (k : ℕ). s'.copy k (b.place 0)) e ∙ loses.lost (b.place 0)) (omega arith, omega (arith, m0, inv.core.order))
              | inr ne ↦
                  rw (loses.hosts w (b.place 0) ne, loses.memory (b.place 0)) (
                    subst (λ (o : Option ℕ). gate_at b s ≤ top (s.memory (b.place 0)) (masters_copy o s (b.place 0))) is inv.core.order,
                    subst (λ (o : Option ℕ). top (s.memory (b.place 0)) (s.copy w (b.place 0)) ≤ top (s.memory (b.place 0)) (masters_copy o s (b.place 0))) (sym is) (omega arith),
                  )
            ]

    core_lost : BoxCore b s' m
    core_lost =
        let t = top_lost in
        let m0 = ap gate_of (loses.memory (b.place 0)) in
        record {
          apart = inv.core.apart;
          wide = record { memory = λ l. ap (λ (w : List ℕ). length w) (loses.memory l) ∙ inv.core.wide.memory l; copies = wide_lost };
          only_writer = λ h l d. inv.core.only_writer h l (dirty_lost h l d);
          inside = λ h l d. inv.core.inside h l (dirty_lost h l d);
          outside = λ l not. loses.memory l ∙ inv.core.outside l not;
          low = omega (arith, inv.core.low, m0);
          order = t.0;
          high = omega (arith, inv.core.high, t.1);
          room = inv.core.room;
          stands = λ i numbers is lt. ap record_in (loses.memory (b.place (1 + i))) ∙ inv.core.stands i numbers is (omega (arith, lt, t.1));
          clean = λ i h lt d. inv.core.clean i h (omega (arith, lt, t.1)) (dirty_lost h (b.place (1 + i)) d);
        }

    -- the tasks of other hosts rest on nothing of it
    keeps_lost : (h : ℕ) → h ≢ host → Keeps b h s s' m
    keeps_lost h ne = record {
      memory = λ i lt. loses.memory (b.place (1 + i));
      fresh = λ i lt f. rw (loses.memory (b.place (1 + i)), loses.hosts h (b.place (1 + i)) ne) f;
      gate = omega (arith, ap gate_of (loses.memory (b.place 0)));
      gate_copy = λ floor low f. rw (loses.memory (b.place 0), loses.hosts h (b.place 0) ne) f;
      writing = λ is. record {
        top = subst (λ (o : Option ℕ). top (s'.memory (b.place 0)) (masters_copy o s' (b.place 0)) ≡ top (s.memory (b.place 0)) (masters_copy o s (b.place 0))) (sym is)
            (rw (loses.hosts h (b.place 0) ne, loses.memory (b.place 0)) refl);
        gate = λ f. rw (loses.memory (b.place 0), loses.hosts h (b.place 0) ne) f;
        finished = λ wanted l f. rw (loses.memory l, loses.hosts h l ne) f;
        holding = λ k wanted l f. subst (λ (w : List ℕ). Holding k wanted w (s'.copy h l)) (sym (loses.memory l)) (subst (λ (c : Cell). Holding k wanted (s.memory l) c) (sym (loses.hosts h l ne)) f);
        handed = λ l f. subst IsHandedOver (sym (loses.hosts h l ne)) f;
      };
    }

    -- what holds, holds when a host loses its cache
    pub loses_hold : BoxInvariant b runs s' m
    loses_hold = record {
      core = core_lost;
      tasks = λ h r is.
          elim (cases_eq h host) [
            | inl e ↦ absurd (none_run h e r is)
            | inr ne ↦ task_kept b s s' m inv.core h (keeps_lost h ne) r (inv.tasks h r is)
          ];
    }
      where
        none_run : (h : ℕ) → h ≡ host → (r : TaskRun) → runs h ≡ Some r → ⊥
        none_run h e r is = absurd (cc (idle, ap runs e, is))

-- the media failed in an operation
pub breaks_hold : (b : Box) (runs : TaskRuns) (s s' : SharedState) (m : Mail) → BoxInvariant b runs s m → (host line : ℕ) → Breaks host line s s' → BoxInvariant b runs s' m
breaks_hold b runs s s' m inv host line breaks =
    let kept = sends_keep b m host breaks.lines s breaks.between breaks.sends inv.core in
    moves_hold b runs breaks.between s' m
    (record { core = kept.core; tasks = λ h r is. task_kept b s breaks.between m inv.core h (kept.keeps h) r (inv.tasks h r is) }) host line breaks.moves

-- fewer tasks run
pub fewer_hold : (b : Box) (runs runs' : TaskRuns) (s : SharedState) (m : Mail) → BoxInvariant b runs s m → ((h : ℕ) (r : TaskRun) → runs' h ≡ Some r → runs h ≡ Some r) → BoxInvariant b runs' s m
fewer_hold b runs runs' s m inv fewer = record { core = inv.core; tasks = λ h r is. inv.tasks h r (fewer h r is) }

-- a task begins
pub begins_hold : (b : Box) (runs runs' : TaskRuns) (s : SharedState) (m : Mail) (host : ℕ) (ask : Ask) (floor : Option ℕ) → BoxInvariant b runs s m → (IsPost ask → IsWriters b host ask)
    → runs' host ≡ Some (record { task = new_task ask b.capacity; floor = floor }) → ((h : ℕ) → h ≢ host → runs' h ≡ runs h) → BoxInvariant b runs' s m
begins_hold b runs runs' s m host ask floor inv post mine others = record {
  core = inv.core;
  tasks = λ h r is.
      elim (cases_eq h host) [
        | inl e ↦
            subst (λ (k : ℕ). RunHolds b k r s m) (sym e)
            (subst (λ (x : TaskRun). RunHolds b host x s m) (same_Some _ r (sym mine ∙ ap runs' (sym e) ∙ is)) (record { capacity = refl; long = refl; post = post; phase = refl }))
        | inr ne ↦ inv.tasks h r (sym (others h ne) ∙ is)
      ];
}

-- The writer is declared: a host of which the cache is empty, and which has no task.
module _ (b : Box) (runs : TaskRuns) (s : SharedState) (m : Mail) (inv : BoxInvariant b runs s m) (none : b.writer ≡ None) (host : ℕ) (empty : (l : ℕ) → s.copy host l ≡ Absent)
    (idle : runs host ≡ None) where
  top_declared : top (s.memory (b.place 0)) (s.copy host (b.place 0)) ≡ top_at b s
  top_declared = ap (λ (c : Cell). top (s.memory (b.place 0)) c) (empty (b.place 0)) ∙ ap (λ (o : Option ℕ). top (s.memory (b.place 0)) (masters_copy o s (b.place 0))) (sym none)

  core_declared : BoxCore (record b { writer = Some host }) s m
  core_declared = record {
    apart = inv.core.apart;
    wide = inv.core.wide;
    only_writer = λ h l d. absurd (none_some (sym none ∙ inv.core.only_writer h l d));
    inside = λ h l d. absurd (none_some (sym none ∙ inv.core.only_writer h l d));
    outside = inv.core.outside;
    low = inv.core.low;
    order = omega (arith, inv.core.order, top_declared);
    high = omega (arith, inv.core.high, top_declared);
    room = inv.core.room;
    stands = λ i numbers is lt. inv.core.stands i numbers is (omega (arith, lt, top_declared));
    clean = λ i h lt d. absurd (none_some (sym none ∙ inv.core.only_writer h (b.place (1 + i)) d));
  }

  no_writer : (h : ℕ) (ask : Ask) → IsWriters b h ask → ⊥
  no_writer h ask own = none_some (sym none ∙ own.writer)

  not_host : (h : ℕ) (r : TaskRun) → runs h ≡ Some r → h ≡ host → ⊥
  not_host h r is e = absurd (cc (idle, ap runs e, is))

  phase_declared : (h : ℕ) → (h ≡ host → ⊥) → (p : Phase) (floor : Option ℕ) (t : MailTask) → AtMailPhase p b h floor t s m → AtMailPhase p (record b { writer = Some host }) h floor t s m
  phase_declared h not at.DropGate floor t known = known
  phase_declared h not at.LoadGate floor t known = (record { low = known.0.low; copy = known.0.copy; writers = λ is. absurd (not (same_Some h host (sym is))) }, known.1)
  phase_declared h not (at.StoreRecord k) floor t known = absurd (no_writer h t.ask known.1.own)
  phase_declared h not at.SendGate floor t known = absurd (no_writer h t.ask known.own)
  phase_declared h not at.Count floor t known = (record { low = known.0.low; high = known.0.high }, known.1)
  phase_declared h not (at.DropRecord i) floor t known =
      record { has = record { low = known.has.low; high = known.has.high }; below = known.below; read = known.read }
  phase_declared h not (at.LoadRecord i k) floor t known = (
    known.0,
    record {
      has = record { has = record { low = known.1.has.has.low; high = known.1.has.has.high }; below = known.1.has.below; read = known.1.has.read };
      fresh = known.1.fresh;
      words = known.1.words;
    },
  )
  phase_declared h not other floor t known = absurd (no_writer h t.ask known.0.own)

  -- and when a host that may post is declared
  pub declared_holds : BoxInvariant (record b { writer = Some host }) runs s m
  declared_holds = record {
    core = core_declared;
    tasks = λ h r is.
        let holds = inv.tasks h r is in
        record {
          capacity = holds.capacity;
          long = holds.long;
          post = λ p. absurd (no_writer h r.task.ask (holds.post p));
          phase = phase_declared h (not_host h r is) r.task.phase r.floor r.task holds.phase;
        };
  }
