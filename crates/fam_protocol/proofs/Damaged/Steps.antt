-- A task's own operation on a damaged image: what its turn says, and what holds of it and of every other task behind it.
use Rattle.std.proofs.Common.{ℕ, ◌≡◌, ◌⊎◌, inl, inr, ◌*◌, List, length, Option, Some, sym, ◌∙◌, ap, subst}
use Rattle.std.specs.Prelude.{slice_index}
use Rattle.fam_format.specs.Layout.{gate_line}
use Rattle.fam_format.specs.Reading.{Lines}
use Rattle.fam_machine.specs.declared.cell.Cell.{Cell}
use Rattle.fam_machine.specs.declared.cell.Cell.TheVariants.{Absent}
use Rattle.fam_machine.specs.declared.op.Op.TheVariants.{Load, Invalidate}
use Rattle.fam_commands.specs.declared.phase.Phase.{Phase}
use Rattle.fam_commands.specs.declared.phase.Phase.TheVariants as at
use Rattle.fam_machine.specs.OneLine.{brought, sent}
use Rattle.fam_commands.specs.Task.{Task, op_at, op_of, part_line}
use Rattle.fam_machine.specs.Operations.{line_no}
use Rattle.fam_commands.specs.Turns.{turn_at}
use Rattle.fam_machine.proofs.Transferring.{brought_transfers, absent_transfers}
use Rattle.fam_rules.specs.Place.{line_bytes}
use Rattle.fam_protocol.specs.SharedState.{SharedState, TransfersAt, Operates}
use Rattle.fam_protocol.specs.Lines.{Fresh}
use Rattle.fam_protocol.specs.Bad.{Still, BadTaskHolds, AtDamagedPhase, MaySayBad, GoesOnBad}
use Rattle.fam_protocol.proofs.Lines.Free.{transfers_at}
use Rattle.fam_protocol.proofs.Lines.Moves.{fresh_current}
use Rattle.fam_protocol.proofs.Damaged.Moves.{still_kept, fresh_stays, bad_task_kept}
use Rattle.fam_protocol.proofs.Damaged.Words.{slot_words_are}
use Rattle.fam_protocol.proofs.Damaged.DamagedTurns.{Bare, BadTurn, magic_says, drop_says, gate_says, slot_says, decide_says, word_says, none_moved, header_moved}

-- a load
load_transfer : (host l k : ℕ) (s s' : SharedState) (word : ℕ) → Operates (Load (line_no l) k) host s s' word → TransfersAt host l s s'
load_transfer host l k s s' word done = transfers_at host l s s' (s.memory l) (brought (s.memory l) (s.copy host l)) done.0 (brought_transfers (s.memory l) (s.copy host l))

-- an invalidation
drop_transfer : (host l : ℕ) (s s' : SharedState) (word : ℕ) → Operates (Invalidate (line_no l)) host s s' word → TransfersAt host l s s'
drop_transfer host l s s' word done = transfers_at host l s s' (sent (s.memory l) (s.copy host l)) Absent done (absent_transfers (s.memory l) (s.copy host l))

-- a line moved, or nothing
abbrev pub Moved : ℕ → SharedState → SharedState → Type 0
Moved host s s' = ((line : ℕ) × TransfersAt host line s s') ⊎ (s' ≡ s)

module _ (image : Lines) (have host : ℕ) (s s' : SharedState) (word : ℕ) (t : Task) where
  moved_by : (p : Phase) → AtDamagedPhase p image have host t s → Operates (op_at t p) host s s' word → Moved host s s'
  moved_by at.DropMagic a done = inl (0, drop_transfer host 0 s s' word done)
  moved_by at.Magic a done = inl (0, load_transfer host 0 0 s s' word done)
  moved_by (at.Drop part j) a done = inl (part_line t part j, drop_transfer host (part_line t part j) s s' word done)
  moved_by (at.Word part j k) a done = inl (part_line t part j, load_transfer host (part_line t part j) k s s' word done)
  moved_by at.DropGate a done = inl (gate_line, drop_transfer host gate_line s s' word done)
  moved_by at.Gate a done = inl (gate_line, load_transfer host gate_line 0 s s' word done)
  moved_by (at.Check i) a done = inr done
  moved_by at.Decide a done = inr done
  moved_by e a done = absurd a

module _ (image : Lines) (have host : ℕ) (s s' : SharedState) (still : Still image have s) (moved : Moved host s s') where
  -- the image is as it was
  pub still_moved : Still image have s'
  still_moved = elim moved [
    | inl at ↦ still_kept image have host at.0 s s' at.1 still
    | inr same ↦ subst (Still image have) (sym same) still
  ]

  -- and so is what holds of any host's task
  pub task_moved : (uuid : ℕ → Option (List ℕ)) (h : ℕ) (t : Task) → BadTaskHolds image have uuid h t s → BadTaskHolds image have uuid h t s'
  task_moved uuid h t holds = elim moved [
    | inl at ↦ bad_task_kept image have host at.0 s s' at.1 still uuid h t holds
    | inr same ↦ subst (BadTaskHolds image have uuid h t) (sym same) holds
  ]

module _ (image : Lines) (have : ℕ) (uuid : ℕ → Option (List ℕ)) (host : ℕ) (s s' : SharedState) (word : ℕ) (still : Still image have s)
    (t : Task) (me : uuid host ≡ Some t.me) (lines : line_bytes * t.lines ≡ have) where
  -- a load of a fresh line gives a word of the image
  loads : (l k : ℕ) → Fresh (s.memory l) (s.copy host l) → Operates (Load (line_no l) k) host s s' word → word ≡ slice_index (image l) k
  loads l k fresh done = done.1 ∙ ap (λ w. slice_index w k) (fresh_current (s.memory l) (s.copy host l) fresh ∙ still.memory l)

  -- a line that was dropped is fresh
  dropped : (l : ℕ) → Operates (Invalidate (line_no l)) host s s' word → Fresh (s'.memory l) (s'.copy host l)
  dropped l done = subst (λ (c : Cell). Fresh (s'.memory l) c) (sym done.copy_is) tt

  -- its lines have eight words, and it isn't sound
  bare : Bare image have t.cmd
  bare = record { wide = λ l. subst (λ (w : List ℕ). length w ≡ 8) (still.memory l) (still.wide.memory l); bad = λ other. still.bad }

  says : (p : Phase) → AtDamagedPhase p image have host t s → Operates (op_at t p) host s s' word → BadTurn (turn_at p t word) image have uuid host t s'
  says at.DropMagic a done = record { may = tt; task = record { me = me; lines = lines; phase = (none_moved image have t at.Magic t.words a, dropped 0 done) } }
  says at.Magic a done = magic_says image have uuid host s' t bare me lines word a.0 (loads 0 0 a.1 done)
  says (at.Drop part j) a done = drop_says image have uuid host s' t bare me lines part j a.0 a.1 a.2 (dropped (part_line t part j) done)
  says (at.Word part j k) a done =
      word_says image have uuid host s' t bare me lines part j k word a.0 a.1 a.2
      (fresh_stays image have host (part_line t part j) s s' (load_transfer host (part_line t part j) k s s' word done) still host
      (part_line t part j) a.3) a.4 (loads (part_line t part j) k a.3 done)
  says at.DropGate a done = record {
    may = tt;
    task = record { me = me; lines = lines; phase = (none_moved image have t at.Gate t.words a.0, a.1, header_moved image have t at.Gate t.words a.2, dropped gate_line done) };
  }
  says at.Gate a done = gate_says image have uuid host s' t bare me lines word a.0 a.1 a.2 (loads gate_line 0 a.3 done)
  says (at.Check i) a done = slot_says image have uuid host s' t bare me lines i a.0 a.1 (a.2 ∙ slot_words_are image t i)
  says at.Decide a done = decide_says image have uuid host s' t bare me lines a
  says e a done = absurd a

module _ (image : Lines) (have : ℕ) (uuid : ℕ → Option (List ℕ)) (host : ℕ) (s s' : SharedState) (word : ℕ) (t : Task) (still : Still image have s)
    (holds : BadTaskHolds image have uuid host t s) (done : Operates (op_of t) host s s' word) where
  moved : Moved host s s'
  moved = moved_by image have host s s' word t t.phase holds.phase done

  -- the image is as it was
  pub bad_still : Still image have s'
  bad_still = still_moved image have host s s' still moved

  -- the task says nothing but the image's own fault, and goes on
  pub bad_turn : MaySayBad (turn_at t.phase t word) image have t × Still image have s' × GoesOnBad (turn_at t.phase t word) image have uuid host s'
  bad_turn =
      let turn = says image have uuid host s s' word still t holds.me holds.lines t.phase holds.phase done in
      (turn.may, bad_still, turn.task)

  -- what holds of another host's task still does
  pub bad_others : (h : ℕ) (other : Task) → BadTaskHolds image have uuid h other s → BadTaskHolds image have uuid h other s'
  bad_others h other theirs = task_moved image have host s s' still moved uuid h other theirs
