-- A cache's own move at a line keeps all tasks' facts, those of its own host among them.
use Rattle.std.proofs.Common.{ℕ, ◌≤◌, ◌≡◌, ◌≢◌, inl, inr, List, length, sym, ◌∙◌, subst, arith}
use Rattle.std.specs.Prelude.{Some, Option}
use Rattle.std.proofs.lemmas.Option.{same_Some}
use Rattle.fam_format.specs.Layout.{gate_line}
use Rattle.fam_machine.specs.declared.cell.Cell.{Cell}
use Rattle.fam_machine.specs.declared.cell.Cell.TheVariants.{Absent, Clean, Dirty}
use Rattle.fam_machine.specs.OneLine.{IsDirty}
use Rattle.fam_machine.specs.Moves.{Transfer}
use Rattle.fam_commands.specs.Task.{Task}
use Rattle.fam_rules.specs.Asks.{File}
use Rattle.fam_protocol.specs.SharedState.{SharedState, TransfersAt}
use Rattle.fam_protocol.specs.Lines.{Fresh, FreshGate, Holding, IsHandedOver, Finished, gate_of, top, IsAtLeast}
use Rattle.fam_protocol.specs.Core.{System, Core, top_of}
use Rattle.fam_protocol.specs.Tasks.{TaskHolds}
use Rattle.fam_protocol.proofs.Lines.Moves.{gate_grows, fresh_kept, fresh_gate_kept, handed_kept, holding_kept, finished_kept}
use Rattle.fam_protocol.proofs.Lines.Free.{Same, same, cell_kept, own, gate_cell, quiet_same}
use Rattle.fam_protocol.proofs.Lines.Keeping.{Keeps, task_kept}
use Rattle.fam_protocol.proofs.Lines.Floors.{at_least_more}

-- a copy that a reader may load is no newer than memory
order_at : (floor : Option ℕ) (m : List ℕ) (c : Cell) → FreshGate floor m c → gate_of m ≤ top m c
order_at floor m Absent f = omega arith
order_at floor m (Clean w) f = omega arith
order_at floor m (Dirty a w) f = absurd f

-- memory's gate may grow under a reader's copy
pub gate_grown : (floor : Option ℕ) (m m' : List ℕ) (c : Cell) → gate_of m ≤ gate_of m' → FreshGate floor m c → FreshGate floor m' c
gate_grown floor m m' Absent le f = tt
gate_grown floor m m' (Clean w) le f = (f.0, omega (arith, f.1, le))
gate_grown floor m m' (Dirty a w) le f = f

module _ (sys : System) (s s' : SharedState) (all : List File) (settled : ℕ) (core : Core sys s all settled) (host line : ℕ) (transfers : TransfersAt host line s s') where
  moved : (P : List ℕ → Cell → Type 0) → ((m m' : List ℕ) (c c' : Cell) → Transfer m c m' c' → length m ≡ 8 → P m c → P m' c') → (h l : ℕ)
      → (h ≢ host → IsDirty (s.copy host l) → ⊥) → P (s.memory l) (s.copy h l) → P (s'.memory l) (s'.copy h l)
  moved = cell_kept host line s s' transfers core.wide

  cell : (gate_of (s.memory gate_line) ≤ gate_of (s'.memory gate_line)) × (gate_of (s'.memory gate_line) ≤ top_of sys s') × (top_of sys s' ≡ top_of sys s)
  cell = gate_cell host line s s' transfers core.wide sys all settled core

  -- any host's copy of the gate's line
  gate_copy : (h : ℕ) (floor : Option ℕ) → IsAtLeast floor settled → FreshGate floor (s.memory gate_line) (s.copy h gate_line) → FreshGate floor (s'.memory gate_line) (s'.copy h gate_line)
  gate_copy h floor low f = go (same h host)
    where
      P : List ℕ → Cell → Type 0
      P m c = IsAtLeast floor (gate_of m) × (gate_of m ≤ top m c) × FreshGate floor m c

      step : (m m' : List ℕ) (c c' : Cell) → Transfer m c m' c' → length m ≡ 8 → P m c → P m' c'
      step m m' c c' v l q = let g = gate_grows v q.1 in (at_least_more floor (gate_of m) (gate_of m') g.0 q.0, g.1, fresh_gate_kept floor q.0 v q.2)

      go : Same h host → FreshGate floor (s'.memory gate_line) (s'.copy h gate_line)
      go (inl e) = subst (λ x. FreshGate floor (s'.memory gate_line) (s'.copy x gate_line)) (sym e)
          (own host line s s' transfers core.wide P step gate_line
          (subst (λ x. P (s.memory gate_line) (s.copy x gate_line)) e (
            at_least_more floor settled (gate_of (s.memory gate_line)) core.low low,
            order_at floor (s.memory gate_line) (s.copy h gate_line) f,
            f,
          ))).2
      go (inr ne) = gate_grown floor (s.memory gate_line) (s'.memory gate_line) (s'.copy h gate_line) cell.0
          (subst (λ (c : Cell). FreshGate floor (s.memory gate_line) c) (sym (transfers.only.hosts h gate_line ne)) f)

  -- a line that only the master may have dirty, seen by the master
  not_other : (h : ℕ) → sys.master ≡ Some h → (l : ℕ) → h ≢ host → IsDirty (s.copy host l) → ⊥
  not_other h is l ne d = ne (same_Some _ _ (sym is ∙ core.only_master host l d))

  -- what a task rests on stays when any cache moves by itself
  pub transfer_keeps : (h : ℕ) → Keeps sys h settled s s'
  transfer_keeps h = record {
    quiet = quiet_same host line s s' transfers core.wide sys all settled core;
    fresh = λ l q f. moved Fresh (λ m m' c c' v w. fresh_kept v w) h l (λ _. q host) f;
    gate = cell.0;
    at_gate = λ floor g. record {
      low = g.low;
      copy = gate_copy h floor g.low g.copy;
      masters = λ is. moved Fresh (λ m m' c c' v w. fresh_kept v w) h gate_line (not_other h is gate_line) (g.masters is);
    };
    writing = λ is. record {
      top = cell.2;
      finished = λ wanted l f. moved (Finished wanted) (λ m m' c c' v w. finished_kept wanted v w) h l (not_other h is l) f;
      holding = λ k wanted l f. moved (Holding k wanted) (λ m m' c c' v w. holding_kept k wanted v w) h l (not_other h is l) f;
      handed = λ l f. moved (λ m c. IsHandedOver c) (λ m m' c c' v w. handed_kept v) h l (not_other h is l) f;
    };
  }

  -- so does what is known of the task
  pub transfer_task : (h : ℕ) (floor : Option ℕ) (t : Task) → TaskHolds sys h floor t s all settled → TaskHolds sys h floor t s' all settled
  transfer_task h floor t holds = task_kept sys s s' all settled core h floor (transfer_keeps h) t holds
