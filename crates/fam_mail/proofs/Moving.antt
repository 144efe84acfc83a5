-- What a cache's own moves at one line keep, and what a fence and a broken operation keep, which are rows of them.
use Rattle.std.proofs.Common.{◌≡◌, ◌≢◌, ℕ, ◌+◌, ◌<◌, ◌≤◌, inl, inr, List, [], ◌∷◌, length, refl, sym, ap, subst, ◌∙◌, arith}
use Rattle.std.specs.Prelude.{Option, Some, None}
use Rattle.std.proofs.lemmas.Option.{same_Some}
use Rattle.fam_machine.specs.declared.cell.Cell.{Cell}
use Rattle.fam_machine.specs.declared.cell.Cell.TheVariants.{Absent, Clean, Dirty}
use Rattle.fam_machine.specs.OneLine.{IsDirty}
use Rattle.fam_machine.specs.Moves.{Transfer}
use Rattle.fam_protocol.specs.Core.{masters_copy}
use Rattle.fam_protocol.specs.Lines.{Finished, Fresh, FreshGate, Holding, IsAtLeast, IsHandedOver, gate_of, top}
use Rattle.fam_protocol.specs.SharedState.{SharedState, Sends, TransfersAt, all_sent, sends_one}
use Rattle.fam_protocol.proofs.Lines.Fencing.{sends_at}
use Rattle.fam_protocol.proofs.Lines.Floors.{at_least_more}
use Rattle.fam_protocol.proofs.Lines.Free.{Same, same, cell_kept, dirty_was, memory_still, none_some, own, wide_now}
use Rattle.fam_protocol.proofs.Lines.Moves.{finished_kept, fresh_gate_kept, fresh_kept, gate_grows, handed_kept, holding_kept, same_top}
use Rattle.fam_protocol.proofs.Lines.Transferring.{gate_grown}
use Rattle.fam_mail.specs.Mail.{Mail}
use Rattle.fam_mail.specs.Protocol.{Box, BoxCore, gate_at, top_at}
use Rattle.fam_mail.specs.Records.{record_in}
use Rattle.fam_mail.proofs.Keeping.{Keeps}

-- a copy that a reader may load is no newer than memory
order_at : (floor : Option ℕ) (m : List ℕ) (c : Cell) → FreshGate floor m c → gate_of m ≤ top m c
order_at floor m Absent f = omega arith
order_at floor m (Clean w) f = omega arith
order_at floor m (Dirty a w) f = absurd f

module _ (b : Box) (s s' : SharedState) (m : Mail) (core : BoxCore b s m) (host line : ℕ) (moves : TransfersAt host line s s') where
  moved : (P : List ℕ → Cell → Type 0) → ((m m' : List ℕ) (c c' : Cell) → Transfer m c m' c' → length m ≡ 8 → P m c → P m' c') → (h l : ℕ) → (h ≢ host → IsDirty (s.copy host l) → ⊥)
      → P (s.memory l) (s.copy h l) → P (s'.memory l) (s'.copy h l)
  moved = cell_kept host line s s' moves core.wide

  -- the gate's line and the writer's copy of it
  Gate : List ℕ → Cell → Type 0
  Gate m c = (gate_at b s ≤ gate_of m) × (gate_of m ≤ top m c) × (top m c ≡ top_at b s)

  gate_step : (m m' : List ℕ) (c c' : Cell) → Transfer m c m' c' → length m ≡ 8 → Gate m c → Gate m' c'
  unfolding Gate
  gate_step m m' c c' v l q = let g = gate_grows v q.1 in (omega (arith, g.0, q.0), g.1, same_top v ∙ q.2)

  -- memory's gate may rise up to the one that the writer's cache holds
  pub gate_moved : (gate_at b s ≤ gate_at b s') × (gate_at b s' ≤ top_at b s') × (top_at b s' ≡ top_at b s)
  unfolding Gate
  gate_moved = go b.writer refl
    where
      go : (o : Option ℕ) → b.writer ≡ o → Gate (s'.memory (b.place 0)) (masters_copy o s' (b.place 0))
      go None is =
          let m = memory_still host line s s' moves core.wide (b.place 0) (λ d. absurd (none_some (sym is ∙ core.only_writer host (b.place 0) d))) in
          let t : gate_at b s ≡ top_at b s = ap (λ (o : Option ℕ). top (s.memory (b.place 0)) (masters_copy o s (b.place 0))) (sym is) in
          (omega (arith, ap gate_of m), omega arith, ap gate_of m ∙ t)
      go (Some h) is =
          moved Gate gate_step h (b.place 0) (λ ne d. ne (same_Some _ _ (sym is ∙ core.only_writer host (b.place 0) d))) (
            omega arith,
            subst (λ (o : Option ℕ). gate_at b s ≤ top (s.memory (b.place 0)) (masters_copy o s (b.place 0))) is core.order,
            ap
                (λ (o : Option ℕ). top (s.memory (b.place 0)) (masters_copy o s (b.place 0))) (sym is),
          )

  -- a record below the top stays
  record_still : (i : ℕ) → i < top_at b s → s'.memory (b.place (1 + i)) ≡ s.memory (b.place (1 + i))
  record_still i lt = memory_still host line s s' moves core.wide (b.place (1 + i)) (core.clean i host lt)

  -- what holds of the box stays
  pub core_moved : BoxCore b s' m
  core_moved =
      let g = gate_moved in
      record {
        apart = core.apart;
        wide = wide_now host line s s' moves core.wide;
        only_writer = λ h l d. core.only_writer h l (dirty_was host line s s' moves core.wide h l d);
        inside = λ h l d. core.inside h l (dirty_was host line s s' moves core.wide h l d);
        outside = λ l not. memory_still host line s s' moves core.wide l (λ d. not (core.inside host l d)) ∙ core.outside l not;
        low = omega (arith, core.low, g.0);
        order = g.1;
        high = omega (arith, core.high, g.2);
        room = core.room;
        stands = λ i numbers is lt. ap record_in (record_still i (omega (arith, lt, g.2))) ∙ core.stands i numbers is (omega (arith, lt, g.2));
        clean = λ i h lt d. core.clean i h (omega (arith, lt, g.2)) (dirty_was host line s s' moves core.wide h (b.place (1 + i)) d);
      }

  -- any host's copy of the gate's line
  gate_copy : (h : ℕ) (floor : Option ℕ) → IsAtLeast floor (length m.list) → FreshGate floor (s.memory (b.place 0)) (s.copy h (b.place 0))
      → FreshGate floor (s'.memory (b.place 0)) (s'.copy h (b.place 0))
  gate_copy h floor low f = go (same h host)
    where
      P : List ℕ → Cell → Type 0
      P m c = IsAtLeast floor (gate_of m) × (gate_of m ≤ top m c) × FreshGate floor m c

      step : (m m' : List ℕ) (c c' : Cell) → Transfer m c m' c' → length m ≡ 8 → P m c → P m' c'
      step m m' c c' v l q = let g = gate_grows v q.1 in (at_least_more floor (gate_of m) (gate_of m') g.0 q.0, g.1, fresh_gate_kept floor q.0 v q.2)

      go : Same h host → FreshGate floor (s'.memory (b.place 0)) (s'.copy h (b.place 0))
      go (inl e) = subst (λ x. FreshGate floor (s'.memory (b.place 0)) (s'.copy x (b.place 0))) (sym e)
          (own host line s s' moves core.wide P step (b.place 0)
          (subst (λ x. P (s.memory (b.place 0)) (s.copy x (b.place 0))) e
          (at_least_more floor (length m.list) (gate_at b s) core.low low, order_at floor (s.memory (b.place 0)) (s.copy h (b.place 0)) f, f))).2
      go (inr ne) = gate_grown floor (s.memory (b.place 0)) (s'.memory (b.place 0)) (s'.copy h (b.place 0)) gate_moved.0
          (subst (λ (c : Cell). FreshGate floor (s.memory (b.place 0)) c) (sym (moves.only.hosts h (b.place 0) ne)) f)

  not_other : (h : ℕ) → b.writer ≡ Some h → (l : ℕ) → h ≢ host → IsDirty (s.copy host l) → ⊥
  not_other h is l ne d = ne (same_Some _ _ (sym is ∙ core.only_writer host l d))

  -- and what each host's task rests on
  pub keeps_moved : (h : ℕ) → Keeps b h s s' m
  keeps_moved h = record {
    memory = record_still;
    fresh = λ i lt f. moved Fresh (λ m m' c c' v w. fresh_kept v w) h (b.place (1 + i)) (λ _. core.clean i host lt) f;
    gate = gate_moved.0;
    gate_copy = gate_copy h;
    writing = λ is. record {
      top = gate_moved.2;
      gate = λ f. moved Fresh (λ m m' c c' v w. fresh_kept v w) h (b.place 0) (not_other h is (b.place 0)) f;
      finished = λ wanted l f. moved (Finished wanted) (λ m m' c c' v w. finished_kept wanted v w) h l (not_other h is l) f;
      holding = λ k wanted l f. moved (Holding k wanted) (λ m m' c c' v w. holding_kept k wanted v w) h l (not_other h is l) f;
      handed = λ l f. moved (λ m c. IsHandedOver c) (λ m m' c c' v w. handed_kept v) h l (not_other h is l) f;
    };
  }

-- what stays where nothing changes
pub keeps_same : (b : Box) (h : ℕ) (s : SharedState) (m : Mail) → Keeps b h s s m
keeps_same b h s m = record {
  memory = λ i lt. refl;
  fresh = λ i lt f. f;
  gate = omega arith;
  gate_copy = λ floor low f. f;
  writing = λ is. record { top = refl; gate = λ f. f; finished = λ wanted l f. f; holding = λ k wanted l f. f; handed = λ l f. f };
}

-- and in two steps
pub keeps_then : (b : Box) (h : ℕ) (s next s' : SharedState) (m : Mail) → top_at b s ≤ top_at b next → Keeps b h s next m → Keeps b h next s' m → Keeps b h s s' m
keeps_then b h s next s' m grows first second = record {
  memory = λ i lt. second.memory i (omega (arith, lt, grows)) ∙ first.memory i lt;
  fresh = λ i lt f. second.fresh i (omega (arith, lt, grows)) (first.fresh i lt f);
  gate = omega (arith, first.gate, second.gate);
  gate_copy = λ floor low f. second.gate_copy floor low (first.gate_copy floor low f);
  writing = λ is.
      let x = first.writing is in
      let y = second.writing is in
      record {
        top = y.top ∙ x.top;
        gate = λ f. y.gate (x.gate f);
        finished = λ wanted l f. y.finished wanted l (x.finished wanted l f);
        holding = λ k wanted l f. y.holding k wanted l (x.holding k wanted l f);
        handed = λ l f. y.handed l (x.handed l f);
      };
}

-- What lines that are sent leave.
pub record Sent (b : Box) (s s' : SharedState) (m : Mail) : Type 0 where
  pub core : BoxCore b s' m
  pub keeps : (h : ℕ) → Keeps b h s s' m

-- so it does over some lines that are sent
pub sends_keep : (b : Box) (m : Mail) (host : ℕ) (lines : List ℕ) (s s' : SharedState) → Sends host lines s s' → BoxCore b s m → Sent b s s' m
sends_keep b m host [] s _ all_sent core = record { core = core; keeps = λ h. keeps_same b h s m }
sends_keep b m host (line ∷ lines) s s' (sends_one {next = next} left rest) core =
    let moves = sends_at host line s next left in
    let then = sends_keep b m host lines next s' rest (core_moved b s next m core host line moves) in
    record { core = then.core; keeps = λ h. keeps_then b h s next s' m (omega (arith, (gate_moved b s next m core host line moves).2)) (keeps_moved b s next m core host line moves h) (then.keeps h) }
