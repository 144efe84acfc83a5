-- What a cache's own moves at one line keep: all that holds of memory, of every cache and of every task.
use Rattle.std.proofs.Common.{ℕ, ◌/◌, ◌%◌, ◌≤◌, ◌<◌, ◌≡◌, ◌≢◌, ◌⊎◌, inl, inr, List, length, refl, sym, ◌∙◌, ap, subst, arith, true, false}
use Rattle.std.specs.Prelude.{slice_index, Option, Some, None}
use Rattle.std.proofs.lemmas.Bool.Decides.{eqb_tells}
use Rattle.std.specs.Prelude.{◌==◌}
use Rattle.std.proofs.lemmas.Option.{same_Some}
use Rattle.fam_base.specs.declared.entry.Params.{Params}
use Rattle.fam_format.specs.Slot.{entry_of}
use Rattle.fam_format.specs.Layout.{gate_line, log_line, slot_line, geometry}
use Rattle.fam_format.specs.Reading.{slot_words}
use Rattle.fam_format.proofs.Formats.{shape}
use Rattle.fam_machine.specs.declared.cell.Cell.{Cell}
use Rattle.fam_machine.specs.declared.cell.Cell.TheVariants.{Absent, Clean, Dirty}
use Rattle.fam_machine.specs.OneLine.{IsDirty, current}
use Rattle.fam_machine.specs.Moves.{Transfer, Transfers}
use Rattle.fam_rules.specs.Asks.{File}
use Rattle.fam_rules.specs.Content.{byte_in}
use Rattle.fam_rules.specs.Place.{line_bytes}
use Rattle.fam_rules.proofs.RoomSame.{map_range_same}
use Rattle.fam_protocol.specs.SharedState.{SharedState, TransfersAt, LeavesAt}
use Rattle.fam_protocol.specs.Lines.{gate_of, top}
use Rattle.fam_protocol.specs.Core.{System, Core, HeadStands, IsWide, IsEntryLine, EntryStands, masters_copy, top_of}
use Rattle.fam_protocol.proofs.Lines.Moves.{Wide, along, wide_kept, dirty_transfer, still_transfer, same_top, gate_grows}
use Rattle.fam_protocol.proofs.Lines.Clean.{NobodyDirty}

-- two numbers are one or not, as a case to look at
abbrev pub Same : ℕ → ℕ → Type 0
Same a b = (a ≡ b) ⊎ (a ≢ b)

told : (a b : ℕ) → ((a == b) ≡ true) × (a ≡ b) ⊎ ((a == b) ≡ false) × (a ≢ b) → Same a b
told a b (inl h) = inl h.1
told a b (inr h) = inr h.1

-- nothing is not something
pub none_some : {h : ℕ} → None ≡ Some h → ⊥
none_some e = absurd cc

-- two numbers are one or not
pub same : (a b : ℕ) → Same a b
same a b = told a b (eqb_tells a b)

-- memory that has the same lines of a slot has the same slot
pub slot_same : (memory memory' : ℕ → List ℕ) (p : Params) (i : ℕ)
    → ((j : ℕ) → j < (geometry p).lines → memory' (slot_line p i j) ≡ memory (slot_line p i j)) → slot_words memory' p i ≡ slot_words memory p i
unfolding slot_words
slot_same memory memory' p i lines =
    map_range_same _ _ 0 (geometry p).words (λ k _ lt. ap (λ (w : List ℕ). slice_index w (k % 8)) (lines (k / 8) (omega (arith, lt, (shape p).words))))

-- memory that has the same lines of an entry holds it too
pub stands_same : (memory memory' : ℕ → List ℕ) (p : Params) (i : ℕ) (f : File) → ((l : ℕ) → IsEntryLine p i f.entry l → memory' l ≡ memory l) → EntryStands p memory i f → EntryStands p memory' i f
stands_same memory memory' p i f lines st = record {
  slot = ap (λ (w : List ℕ). entry_of p w i) (slot_same memory memory' p i (λ j lt. lines _ (inl (j, lt, refl)))) ∙ st.slot;
  bytes = λ o lt. ap (λ (w : List ℕ). byte_in w (o % line_bytes)) (lines _ (inr (o / line_bytes, omega (arith, lt), refl))) ∙ st.bytes o lt;
}

-- the head reads the same where its lines do
pub head_same : (sys : System) (s s' : SharedState) → ((j : ℕ) → j ≤ 2 → s'.memory j ≡ s.memory j) → s'.memory log_line ≡ s.memory log_line
    → ((h l : ℕ) → IsDirty (s'.copy h l) → IsDirty (s.copy h l)) → HeadStands sys s → HeadStands sys s'
head_same sys s s' lines header dirty head = record {
  sound = head.sound;
  device = head.device;
  super = rw (lines 0 (omega arith), lines 1 (omega arith), lines 2 (omega arith)) head.super;
  header = rw header head.header;
  clean = λ h l is d. head.clean h l is (dirty h l d);
}

-- an operation that moves a cell as a cache may by itself
pub transfers_at : (host line : ℕ) (s s' : SharedState) (m : List ℕ) (c : Cell) → LeavesAt host line s s' m c → Transfers (s.memory line) (s.copy host line) m c → TransfersAt host line s s'
transfers_at host line s s' m c left d = record {
  only = left.only;
  here = subst (λ (x : List ℕ). Transfers (s.memory line) (s.copy host line) x (s'.copy host line)) (sym left.memory_is)
      (subst (λ (x : Cell). Transfers (s.memory line) (s.copy host line) m x) (sym left.copy_is) d);
}

module _ (host line : ℕ) (s s' : SharedState) (transfers : TransfersAt host line s s') (wide : IsWide s) where
  wide_at : (h l : ℕ) → Wide (s.memory l) (s.copy h l)
  wide_at h l = (wide.memory l, wide.copies h l)

  -- what the moves keep at one cell, they keep at each line of the host
  pub own : (P : List ℕ → Cell → Type 0) → ((m m' : List ℕ) (c c' : Cell) → Transfer m c m' c' → length m ≡ 8 → P m c → P m' c') → (l : ℕ)
      → P (s.memory l) (s.copy host l) → P (s'.memory l) (s'.copy host l)
  own P kept l p = go (same l line)
    where
      go : Same l line → P (s'.memory l) (s'.copy host l)
      go (inl e) = subst (λ x. P (s'.memory x) (s'.copy host x)) (sym e) (along P kept transfers.here (wide_at host line) (subst (λ x. P (s.memory x) (s.copy host x)) e p))
      go (inr ne) = subst (λ (m : List ℕ). P m (s'.copy host l)) (sym (transfers.only.memory l ne)) (subst (λ (c : Cell). P (s.memory l) c) (sym (transfers.only.lines host l ne)) p)

  -- memory stays where the host's copy isn't dirty
  pub memory_still : (l : ℕ) → (IsDirty (s.copy host l) → ⊥) → s'.memory l ≡ s.memory l
  memory_still l n = go (same l line)
    where
      go : Same l line → s'.memory l ≡ s.memory l
      go (inl e) = rw e (still_transfer transfers.here (λ d. n (subst (λ x. IsDirty (s.copy host x)) (sym e) d)))
      go (inr ne) = transfers.only.memory l ne

  -- another host sees nothing of it where the line isn't dirty here
  pub other : (P : List ℕ → Cell → Type 0) (h l : ℕ) → h ≢ host → (IsDirty (s.copy host l) → ⊥) → P (s.memory l) (s.copy h l) → P (s'.memory l) (s'.copy h l)
  other P h l ne n p =
      subst (λ (m : List ℕ). P m (s'.copy h l)) (sym (memory_still l n)) (subst (λ (c : Cell). P (s.memory l) c) (sym (transfers.only.hosts h l ne)) p)

  -- any host's copy of a line: moved by the host itself, or untouched by another one
  pub cell_kept : (P : List ℕ → Cell → Type 0) → ((m m' : List ℕ) (c c' : Cell) → Transfer m c m' c' → length m ≡ 8 → P m c → P m' c') → (h l : ℕ)
      → (h ≢ host → IsDirty (s.copy host l) → ⊥) → P (s.memory l) (s.copy h l) → P (s'.memory l) (s'.copy h l)
  cell_kept P kept h l clean p = go (same h host)
    where
      go : Same h host → P (s'.memory l) (s'.copy h l)
      go (inl e) = subst (λ x. P (s'.memory l) (s'.copy x l)) (sym e) (own P kept l (subst (λ x. P (s.memory l) (s.copy x l)) e p))
      go (inr ne) = other P h l ne (clean ne) p

  -- what is dirty now was dirty before
  pub dirty_was : (h l : ℕ) → IsDirty (s'.copy h l) → IsDirty (s.copy h l)
  dirty_was h l d = go (same h host)
    where
      go : Same h host → IsDirty (s.copy h l)
      go (inr ne) = subst IsDirty (transfers.only.hosts h l ne) d
      go (inl e) = subst (λ x. IsDirty (s.copy x l)) (sym e) (back (same l line))
        where
          back : Same l line → IsDirty (s.copy host l)
          back (inl f) = subst (λ x. IsDirty (s.copy host x)) (sym f) (dirty_transfer transfers.here (subst (λ x. IsDirty (s'.copy host x)) f (subst (λ x. IsDirty (s'.copy x l)) e d)))
          back (inr f) = subst IsDirty (transfers.only.lines host l f) (subst (λ x. IsDirty (s'.copy x l)) e d)

  -- lines stay wide: memory's as the host's, and another host's copy may be of a line that memory changes
  pub own_wide : (l : ℕ) → Wide (s'.memory l) (s'.copy host l)
  own_wide l = own Wide (λ m m' c c' v _ w. wide_kept v w) l (wide_at host l)

  -- lines have eight words after a cache's own move
  pub wide_now : IsWide s'
  wide_now = record { memory = λ l. (own_wide l).0; copies = λ h l. go h l (same h host) }
    where
      held_wide : (m m' : List ℕ) (c : Cell) → length m' ≡ 8 → length (current m c) ≡ 8 → length (current m' c) ≡ 8
      held_wide m m' Absent w v = w
      held_wide m m' (Clean words) w v = v
      held_wide m m' (Dirty a words) w v = v

      go : (h l : ℕ) → Same h host → length (current (s'.memory l) (s'.copy h l)) ≡ 8
      go h l (inl e) = subst (λ x. length (current (s'.memory l) (s'.copy x l)) ≡ 8) (sym e) (own_wide l).1
      go h l (inr ne) = held_wide (s.memory l) (s'.memory l) (s'.copy h l) (own_wide l).0
          (subst (λ (c : Cell). length (current (s.memory l) c) ≡ 8) (sym (transfers.only.hosts h l ne)) (wide.copies h l))

  module _ (sys : System) (all : List File) (settled : ℕ) (core : Core sys s all settled) where
    -- a line that nobody has dirty
    pub quiet_same : (l : ℕ) → NobodyDirty s l → s'.memory l ≡ s.memory l
    quiet_same l q = memory_still l (q host)

    -- the gate's line and the master's copy of it
    Gate : List ℕ → Cell → Type 0
    Gate m c = (gate_of (s.memory gate_line) ≤ gate_of m) × (gate_of m ≤ top m c) × (top m c ≡ top_of sys s)

    gate_step : (m m' : List ℕ) (c c' : Cell) → Transfer m c m' c' → length m ≡ 8 → Gate m c → Gate m' c'
    unfolding Gate
    gate_step m m' c c' v l q = let g = gate_grows v q.1 in (omega (arith, g.0, q.0), g.1, same_top v ∙ q.2)

    pub gate_cell : (gate_of (s.memory gate_line) ≤ gate_of (s'.memory gate_line)) × (gate_of (s'.memory gate_line) ≤ top_of sys s') × (top_of sys s' ≡ top_of sys s)
    unfolding Gate
    gate_cell = go sys.master refl
      where
        go : (o : Option ℕ) → sys.master ≡ o → Gate (s'.memory gate_line) (masters_copy o s' gate_line)
        go None is =
            let m = memory_still gate_line (λ d. absurd (none_some (sym is ∙ core.only_master host gate_line d))) in
            let t : gate_of (s.memory gate_line) ≡ top_of sys s = ap (λ (o : Option ℕ). top (s.memory gate_line) (masters_copy o s gate_line)) (sym is) in
            (omega (arith, ap gate_of m), omega arith, ap gate_of m ∙ t)
        go (Some h) is =
            cell_kept Gate gate_step h gate_line (λ ne d. ne (same_Some _ _ (sym is ∙ core.only_master host gate_line d))) (
              omega arith,
              subst (λ (o : Option ℕ). gate_of (s.memory gate_line) ≤ top (s.memory gate_line) (masters_copy o s gate_line)) is
                  core.order,
              ap (λ (o : Option ℕ). top (s.memory gate_line) (masters_copy o s gate_line)) (sym is),
            )

    pub core_kept : Core sys s' all settled
    core_kept =
        let g = gate_cell in
        record {
          wide = wide_now;
          head = head_same sys s s' (λ j le. quiet_same j (λ h. core.head.clean h j (inl le))) (quiet_same log_line (λ h. core.head.clean h log_line (inr refl))) dirty_was core.head;
          named = core.named;
          only_master = λ h l d. core.only_master h l (dirty_was h l d);
          low = omega (arith, core.low, g.0);
          order = g.1;
          high = omega (arith, core.high, g.2);
          near = core.near;
          room = core.room;
          history = core.history;
          stands = λ i f is lt. stands_same s.memory s'.memory sys.params i f
              (λ l line. quiet_same l (λ h. core.clean i f h l is (omega (arith, lt, g.2)) line)) (core.stands i f is (omega (arith, lt, g.2)));
          clean = λ i f h l is lt line d. core.clean i f h l is (omega (arith, lt, g.2)) line (dirty_was h l d);
        }
