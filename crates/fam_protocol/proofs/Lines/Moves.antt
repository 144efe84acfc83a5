-- What each move of a cache keeps at one line, and so each list of moves.
use Rattle.std.proofs.Common.{ℕ, zero, suc, ◌/◌, ◌%◌, ◌^◌, ◌==◌, ◌≤◌, ◌≡◌, List, length, refl, sym, ◌∙◌, subst, arith, cond, Bool, true, false}
use Rattle.std.specs.Prelude.{slice_index, Option}
use Rattle.fam_base.specs.Image.{masked}
use Rattle.fam_base.proofs.ImageLemmas.{length-masked, masked-same}
use Rattle.fam_machine.specs.declared.cell.Cell.{Cell}
use Rattle.fam_machine.specs.declared.cell.Cell.TheVariants.{Absent, Clean, Dirty}
use Rattle.fam_machine.specs.OneLine.{IsAsked, IsDirty, asked_for, current}
use Rattle.fam_machine.specs.Moves.{Transfer, brings, refreshes, sends, sends_whole, asks, cleans, drops, Transfers, rests, goes}
use Rattle.fam_machine.proofs.WideLines.{eight_whole}
use Rattle.fam_protocol.specs.Lines.{gate_of, top, Fresh, FreshGate, Holding, IsHandedOver, Finished, IsAtLeast}
use Rattle.fam_protocol.proofs.Lines.Floors.{at_least_more}

-- a line masked over itself
pub masked_same : (mask : ℕ) (m : List ℕ) → length m ≡ 8 → masked mask m m ≡ m
masked_same mask m is = masked-same mask m ∙ eight_whole m is

-- memory's line and the copy have eight words
abbrev pub Wide : List ℕ → Cell → Type 0
Wide m c = (length m ≡ 8) × (length (current m c) ≡ 8)

-- both have eight words after a move
pub wide_kept : {m m' : List ℕ} {c c' : Cell} → Transfer m c m' c' → Wide m c → Wide m' c'
wide_kept brings w = w
wide_kept (refreshes {m} {w = v} mask) w = (w.0, length-masked mask m v)
wide_kept (sends {m} {w = v} mask) w = (length-masked mask v m, w.1)
wide_kept sends_whole w = (w.1, w.1)
wide_kept asks w = w
wide_kept cleans w = w
wide_kept drops w = (w.0, w.0)

-- a test that fails doesn't hold
pub never : false ≡ true → ⊥
never e = absurd cc

-- no line becomes dirty by itself
pub dirty_before : {m m' : List ℕ} {c c' : Cell} → Transfer m c m' c' → IsDirty c' → IsDirty c
dirty_before brings d = absurd (never d)
dirty_before (refreshes mask) d = absurd (never d)
dirty_before (sends mask) d = refl
dirty_before sends_whole d = refl
dirty_before asks d = refl
dirty_before cleans d = refl
dirty_before drops d = absurd (never d)

-- memory changes only under a dirty copy
pub still : {m m' : List ℕ} {c c' : Cell} → Transfer m c m' c' → (IsDirty c → ⊥) → m' ≡ m
still brings n = refl
still (refreshes mask) n = refl
still (sends mask) n = absurd (n refl)
still sends_whole n = absurd (n refl)
still asks n = refl
still cleans n = refl
still drops n = refl

-- no move changes the larger of memory's gate and a dirty one
pub same_top : {m m' : List ℕ} {c c' : Cell} → Transfer m c m' c' → top m' c' ≡ top m c
same_top brings = refl
same_top (refreshes mask) = refl
same_top (sends mask) = refl
same_top sends_whole = refl
same_top asks = refl
same_top cleans = refl
same_top drops = refl

-- the gate of a masked line is one of the two gates
between_by : (b : Bool) (x y : ℕ) → y ≤ x → (y ≤ cond b x y) × (cond b x y ≤ x)
between_by true x y h = (h, omega arith)
between_by false x y h = (omega arith, h)

-- so a masked line's gate is between them
pub gate_between : (mask : ℕ) (w m : List ℕ) → gate_of m ≤ gate_of w → (gate_of m ≤ gate_of (masked mask w m)) × (gate_of (masked mask w m) ≤ gate_of w)
unfolding masked
gate_between mask w m h = between_by (mask / 2 ^ 0 % 2 == 1) (slice_index w 0) (slice_index m 0) h

-- the gate in memory only grows, up to the top
pub gate_grows : {m m' : List ℕ} {c c' : Cell} → Transfer m c m' c' → gate_of m ≤ top m c → (gate_of m ≤ gate_of m') × (gate_of m' ≤ top m' c')
gate_grows brings h = (omega arith, omega arith)
gate_grows (refreshes mask) h = (omega arith, omega arith)
gate_grows (sends {m} {w} mask) h = gate_between mask w m h
gate_grows sends_whole h = (h, omega arith)
gate_grows asks h = (omega arith, h)
gate_grows cleans h = (omega arith, omega arith)
gate_grows drops h = (omega arith, omega arith)

-- a copy that can't be stale stays so
pub fresh_kept : {m m' : List ℕ} {c c' : Cell} → Transfer m c m' c' → length m ≡ 8 → Fresh m c → Fresh m' c'
fresh_kept brings l f = refl
fresh_kept (refreshes {m} {w} mask) l f = subst (λ (v : List ℕ). masked mask m v ≡ m) (sym f) (masked_same mask m l)
fresh_kept (sends mask) l f = absurd f
fresh_kept sends_whole l f = absurd f
fresh_kept asks l f = absurd f
fresh_kept cleans l f = absurd f
fresh_kept drops l f = tt

gate_refreshed : (mask : ℕ) (floor : Option ℕ) (w m : List ℕ) → IsAtLeast floor (gate_of w) × (gate_of w ≤ gate_of m)
    → IsAtLeast floor (gate_of (masked mask m w)) × (gate_of (masked mask m w) ≤ gate_of m)
gate_refreshed mask floor w m h = let g = gate_between mask m w h.1 in (at_least_more floor (gate_of w) (gate_of (masked mask m w)) g.0 h.0, g.1)

-- a copy of the gate stays no older than the mark, and no newer than memory
pub fresh_gate_kept : {m m' : List ℕ} {c c' : Cell} (floor : Option ℕ) → IsAtLeast floor (gate_of m) → Transfer m c m' c' → FreshGate floor m c → FreshGate floor m' c'
fresh_gate_kept floor low brings f = (low, omega arith)
fresh_gate_kept floor low (refreshes {m} {w} mask) f = gate_refreshed mask floor w m f
fresh_gate_kept floor low (sends mask) f = absurd f
fresh_gate_kept floor low sends_whole f = absurd f
fresh_gate_kept floor low asks f = absurd f
fresh_gate_kept floor low cleans f = absurd f
fresh_gate_kept floor low drops f = tt

-- words that a writer stored stay where they are read
pub holding_kept : {m m' : List ℕ} {c c' : Cell} (k : ℕ) (wanted : List ℕ) → Transfer m c m' c' → length m ≡ 8 → Holding k wanted m c → Holding k wanted m' c'
holding_kept zero wanted v l f = tt
holding_kept (suc k) wanted brings l f = (refl, f)
holding_kept (suc k) wanted (refreshes {m} {w} mask) l f = (subst (λ (v : List ℕ). masked mask m v ≡ m) (sym f.0) (masked_same mask m l), f.1)
holding_kept (suc k) wanted (sends mask) l f = f
holding_kept (suc k) wanted sends_whole l f = f
holding_kept (suc k) wanted asks l f = f
holding_kept (suc k) wanted cleans l f = (refl, f)
holding_kept (suc k) wanted drops l f = f.1

-- a copy that the next fence sends where it is dirty stays so
pub handed_kept : {m m' : List ℕ} {c c' : Cell} → Transfer m c m' c' → IsHandedOver c → IsHandedOver c'
handed_kept brings h d = absurd (never d)
handed_kept (refreshes mask) h d = absurd (never d)
handed_kept (sends mask) h d = h d
handed_kept sends_whole h d = h d
handed_kept asks h d = refl
handed_kept cleans h d = absurd (never d)
handed_kept drops h d = absurd (never d)

-- a copy that is asked for is one
pub asked_handed : (c : Cell) → IsHandedOver (asked_for c)
asked_handed Absent d = absurd (never d)
asked_handed (Clean w) d = absurd (never d)
asked_handed (Dirty a w) d = refl

-- what is asked for is dirty
pub asked_dirty : (c : Cell) → IsAsked c → IsDirty c
asked_dirty Absent is = absurd (never is)
asked_dirty (Clean w) is = absurd (never is)
asked_dirty (Dirty a w) is = refl

-- a fresh copy isn't dirty
pub fresh_clean : (m : List ℕ) (c : Cell) → Fresh m c → IsDirty c → ⊥
fresh_clean m Absent f d = never d
fresh_clean m (Clean w) f d = never d
fresh_clean m (Dirty a w) f d = f

-- what the host reads through a fresh copy is memory's
pub fresh_current : (m : List ℕ) (c : Cell) → Fresh m c → current m c ≡ m
fresh_current m Absent f = refl
fresh_current m (Clean w) f = f
fresh_current m (Dirty a w) f = absurd f

-- so is the gate
pub fresh_top : (m : List ℕ) (c : Cell) → Fresh m c → top m c ≡ gate_of m
fresh_top m Absent f = refl
fresh_top m (Clean w) f = refl
fresh_top m (Dirty a w) f = absurd f

-- a line that a writer finished stays finished
pub finished_kept : {m m' : List ℕ} {c c' : Cell} (wanted : List ℕ) → Transfer m c m' c' → length m ≡ 8 → Finished wanted m c → Finished wanted m' c'
finished_kept {m} {m'} {c} {c'} wanted v l f = (still v (fresh_clean m c f.1) ∙ f.0, fresh_kept v l f.1)

-- what each move keeps of wide lines, a transfer keeps
pub along : (P : List ℕ → Cell → Type 0) → ((m m' : List ℕ) (c c' : Cell) → Transfer m c m' c' → length m ≡ 8 → P m c → P m' c')
    → {m m' : List ℕ} {c c' : Cell} → Transfers m c m' c' → Wide m c → P m c → P m' c'
along P kept rests w p = p
along P kept (goes {m} {m'} {m''} {c} {c'} {c''} v d) w p = along P kept d (wide_kept v w) (kept m m' c c' v w.0 p)

-- a list of moves makes no line dirty
pub dirty_transfer : {m m' : List ℕ} {c c' : Cell} → Transfers m c m' c' → IsDirty c' → IsDirty c
dirty_transfer rests d = d
dirty_transfer (goes v d) is = dirty_before v (dirty_transfer d is)

-- and changes memory only under a dirty copy
pub still_transfer : {m m' : List ℕ} {c c' : Cell} → Transfers m c m' c' → (IsDirty c → ⊥) → m' ≡ m
still_transfer rests n = refl
still_transfer (goes v d) n = still_transfer d (λ is. n (dirty_before v is)) ∙ still v n
