-- The turn of a task that read a slot, of all commands but a check of the whole file system.
use Rattle.std.proofs.Common.{ℕ, refl, [], ◌∷◌, ◌++◌, ◌+◌, ◌≤◌, ◌<◌, ◌≡◌, ◌≢◌, List, take, sym, ◌∙◌, ap, subst, arith}
use Rattle.std.specs.Prelude.{Option, Some, None, Result, Ok, slice_get}
use Rattle.fam_base.specs.declared.cmd.Cmd.{Cmd}
use Rattle.fam_base.specs.declared.cmd.Cmd.TheVariants.{Fsck}
use Rattle.fam_base.specs.declared.entry.Params.{Params}
use Rattle.fam_base.specs.declared.entry.Entry.{Entry}
use Rattle.fam_format.specs.declared.faults.Reason.{Reason}
use Rattle.fam_format.specs.Layout.{gate_line}
use Rattle.fam_format.specs.Reading.{slot_words}
use Rattle.fam_format.specs.Slot.{entry_of}
use Rattle.fam_format.specs.Tree.{join_fault}
use Rattle.fam_commands.specs.declared.phase.Phase.TheVariants as at
use Rattle.fam_commands.specs.Task.{Task}
use Rattle.fam_commands.specs.Turns.{slot_turn, join_turn, slots_read, slot_or_decide}
use Rattle.fam_rules.specs.Asks.{File, entries_of}
use Rattle.fam_protocol.specs.SharedState.{SharedState}
use Rattle.fam_protocol.specs.Lines.{gate_of}
use Rattle.fam_protocol.specs.Core.{System, Core}
use Rattle.fam_protocol.specs.Tasks.{HasRead, HasReadAll, AtPhase}
use Rattle.fam_protocol.specs.After.{After, Named}
use Rattle.fam_protocol.proofs.Turns.PartWords.{slot_words_are}
use Rattle.fam_protocol.proofs.Turns.Moved.{IsTask}
use Rattle.fam_protocol.proofs.Turns.Tell.{goes}
use Rattle.fam_protocol.proofs.Settled.Lists.{some_at, entries_more}
use Rattle.fam_protocol.proofs.Turns.Gate.{at_next}

-- the task with another command
abbrev pub commanded : Task → Cmd → Task
commanded t cmd = record t { cmd = cmd }

-- a command reads the slots below the gate and keeps their entries
pub record ReadsLog (cmd : Cmd) : Type 0 where
  pub slots : (t : Task) → slots_read (commanded t cmd) ≡ t.gate
  pub read : (i : ℕ) (t : Task) (all : List File) → t.entries ≡ entries_of (take i all) → HasRead cmd i t all
  pub back : (i : ℕ) (t : Task) (all : List File) → HasRead cmd i t all → t.entries ≡ entries_of (take i all)

-- so do all commands but a check of the whole file system
pub reads_log : (cmd : Cmd) → cmd ≢ Fsck → ReadsLog cmd
reads_log Fsck other = absurd (other refl)
reads_log cmd other = record { slots = λ t. refl; read = λ i t all h. h; back = λ i t all h. h }

-- all their entries
pub all_entries : (cmd : Cmd) (log : ReadsLog cmd) (t : Task) (host : ℕ) (floor : Option ℕ) (s : SharedState) (all : List File) (settled : ℕ)
    → HasReadAll host floor (commanded t cmd) s all settled → t.entries ≡ entries_of (take t.gate all)
all_entries cmd log t host floor s all settled h =
    log.back (slots_read (commanded t cmd)) (commanded t cmd) all h.read ∙ ap (λ (n : ℕ). entries_of (take n all)) (log.slots t)

module _ (sys : System) (host : ℕ) (floor : Option ℕ) (s : SharedState) (all : List File) (settled : ℕ) (core : Core sys s all settled) where
  -- slot i below the gate reads as the entry that stands there
  pub slot_reads : (i : ℕ) (t : Task) (f : File) → t.params ≡ sys.params → t.gate ≤ gate_of (s.memory gate_line) → i < t.gate
      → slice_get all i ≡ Some f → t.words ≡ slot_words s.memory t.params i → entry_of t.params t.words i ≡ Ok f.entry
  slot_reads i t f params high below is words =
      ap (λ (l : List ℕ). entry_of t.params l i) words ∙ ap (λ (p : Params). entry_of p (slot_words s.memory p i) i) params ∙ (core.stands i f is (omega (arith, core.order))).slot

module _ (sys : System) (host : ℕ) (floor : Option ℕ) (named : Option Named) (s : SharedState) (all : List File) (settled : ℕ) (core : Core sys s all settled) where
  -- the turn of a slot's words
  pub slot_checked : (cmd : Cmd) (log : ReadsLog cmd) (i : ℕ) (t : Task) → IsTask sys host (commanded t cmd)
      → AtPhase (at.Check i) sys host floor (commanded t cmd) s all settled
      → After (slot_turn (commanded t cmd) i (entry_of t.params t.words i)) sys host floor named (commanded t cmd) s all settled
  slot_checked cmd log i t is g =
      let u : Task = commanded t cmd in
      let below : i < t.gate = subst (λ (n : ℕ). i < n) (log.slots t) g.1.below in
      let found = some_at all i (omega (arith, g.1.gate.high, core.order, core.high)) in
      let f : File = found.0 in
      let reads : entry_of t.params t.words i ≡ Ok f.entry = slot_reads sys host floor s all settled core i t f g.0.params g.1.gate.high below found.1 (g.2 below ∙ slot_words_are s.memory u i) in
      let before : t.entries ≡ entries_of (take i all) = log.back i u all g.1.read in
      let joins : join_fault t.params t.entries f.entry ≡ None =
      ap (λ (p : Params). join_fault p t.entries f.entry) g.0.params ∙ ap (λ (l : List Entry). join_fault sys.params l f.entry) before ∙ (core.history i f found.1).joins in
      let t' : Task = record u { entries = t.entries ++ f.entry ∷ []; words = []; phase = slot_or_decide u (i + 1) } in
      let more : t'.entries ≡ entries_of (take (i + 1) all) = ap (λ (l : List Entry). l ++ f.entry ∷ []) before ∙ sym (entries_more all i f found.1) in
      subst (λ (r : Result Entry Reason). After (slot_turn u i r) sys host floor named u s all settled) (sym reads)
      (subst (λ (o : Option Reason). After (join_turn u i f.entry o) sys host floor named u s all settled) (sym joins)
      (goes sys host floor named s all settled core u t' (record { command = is.command; me = is.me; lines = is.lines })
      (at_next sys host floor s all settled t' (i + 1) (slots_read u) (log.slots t ∙ sym (log.slots t')) (record { params = g.0.params; master = g.0.master })
      (record { low = g.1.gate.low; high = g.1.gate.high; writer = g.1.gate.writer }) (omega (arith, log.slots t)) (log.read (i + 1) t' all more) refl)))
