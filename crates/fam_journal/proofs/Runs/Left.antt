-- What the image reads as, at any moment at which the world is held.
use Rattle.std.proofs.Common.{◌≡◌, inl, inr, ℕ, zero, suc, ◌+◌, ◌*◌, ◌≤◌, Bool, true, false, List, [], ◌∷◌, ◌++◌, length, take, Option, Some, None, refl, ap, sym, ◌∙◌, arith}
use Rattle.std.specs.Prelude.{nat_lt, if◌then◌else◌, slice_get, Result}
use Rattle.std.proofs.lemmas.Bool.Decides.{nat_tests}
use Rattle.fam_base.specs.declared.entry.Entry.{Entry}
use Rattle.fam_base.specs.declared.entry.Params.{Params}
use Rattle.fam_base.specs.Image.{Image, line_at}
use Rattle.fam_base.proofs.ImageLemmas.{same_images}
use Rattle.fam_format.specs.declared.faults.LogField.TheVariants as field
use Rattle.fam_format.specs.declared.faults.LogFault.TheVariants.{BadLog}
use Rattle.fam_format.specs.declared.faults.Reason.{Reason}
use Rattle.fam_format.specs.Log.{gate_fault}
use Rattle.fam_format.specs.Reading as read
use Rattle.fam_format.specs.Reading.{gate_in, joined_or, read_below, read_log, read_slots, read_super, reading, reading_of, slot_or}
use Rattle.fam_rules.specs.Asks.{File, entries_of}
use Rattle.fam_rules.specs.Place.{line_bytes}
use Rattle.fam_rules.proofs.TornHead.{none_there}
use Rattle.fam_protocol.specs.Core.{Core, EntryStands, System}
use Rattle.fam_protocol.specs.SharedState.{SharedState}
use Rattle.fam_protocol.specs.Invariant.{Hosts, Invariant}
use Rattle.fam_protocol.proofs.Settled.Lists.{entries_more, some_at}
use Rattle.fam_journal.specs.Ends.{ReadsAs}
use Rattle.fam_journal.specs.View.{WorldView}
use Rattle.fam_journal.specs.Kept.{Agrees, IfHalted, hosts_of, shared_of, settled_of}
use Rattle.fam_journal.specs.Machines.{Machines}
use Rattle.fam_journal.specs.Past as past
use Rattle.fam_journal.specs.Past.{Damage, FewLines, Given, Halted, State, Bad, Sound, past_of, with_pending}
use Rattle.fam_journal.proofs.Settled.BadStates.{bad_image}
use Rattle.fam_journal.proofs.Settled.Settles.{prefix-pending, length-pending, take_whole}

-- the gate is within the slots
gate_passes : (gate : ℕ) (p : Params) → gate ≤ p.slots → gate_fault gate p ≡ None
gate_passes gate p within = go (nat_lt p.slots gate) refl
  where
    go : (t : Bool) → nat_lt p.slots gate ≡ t → (if t then Some (BadLog field.Gate gate p.slots) else None) ≡ None
    go true is = absurd (grind (arith, nat_tests))
    go false is = refl

module _ (sys : System) (s : SharedState) (all : List File) (settled : ℕ) (core : Core sys s all settled) where
  abbrev gate : ℕ
  gate = gate_in s.memory

  -- one slot below the gate reads as its entry, which joins those before it
  slot_reads : (i k : ℕ) → i + suc k ≤ gate → (f : File) → slice_get all i ≡ Some f
      → read_slots s.memory sys.params i (suc k) (entries_of (take i all)) ≡ read_slots s.memory sys.params (i + 1) k (entries_of (take (i + 1) all))
  slot_reads i k below f is =
      let stands : EntryStands sys.params s.memory i f = core.stands i f is (omega (arith, below, core.order)) in
      ap (λ (r : Result Entry Reason). slot_or sys.params (entries_of (take i all)) i r (λ e. read_slots s.memory sys.params (i + 1) k (entries_of (take i all) ++ e ∷ []))) stands.slot
      ∙ ap (λ (o : Option Reason). joined_or i o (read_slots s.memory sys.params (i + 1) k (entries_of (take i all) ++ f.entry ∷ []))) (core.history i f is).joins
      ∙ ap (read_slots s.memory sys.params (i + 1) k) (sym (entries_more all i f is))

  slots_read : (k i : ℕ) → i + k ≤ gate → read_slots s.memory sys.params i k (entries_of (take i all)) ≡ read.Sound sys.params (entries_of (take (i + k) all))
  slots_read zero i below = ap (λ (n : ℕ). read.Sound sys.params (entries_of (take n all))) (omega arith)
  slots_read (suc k) i below =
      let at = some_at all i (omega (arith, below, core.order, core.high)) in
      slot_reads i k below at.0 at.1 ∙ slots_read k (i + 1) (omega (arith, below)) ∙ ap (λ (n : ℕ). read.Sound sys.params (entries_of (take n all))) (omega arith)

  -- memory reads as the entries that its gate counts
  pub core_reads : reading_of s.memory sys.have ≡ read.Sound sys.params (entries_of (take gate all))
  unfolding reading_of
  core_reads =
      ap (read_super s.memory) core.head.super
      ∙ ap (read_log s.memory sys.params) core.head.header
      ∙ ap (read_below s.memory sys.params) (gate_passes gate sys.params (omega (arith, core.order, core.high, core.room)))
      ∙ slots_read gate 0 (omega arith)
      ∙ ap (λ (n : ℕ). read.Sound sys.params (entries_of (take n all))) (omega arith)

module _ (start : Image) (state : Machines) (world : WorldView) (image : Image) (held : Agrees start state world image) where
  -- the same lines are the same image
  same_as_first : ((l : ℕ) → line_at image l ≡ line_at start l) → image ≡ start
  same_as_first lines = same_images image start held.normal held.first held.lines (λ l within. lines l)

  by_gate : (p : Params) (history : List File) (pending : Option File) (g : ℕ) → length history ≤ g → g ≤ length (with_pending history pending)
      → reading image ≡ read.Sound p (entries_of (take g (with_pending history pending))) → ReadsAs (Sound p history pending) image
  by_gate p history None g low high is =
      inl (is ∙ ap (λ (l : List File). read.Sound p (entries_of l)) (ap (λ (n : ℕ). take n history) (omega (arith, low, high)) ∙ take_whole history))
  by_gate p history (Some f) g low high is = by_test (nat_lt (length history) g) refl
    where
      by_test : (t : Bool) → nat_lt (length history) g ≡ t → ReadsAs (Sound p history (Some f)) image
      by_test true more =
          let same : g ≡ length (history ++ f ∷ []) = grind (arith, nat_tests, low, high, length-pending history f) in
          inr (is ∙ ap (λ (l : List File). read.Sound p (entries_of l)) (ap (λ (n : ℕ). take n (history ++ f ∷ [])) same ∙ take_whole (history ++ f ∷ [])))
      by_test false less =
          let same : g ≡ length history = grind (arith, nat_tests, low) in
          inl (is ∙ ap (λ (l : List File). read.Sound p (entries_of l)) (ap (λ (n : ℕ). take n (history ++ f ∷ [])) same ∙ prefix-pending history (Some f)))

  same_as_own : (own : Image) → own ≡ start → ((l : ℕ) → line_at image l ≡ line_at own l) → image ≡ own
  same_as_own own e lines = same_as_first (λ l. lines l ∙ ap (λ (x : Image). line_at x l) e) ∙ sym e

  by_state : (s : State) (hosts : Hosts) → ((own : Image) (d : Damage) (g : ℕ) → s ≡ Bad (Given own) d g → own ≡ start) → IfHalted s (line_at image)
      → Invariant (settled_of s (line_at image)) (length start) hosts (shared_of image world.hosts) → ReadsAs s image
  by_state (Bad (Given own) (FewLines lines) g) hosts first halted invariant = same_as_own own (first own (FewLines lines) g refl) invariant.stage.memory
  by_state (Bad (Given own) (past.NoSuperblock fault) g) hosts first halted invariant = same_as_own own (first own (past.NoSuperblock fault) g refl) invariant.stage.still.memory
  by_state (Bad (Given own) (past.BadHeader fault) g) hosts first halted invariant = same_as_own own (first own (past.BadHeader fault) g refl) invariant.stage.still.memory
  by_state (Bad (Given own) (past.BadSlot i reason) g) hosts first halted invariant = same_as_own own (first own (past.BadSlot i reason) g refl) invariant.stage.still.memory
  by_state (Bad Halted damage g) hosts first halted invariant = none_there image halted.word
  by_state (Sound p history pending) hosts first halted invariant =
      let sys : System = record { params = p; have = line_bytes * length start; uuid = hosts.uuid; master = invariant.stage.master } in
      let core : Core sys (shared_of image world.hosts) (with_pending history pending) (length history) = invariant.stage.core in
      by_gate p history pending (gate_in (line_at image)) core.low (omega (arith, core.order, core.high))
      (ap (λ (n : ℕ). reading_of (line_at image) (64 * n)) held.lines ∙ core_reads sys (shared_of image world.hosts) (with_pending history pending) (length history) core)

  -- the image reads as what the journal settles
  pub held_reads : ReadsAs (past_of start world.journal).state image
  held_reads = by_state (past_of start world.journal).state (hosts_of world.hosts (past_of start world.journal).hosts) (λ own d g e. bad_image start own d g world.journal e) held.halted held.invariant
