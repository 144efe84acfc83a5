-- What a note or an answer of one host changes of the history, and what another host's task knows of it.
use Rattle.std.proofs.Common.{ℕ, ◌≤◌, ◌≡◌, ◌≢◌, inl, inr, List, take, max, min, refl, sym, ◌∙◌, ap, arith}
use Rattle.std.specs.Prelude.{Some, Option}
use Rattle.std.proofs.lemmas.Option.{same_Some}
use Rattle.fam_base.specs.declared.cmd.Cmd.{Cmd}
use Rattle.fam_base.specs.declared.cmd.Cmd.TheVariants.{Check, Fsck}
use Rattle.fam_format.specs.Layout.{gate_line}
use Rattle.fam_commands.specs.declared.phase.Part.{Part}
use Rattle.fam_commands.specs.declared.phase.Part.TheVariants.{Superblock, Header, Slot, File as FileLines}
use Rattle.fam_commands.specs.declared.phase.Phase.{Phase}
use Rattle.fam_commands.specs.declared.phase.Phase.TheVariants as at
use Rattle.fam_commands.specs.Task.{Task}
use Rattle.fam_commands.specs.Turns.{slots_read}
use Rattle.fam_rules.specs.Asks.{File, entries_of, file_at}
use Rattle.fam_protocol.specs.SharedState.{SharedState}
use Rattle.fam_protocol.specs.Lines.{gate_of}
use Rattle.fam_protocol.specs.Core.{System, Core, top_of}
use Rattle.fam_protocol.specs.Tasks.{AtPhase, HasRead, HasReadAll, HasSurveyed, IsAtSlot, IsWriting, KnowsGate, KnowsHead, OnPart, ReadsFile, TaskHolds}
use Rattle.fam_protocol.specs.After.{Changes, Relists}
use Rattle.fam_protocol.proofs.Settled.Settle.{get_alike}
use Rattle.fam_protocol.proofs.Lines.Floors.{at_least_more}

module _ (sys : System) (s : SharedState) (all : List File) (settled : ℕ) (core : Core sys s all settled) where
  -- an answer shows m entries, all of them published
  module _ (m : ℕ) (shared : m ≤ gate_of (s.memory gate_line)) (h : ℕ) (floor : Option ℕ) (t : Task) where
    gate_raised : KnowsGate h floor t s all settled → KnowsGate h floor t s all (max settled m)
    gate_raised g = record {
      low = g.low;
      high = g.high;
      writer = λ w is. let was = g.writer w is in (omega (arith, was.0, was.1, shared, core.order, core.high), was.1);
    }

    all_raised : HasReadAll h floor t s all settled → HasReadAll h floor t s all (max settled m)
    all_raised r = record { gate = gate_raised r.gate; read = r.read }

    slot_raised : (i : ℕ) → IsAtSlot i h floor t s all settled → IsAtSlot i h floor t s all (max settled m)
    slot_raised i r = record { gate = gate_raised r.gate; below = r.below; read = r.read }

    on_raised : (part : Part) (j : ℕ) → OnPart part j sys h floor t s all settled → OnPart part j sys h floor t s all (max settled m)
    on_raised Superblock j on = on
    on_raised Header j on = on
    on_raised (Slot i) j on = (on.0, slot_raised i on.1)
    on_raised FileLines j on = (on.0, record { all_read = all_raised on.1.all_read; file = on.1.file })

    writing_raised : IsWriting sys h t s all settled → IsWriting sys h t s all (max settled m)
    writing_raised w = record {
      master = w.master;
      params = w.params;
      settled_is = omega (arith, w.settled_is, w.unpublished, shared, core.order);
      pending = w.pending;
      unpublished = w.unpublished;
      file = w.file;
      last = w.last;
      entry = w.entry;
      bytes = w.bytes;
      content = w.content;
      words = w.words;
    }

    phase_raised : (p : Phase) → AtPhase p sys h floor t s all settled → AtPhase p sys h floor t s all (max settled m)
    unfolding writing_raised
    phase_raised (at.Drop part j) k = (on_raised part j k.0, k.1, k.2)
    phase_raised (at.Word part j i) k = (on_raised part j k.0, k.1, k.2, k.3)
    phase_raised at.Gate k = (k.0, k.1, k.2, record { low = at_least_more floor settled (max settled m) (omega arith) k.3.low; copy = k.3.copy; masters = k.3.masters })
    phase_raised (at.Check i) k = (k.0, slot_raised i k.1, k.2)
    phase_raised at.Decide k = (k.0, all_raised k.1)
    phase_raised (at.StoreData j i) k = (k.0, record { writing = writing_raised k.1.writing; line = k.1.line; before = k.1.before; here = k.1.here })
    phase_raised (at.SendData j) k = record { writing = writing_raised k.writing; line = k.line; before = k.before; here = k.here }
    phase_raised (at.StoreSlot j i) k = (k.0, record { writing = writing_raised k.1.writing; line = k.1.line; contents = k.1.contents; before = k.1.before; here = k.1.here })
    phase_raised (at.SendSlot j) k = record { writing = writing_raised k.writing; line = k.line; contents = k.contents; before = k.before; here = k.here }
    phase_raised at.StoreGate k = record { writing = writing_raised k.writing; contents = k.contents; slot = k.slot }
    phase_raised at.FenceSlot k = record { writing = writing_raised k.writing; contents = k.contents; slot = k.slot }
    phase_raised e k = k

    pub task_raised : TaskHolds sys h floor t s all settled → TaskHolds sys h floor t s all (max settled m)
    task_raised holds = record { command = holds.command; me = holds.me; lines = holds.lines; phase = phase_raised t.phase holds.phase }

  -- the master changes the list past the top, and host h isn't the master
  module _ (all' : List File) (settled' : ℕ) (r : Relists sys s all settled all' settled') (master : ℕ) (is : sys.master ≡ Some master) (h : ℕ) (floor : Option ℕ) (ne : h ≢ master) (t : Task) where
    other : sys.master ≡ Some h → ⊥
    other e = ne (same_Some _ _ (sym e ∙ is))

    gate_relisted : KnowsHead sys h t → KnowsGate h floor t s all settled → KnowsGate h floor t s all' settled'
    gate_relisted head g = record { low = g.low; high = g.high; writer = λ w e. absurd (other (head.master w e)) }

    -- the entries that it read stay
    read_relisted : (i : ℕ) → t.gate ≤ top_of sys s → i ≤ slots_read t → HasRead t.cmd i t all → HasRead t.cmd i t all'
    read_relisted i low fits read = go t.cmd refl read
      where
        surveyed : HasSurveyed i t.gate t.survey all → HasSurveyed i t.gate t.survey all'
        surveyed v =
            let prefix = r.alike (min i t.gate) (omega (arith, low)) in
            record { found = rw prefix v.found; applied = rw prefix v.applied; bad = v.bad; past = v.past }

        played : i ≤ t.gate → t.entries ≡ entries_of (take i all) → t.entries ≡ entries_of (take i all')
        played le v = rw (r.alike i (omega (arith, low, le))) v

        below : slots_read t ≡ t.gate → i ≤ t.gate
        below n = omega (arith, n, fits)

        go : (c : Cmd) → t.cmd ≡ c → HasRead c i t all → HasRead c i t all'
        go Fsck e v = surveyed v
        go c e v = played (below (rw e refl)) v

    low_gate : KnowsGate h floor t s all settled → t.gate ≤ top_of sys s
    low_gate g = omega (arith, g.high, core.order)

    all_relisted : KnowsHead sys h t → HasReadAll h floor t s all settled → HasReadAll h floor t s all' settled'
    all_relisted head v = record { gate = gate_relisted head v.gate; read = read_relisted (slots_read t) (low_gate v.gate) (omega arith) v.read }

    slot_relisted : (i : ℕ) → KnowsHead sys h t → IsAtSlot i h floor t s all settled → IsAtSlot i h floor t s all' settled'
    slot_relisted i head v = record { gate = gate_relisted head v.gate; below = v.below; read = read_relisted i (low_gate v.gate) (omega (arith, v.below)) v.read }

    file_relisted : (j : ℕ) → t.gate ≤ top_of sys s → ReadsFile t all j → ReadsFile t all' j
    file_relisted j low f = record {
      file = f.file;
      i = f.i;
      is = get_alike f.i t.gate all' all f.file f.below (sym (r.alike t.gate low)) f.is;
      below = f.below;
      entry = f.entry;
      path = f.path;
      wanted = f.wanted;
      found = ap (λ (l : List File). file_at l f.path) (r.alike t.gate low) ∙ f.found;
      kind = f.kind;
      sized = f.sized;
      same = f.same;
    }

    on_relisted : (part : Part) (j : ℕ) → OnPart part j sys h floor t s all settled → OnPart part j sys h floor t s all' settled'
    on_relisted Superblock j on = on
    on_relisted Header j on = on
    on_relisted (Slot i) j on = (on.0, slot_relisted i on.0 on.1)
    on_relisted FileLines j on = (on.0, record { all_read = all_relisted on.0 on.1.all_read; file = file_relisted j (low_gate on.1.all_read.gate) on.1.file })

    phase_relisted : (p : Phase) → AtPhase p sys h floor t s all settled → AtPhase p sys h floor t s all' settled'
    phase_relisted at.DropMagic k = k
    phase_relisted at.Magic k = k
    phase_relisted (at.Drop part j) k = (on_relisted part j k.0, k.1, k.2)
    phase_relisted (at.Word part j i) k = (on_relisted part j k.0, k.1, k.2, k.3)
    phase_relisted at.DropGate k = k
    phase_relisted at.Gate k = (k.0, k.1, k.2, record { low = at_least_more floor settled settled' r.up k.3.low; copy = k.3.copy; masters = k.3.masters })
    phase_relisted (at.Check i) k = (k.0, slot_relisted i k.0 k.1, k.2)
    phase_relisted at.Decide k = (k.0, all_relisted k.0 k.1)
    phase_relisted (at.StoreData j i) k = absurd (other k.1.writing.master)
    phase_relisted (at.StoreSlot j i) k = absurd (other k.1.writing.master)
    phase_relisted at.SendGate k = absurd (other k.master)
    phase_relisted at.FenceGate k = absurd (other k.0.master)
    phase_relisted e k = absurd (other k.writing.master)

    pub task_relisted : TaskHolds sys h floor t s all settled → TaskHolds sys h floor t s all' settled'
    task_relisted holds = record { command = holds.command; me = holds.me; lines = holds.lines; phase = phase_relisted t.phase holds.phase }

  -- another host's task after a host's note or answer
  pub task_resettled : (host h : ℕ) (floor : Option ℕ) (t : Task) (all' : List File) (settled' : ℕ) → h ≢ host
      → Changes sys host s all settled all' settled' → TaskHolds sys h floor t s all settled → TaskHolds sys h floor t s all' settled'
  task_resettled host h floor t all' settled' ne (inl c) holds = task_relisted all' settled' c.1 host c.0 h floor ne t holds
  task_resettled host h floor t all' settled' ne (inr c) holds = rw (c.same, c.is) (task_raised c.m c.shared h floor t holds)
