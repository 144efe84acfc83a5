-- A store of the master's task into a line of the entry that it appends, while the gate doesn't count it.
use Rattle.std.proofs.Common.{ℕ, zero, suc, ◌+◌, ◌-◌, ◌*◌, ◌≤◌, ◌<◌, ◌≡◌, ◌≢◌, ◌⊎◌, inl, inr, List, [], ◌∷◌, ◌++◌, length, take, drop, refl, sym, ◌∙◌, ap, subst, arith, add-one}
use Rattle.std.specs.Prelude.{slice_get, slice_index, Option, Some, None}
use Rattle.std.proofs.Math.Seq.{take-suc, take-suc-set}
use Rattle.std.proofs.lemmas.List.{get_or-drop, get_or-take, take_all, length-set, length-drop, length-take-le}
use Rattle.std.proofs.lemmas.Option.{same_Some}
use Rattle.fam_format.specs.Layout.{gate_line, log_line}
use Rattle.fam_machine.specs.declared.cell.Cell.{Cell}
use Rattle.fam_machine.specs.declared.cell.Cell.TheVariants.{Absent, Clean, Dirty}
use Rattle.fam_machine.specs.OneLine.{IsDirty, current, sent, stored}
use Rattle.fam_commands.specs.Task.{Task}
use Rattle.fam_rules.specs.Asks.{File}
use Rattle.fam_rules.specs.Written.{slot_part}
use Rattle.fam_protocol.specs.SharedState.{SharedState, LeavesAt}
use Rattle.fam_protocol.specs.Lines.{Asked, Holding, Finished, gate_of, top}
use Rattle.fam_protocol.specs.Core.{System, Core, IsWide, IsHeadLine, IsEntryLine, masters_copy, top_of}
use Rattle.fam_protocol.specs.Tasks.{IsWriting}
use Rattle.fam_protocol.proofs.Lines.Apart.{lines_apart, no_gate, no_head}
use Rattle.fam_protocol.proofs.Lines.Free.{Same, same, stands_same}
use Rattle.fam_protocol.proofs.Lines.Keeping.{Keeps}

-- At one line.

-- the words that were stored before stand in what the writer reads
pub stored_before : (k : ℕ) (wanted m : List ℕ) (c : Cell) → Holding k wanted m c → take k (current m c) ≡ take k wanted
stored_before zero wanted m c h = refl
stored_before (suc k) wanted m Absent h = h
stored_before (suc k) wanted m (Clean w) h = ap (λ (l : List ℕ). take (suc k) l) h.0 ∙ h.1
stored_before (suc k) wanted m (Dirty a w) h = h

-- one word more is stored
pub holding_more : (k : ℕ) (wanted m : List ℕ) (c : Cell) → k < 8 → length wanted ≡ 8 → length (current m c) ≡ 8 → Holding k wanted m c → Holding (k + 1) wanted m (stored k (slice_index wanted k) m c)
holding_more k wanted m c lt long wide h =
    subst (λ (n : ℕ). Holding n wanted m (stored k (slice_index wanted k) m c)) (sym (add-one k))
    (take-suc-set (current m c) k (slice_index wanted k) (omega (arith, wide)) ∙ ap (λ (l : List ℕ). l ++ slice_index wanted k ∷ [])
    (stored_before k wanted m c h) ∙ sym (take-suc wanted k 0 (omega (arith, long))))

-- all words are stored, and the line is sent
pub sent_whole : (wanted m : List ℕ) (c : Cell) → length wanted ≡ 8 → length m ≡ 8 → length (current m c) ≡ 8 → Holding 8 wanted m c → sent m c ≡ wanted
sent_whole wanted m Absent long wide held h = sym (take_all 8 m (omega (arith, wide))) ∙ h ∙ take_all 8 wanted (omega (arith, long))
sent_whole wanted m (Clean w) long wide held h = sym (take_all 8 m (omega (arith, wide))) ∙ h.1 ∙ take_all 8 wanted (omega (arith, long))
sent_whole wanted m (Dirty a w) long wide held h = sym (take_all 8 w (omega (arith, held))) ∙ h ∙ take_all 8 wanted (omega (arith, long))

-- a line of a slot's words
pub part_word : (words : List ℕ) (j k : ℕ) → k < 8 → slice_index (slot_part words j) k ≡ slice_index words (8 * j + k)
part_word words j k lt =
    get_or-take (8 * j + 8 - 8 * j) (drop (8 * j) words) k 0 (omega (arith, lt)) ∙ get_or-drop (8 * j) words k 0

-- a line of a slot has eight words
pub part_length : (words : List ℕ) (j : ℕ) → 8 * j + 8 ≤ length words → length (slot_part words j) ≡ 8
part_length words j le =
    length-take-le (8 * j + 8 - 8 * j) (drop (8 * j) words) (omega (arith, length-drop (8 * j) words, le)) ∙ omega arith

-- A host's store into a line.

module _ (host line word value : ℕ) (s s' : SharedState) (wide : IsWide s) (done : LeavesAt host line s s' (s.memory line) (stored word value (s.memory line) (s.copy host line))) where
  -- memory stays
  pub store_memory : (l : ℕ) → s'.memory l ≡ s.memory l
  store_memory l = go (same l line)
    where
      go : Same l line → s'.memory l ≡ s.memory l
      go (inl e) = rw e done.memory_is
      go (inr ne) = done.only.memory l ne

  -- so do all other copies
  pub store_copies : (h l : ℕ) → (h ≢ host) ⊎ (l ≢ line) → s'.copy h l ≡ s.copy h l
  store_copies h l (inl ne) = done.only.hosts h l ne
  store_copies h l (inr ne) = done.only.lines h l ne

  -- what is dirty was dirty before, or is the line of this store
  pub store_dirties : (h l : ℕ) → IsDirty (s'.copy h l) → IsDirty (s.copy h l) ⊎ ((h ≡ host) × (l ≡ line))
  store_dirties h l d = go (same h host) (same l line)
    where
      go : Same h host → Same l line → IsDirty (s.copy h l) ⊎ ((h ≡ host) × (l ≡ line))
      go (inr ne) which = inl (subst IsDirty (done.only.hosts h l ne) d)
      go (inl e) (inr ne) = inl (subst IsDirty (done.only.lines h l ne) d)
      go (inl e) (inl f) = inr (e, f)

  -- lines stay wide
  pub store_wide : IsWide s'
  store_wide = record { memory = λ l. ap length (store_memory l) ∙ wide.memory l; copies = λ h l. go h l (same h host) (same l line) }
    where
      held : (h l : ℕ) → s'.copy h l ≡ s.copy h l → length (current (s'.memory l) (s'.copy h l)) ≡ 8
      held h l e = rw (e, store_memory l) (wide.copies h l)

      go : (h l : ℕ) → Same h host → Same l line → length (current (s'.memory l) (s'.copy h l)) ≡ 8
      go h l (inr ne) which = held h l (store_copies h l (inl ne))
      go h l (inl e) (inr ne) = held h l (store_copies h l (inr ne))
      go h l (inl e) (inl f) = rw (e, f, done.copy_is) (length-set (current (s.memory line) (s.copy host line)) word value ∙ wide.copies host line)

  -- another host's task rests on nothing that the master's store changes
  pub stored_keeps : (sys : System) (settled : ℕ) → sys.master ≡ Some host → (h : ℕ) → h ≢ host → Keeps sys h settled s s'
  stored_keeps sys settled master h ne = record {
    quiet = λ l q. store_memory l;
    fresh = λ l q f. rw (store_memory l, store_copies h l (inl ne)) f;
    gate = omega (arith, ap gate_of (store_memory gate_line));
    at_gate = λ floor g. record {
      low = g.low;
      copy = rw (store_memory gate_line, store_copies h gate_line (inl ne)) g.copy;
      masters = λ is. absurd (ne (same_Some _ _ (sym is ∙ master)));
    };
    writing = λ is. absurd (ne (same_Some _ _ (sym is ∙ master)));
  }

module _ (sys : System) (s s' : SharedState) (all : List File) (settled : ℕ) (core : Core sys s all settled) (host : ℕ) (t : Task) (w : IsWriting sys host t s all settled)
    (line word value : ℕ) (of : IsEntryLine sys.params t.gate w.file.entry line) (done : LeavesAt host line s s' (s.memory line) (stored word value (s.memory line) (s.copy host line))) where
  not_gate : gate_line ≢ line
  not_gate e = no_gate sys.params all core.head.sound core.history core.room t.gate line w.file w.last of (sym e)

  -- memory and all other copies stay
  memory_same : (l : ℕ) → s'.memory l ≡ s.memory l
  memory_same = store_memory host line word value s s' core.wide done

  copy_same : (h l : ℕ) → (h ≢ host) ⊎ (l ≢ line) → s'.copy h l ≡ s.copy h l
  copy_same = store_copies host line word value s s' core.wide done

  -- so does the larger of the two gates
  pub top_same : top_of sys s' ≡ top_of sys s
  top_same = go sys.master
    where
      go : (o : Option ℕ) → top (s'.memory gate_line) (masters_copy o s' gate_line) ≡ top (s.memory gate_line) (masters_copy o s gate_line)
      go None = ap gate_of (memory_same gate_line)
      go (Some h) = rw (memory_same gate_line, copy_same h gate_line (inr not_gate)) refl

  -- a store into a line that nobody reads keeps memory and caches as they may be
  pub core_stored : Core sys s' all settled
  core_stored =
      let m0 = ap gate_of (memory_same gate_line) in
      record {
        wide = store_wide host line word value s s' core.wide done;
        head = record {
          sound = core.head.sound;
          device = core.head.device;
          super = rw (memory_same 0, memory_same 1, memory_same 2) core.head.super;
          header = rw (memory_same log_line) core.head.header;
          clean = λ h l is d. head_clean h l is (store_dirties host line word value s s' core.wide done h l d);
        };
        named = core.named;
        only_master = λ h l d. masters h l (store_dirties host line word value s s' core.wide done h l d);
        low = omega (arith, core.low, m0);
        order = omega (arith, core.order, top_same, m0);
        high = omega (arith, core.high, top_same);
        near = core.near;
        room = core.room;
        history = core.history;
        stands = λ i f is lt. stands_same s.memory s'.memory sys.params i f (λ l _. memory_same l) (core.stands i f is (omega (arith, lt, top_same)));
        clean = λ i f h l is lt of_i d. below i f h l is (omega (arith, lt, top_same)) of_i (store_dirties host line word value s s' core.wide done h l d);
      }
    where
      head_clean : (h l : ℕ) → IsHeadLine l → IsDirty (s.copy h l) ⊎ ((h ≡ host) × (l ≡ line)) → ⊥
      head_clean h l is (inl d) = core.head.clean h l is d
      head_clean h l is (inr e) = no_head sys.params all core.head.sound core.history core.room t.gate line w.file w.last of (subst IsHeadLine e.1 is)

      masters : (h l : ℕ) → IsDirty (s.copy h l) ⊎ ((h ≡ host) × (l ≡ line)) → sys.master ≡ Some h
      masters h l (inl d) = core.only_master h l d
      masters h l (inr e) = w.master ∙ ap (λ (x : ℕ). Some x) (sym e.0)

      below : (i : ℕ) (f : File) (h l : ℕ) → slice_get all i ≡ Some f → i < top_of sys s → IsEntryLine sys.params i f.entry l → IsDirty (s.copy h l) ⊎ ((h ≡ host) × (l ≡ line)) → ⊥
      below i f h l is lt of_i (inl d) = core.clean i f h l is lt of_i d
      below i f h l is lt of_i (inr e) =
          let one = lines_apart sys.params all core.head.sound core.history core.room i t.gate line f w.file is w.last (subst (IsEntryLine sys.params i f.entry) e.1 of_i) of in
          omega (arith, one, lt, w.unpublished)

  -- another host's task rests on nothing that it changes
  pub store_keeps : (h : ℕ) → h ≢ host → Keeps sys h settled s s'
  store_keeps = stored_keeps host line word value s s' core.wide done sys settled w.master

  -- the writer's other lines stay
  pub finished_other : (wanted : List ℕ) (l : ℕ) → l ≢ line → Finished wanted (s.memory l) (s.copy host l) → Finished wanted (s'.memory l) (s'.copy host l)
  finished_other wanted l ne f = rw (memory_same l, copy_same host l (inr ne)) f

  pub asked_other : (wanted : List ℕ) (l : ℕ) → l ≢ line → Asked wanted (s.memory l) (s.copy host l) → Asked wanted (s'.memory l) (s'.copy host l)
  asked_other wanted l ne f =
      subst (λ (m : List ℕ). Asked wanted m (s'.copy host l)) (sym (memory_same l)) (subst (λ (c : Cell). Asked wanted (s.memory l) c) (sym (copy_same host l (inr ne))) f)

  -- its line holds one word more
  pub holding_here : (k : ℕ) (wanted : List ℕ) → word ≡ k → value ≡ slice_index wanted k → k < 8 → length wanted ≡ 8
      → Holding k wanted (s.memory line) (s.copy host line) → Holding (k + 1) wanted (s'.memory line) (s'.copy host line)
  holding_here k wanted is_k is_value lt long h =
      rw (done.memory_is, done.copy_is, is_k, is_value) (holding_more k wanted (s.memory line) (s.copy host line) lt long (core.wide.copies host line) h)

  unfoldable pub writing_stored : IsWriting sys host t s' all settled
  writing_stored = record {
    master = w.master;
    params = w.params;
    settled_is = w.settled_is;
    pending = w.pending;
    unpublished = top_same ∙ w.unpublished;
    file = w.file;
    last = w.last;
    entry = w.entry;
    bytes = w.bytes;
    content = w.content;
    words = w.words;
  }
