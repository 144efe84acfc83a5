-- The master's append in a scene, as its task does it: what the protocol keeps holds up to its answer.
use Rattle.std.proofs.Common.{ℕ, zero, suc, ◌≡◌, ◌≢◌, ◌⊎◌, inl, inr, ◌+◌, ◌-◌, ◌*◌, ◌<◌, ◌==◌, if◌then◌else◌, Bool, true, false, List, [], ◌∷◌, ◌++◌, length, take, Option, Some, None, Ok, refl, sym, ap, subst, ◌∙◌, arith}
use Rattle.std.specs.Prelude.{⊤, flat_map, nat_lt, option_map, slice_index}
use Rattle.std.specs.List.{range_with_len}
use Rattle.std.proofs.lemmas.Bool.{eq-eqb, ne_eqb}
use Rattle.std.proofs.lemmas.Bool.Decides.{nat_tests}
use Rattle.std.proofs.lemmas.List.{length-map, take_all}
use Rattle.fam_base.specs.declared.cmd.Cmd.{Cmd}
use Rattle.fam_base.specs.declared.cmd.Cmd.TheVariants.{Mkdir, Creat, Cp}
use Rattle.fam_base.specs.Image.{line_at}
use Rattle.fam_format.specs.Layout.{geometry, slot_line}
use Rattle.fam_format.specs.Slot.{spelling}
use Rattle.fam_format.proofs.Formats.{shape}
use Rattle.fam_machine.specs.declared.cell.Cell.TheVariants.{Absent}
use Rattle.fam_machine.specs.declared.op.Op.{Op}
use Rattle.fam_machine.specs.declared.op.Op.TheVariants.{Load, Store, WriteBack, Fence, Invalidate, Digest}
use Rattle.fam_commands.specs.declared.phase.Phase.{Phase}
use Rattle.fam_commands.specs.declared.phase.Phase.TheVariants as at
use Rattle.fam_commands.specs.Keeping.{kept_after}
use Rattle.fam_commands.specs.Stands.{turn_given}
use Rattle.fam_commands.specs.Table.{data_ops}
use Rattle.fam_machine.specs.Operations.{store_ops, line_no}
use Rattle.fam_commands.specs.Task.{Task, content_of, op_of}
use Rattle.fam_commands.specs.Turns.{Turn, Goes, Writes, Ends, append_turn, data_or_slot, first_store, slots_read, slot_or_fence}
use Rattle.fam_machine.proofs.Transferring.{absent_transfers}
use Rattle.fam_rules.specs.Asks.{File, entries_of}
use Rattle.fam_rules.specs.Content.{content_line}
use Rattle.fam_rules.specs.Decide.{Wish, decide_wish, wish_of}
use Rattle.fam_rules.specs.Place.{line_bytes}
use Rattle.fam_rules.specs.Reply.{Appended}
use Rattle.fam_rules.specs.Reports.{no_survey}
use Rattle.fam_rules.specs.Written.{file_line, lines_of, slot_part}
use Rattle.fam_protocol.specs.SharedState.{SharedState, Operates}
use Rattle.fam_protocol.specs.Core.{System}
use Rattle.fam_protocol.specs.Tasks.{HasRead, TaskHolds}
use Rattle.fam_protocol.specs.After.{HasNamed, Run, settled_after, IsMarked}
use Rattle.fam_protocol.specs.Events.{Declares}
use Rattle.fam_protocol.specs.Steps.{StepHolds, Steps, run_after, turn_settles}
use Rattle.fam_protocol.specs.Invariant.{Hosts, Known, Invariant, solo, held_file, no_hosts}
use Rattle.fam_refuted.specs.Refused.{Begins, RanSteps, Scene, ends, goes, moves, all_by, appends, fetches, history, next, old_history, writes_slot}
use Rattle.fam_protocol.proofs.Lines.Free.{transfers_at, Same, same}
use Rattle.fam_protocol.proofs.Hosts.Begins.{held_prefix}
use Rattle.fam_protocol.proofs.Hosts.Events.{invariant_declared}
use Rattle.fam_protocol.proofs.Hosts.Steps.{invariant_transferred, invariant_stepped}
use Rattle.fam_protocol.proofs.Lines.Stored.{part_word}
use Rattle.fam_refuted.proofs.Scenes.{read, scene_invariant}

-- a list is none that is longer
longer : (xs : List ℕ) → xs ≢ 0 ∷ xs
longer xs e = absurd (let long : length xs ≡ length (0 ∷ xs) = ap length e in omega arith)

-- the same task twice
same_run : {r q : Run} → Some r ≡ Some q → r ≡ q
same_run is = cc

-- drops alone
abbrev pub AreDrops : List Op → Type 0
AreDrops [] = ⊤
AreDrops (Invalidate l ∷ more) = AreDrops more
AreDrops (Load l k ∷ more) = ⊥
AreDrops (Store l k value ∷ more) = ⊥
AreDrops (WriteBack l ∷ more) = ⊥
AreDrops (Fence ∷ more) = ⊥
AreDrops (Digest ∷ more) = ⊥

-- of two lists
both_drops : (xs ys : List Op) → AreDrops xs → AreDrops ys → AreDrops (xs ++ ys)
both_drops [] ys a b = b
both_drops (Invalidate l ∷ more) ys a b = both_drops more ys a b
both_drops (Load l k ∷ more) ys a b = absurd a
both_drops (Store l k value ∷ more) ys a b = absurd a
both_drops (WriteBack l ∷ more) ys a b = absurd a
both_drops (Fence ∷ more) ys a b = absurd a
both_drops (Digest ∷ more) ys a b = absurd a

-- at each of some slots
pub all_drops : (f : ℕ → List Op) (from count : ℕ) → ((i : ℕ) → AreDrops (f i)) → AreDrops (flat_map f (range_with_len from count))
all_drops f from zero are = tt
all_drops f from (suc count) are = both_drops (f from) (flat_map f (range_with_len (from + 1) count)) (are from) (all_drops f (from + 1) count are)

module _ (c : Scene) where
  -- the two hosts
  abbrev pub uuid : ℕ → Option (List ℕ)
  uuid h = if h == c.master then Some c.params.master else if h == c.reader then Some (0 ∷ c.params.master) else None

  -- the master with a task, or with none
  abbrev pub with_run : Option Run → Hosts
  with_run r = record { uuid = uuid; run = λ h. if h == c.master then r else None; kept = λ h. None }

  -- the master alone
  abbrev one_host : Hosts
  one_host = record { uuid = λ h. if h == c.master then Some c.params.master else None; run = λ h. None; kept = λ h. None }

  -- both, before the master has a task
  abbrev two_hosts : Hosts
  two_hosts = record { uuid = uuid; run = λ h. None; kept = λ h. None }

  -- the master's task that has read all slots
  abbrev pub reading_task : Cmd → Task
  reading_task cmd = record {
    cmd = cmd;
    me = c.params.master;
    lines = length c.image;
    phase = at.Decide;
    params = c.params;
    kept = None;
    gate = next c;
    entries = c.entries;
    words = [];
    entry = None;
    survey = no_survey;
  }

  -- and the one that writes
  abbrev pub writing : Phase → Task
  writing q = record (reading_task c.cmd) { entry = Some c.entry; words = spelling (geometry c.params) c.entry (next c); phase = q }

  -- with what it named
  abbrev pub run_at : Phase → Run
  run_at q = record { task = writing q; floor = Some (next c); named = Some (record { seq = next c; entry = c.entry }) }

  -- it has named nothing before it decides
  abbrev deciding : Run
  deciding = record { task = reading_task c.cmd; floor = Some (next c); named = None }

  -- the task goes on from place to place by these operations
  pub data Along : List Op → Phase → Phase → Type 0 where
    stays : {q : Phase} → Along [] q q
    steps : {op : Op} {more : List Op} {q after end : Phase} → op_of (writing q) ≡ op
        → ((word : ℕ) → turn_given (writing q) word ≡ Goes (writing after)) → Along more after end → Along (op ∷ more) q end

  -- and by others behind them
  along_on : {xs ys : List Op} {a b d : Phase} → Along xs a b → Along ys b d → Along (xs ++ ys) a d
  along_on stays more = more
  along_on (steps is on rest) more = steps is on (along_on rest more)

  -- and ends with the last one
  pub data Answers : List Op → Phase → Type 0 where
    last : {op : Op} {q : Phase} → op_of (writing q) ≡ op → ((word : ℕ) → turn_given (writing q) word ≡ Ends (Appended (next c))) → Answers (op ∷ []) q
    first : {op : Op} {more : List Op} {q after : Phase} → op_of (writing q) ≡ op → ((word : ℕ) → turn_given (writing q) word ≡ Goes (writing after)) → Answers more after → Answers (op ∷ more) q

  -- some operations before
  answers_on : {xs ys : List Op} {a b : Phase} → Along xs a b → Answers ys b → Answers (xs ++ ys) a
  answers_on stays more = more
  answers_on (steps is on rest) more = first is on (answers_on rest more)

  -- the words of the new slot
  abbrev new_words : List ℕ
  new_words = spelling (geometry c.params) c.entry (next c)

  -- a line of the slot
  abbrev slot_line_ops : ℕ → List Op
  slot_line_ops j = store_ops (slot_line c.params (next c) j) (slot_part new_words j) ++ WriteBack (line_no (slot_line c.params (next c) j)) ∷ []

  -- a store of the task is the table's
  stored_word : (j k : ℕ) → k < 8 → op_of (writing (at.StoreSlot j k)) ≡ Store (line_no (slot_line c.params (next c) j)) k (slice_index (slot_part new_words j) k)
  stored_word j k lt = ap (Store (line_no (slot_line c.params (next c) j)) k) (sym (part_word new_words j k lt))

  -- the task stores and sends it
  along_line : (j : ℕ) → Along (slot_line_ops j) (at.StoreSlot j 0) (slot_or_fence (writing (at.SendSlot j)) j)
  along_line j =
      steps (stored_word j 0 (omega arith)) (λ word. refl)
      (steps (stored_word j 1 (omega arith)) (λ word. refl)
      (steps (stored_word j 2 (omega arith)) (λ word. refl)
      (steps (stored_word j 3 (omega arith)) (λ word. refl)
      (steps (stored_word j 4 (omega arith)) (λ word. refl)
      (steps (stored_word j 5 (omega arith)) (λ word. refl)
      (steps (stored_word j 6 (omega arith)) (λ word. refl) (steps (stored_word j 7 (omega arith)) (λ word. refl) (steps refl (λ word. refl) stays))))))))

  -- the lines from line j on
  along_slot_from : (count j : ℕ) → j + suc count ≡ (geometry c.params).lines → Along (flat_map slot_line_ops (range_with_len j (suc count))) (at.StoreSlot j 0) at.FenceSlot
  along_slot_from zero j is =
      let last : nat_lt (j + 1) (geometry c.params).lines ≡ false = grind (arith, nat_tests, is) in
      along_on (subst (λ (q : Phase). Along (slot_line_ops j) (at.StoreSlot j 0) q) (ap (λ (b : Bool). if b then at.StoreSlot (j + 1) 0 else at.FenceSlot) last) (along_line j)) stays
  along_slot_from (suc count) j is =
      let more : nat_lt (j + 1) (geometry c.params).lines ≡ true = grind (arith, nat_tests, is) in
      along_on (subst (λ (q : Phase). Along (slot_line_ops j) (at.StoreSlot j 0) q)
      (ap (λ (b : Bool). if b then at.StoreSlot (j + 1) 0 else at.FenceSlot) more) (along_line j))
      (along_slot_from count (j + 1) (omega (arith, is)))

  -- and all of them
  along_slot : Along (writes_slot c) (at.StoreSlot 0 0) at.FenceSlot
  along_slot =
      let some : suc ((geometry c.params).lines - 1) ≡ (geometry c.params).lines = omega (arith, (shape c.params).lines) in
      subst (λ (count : ℕ). Along (flat_map slot_line_ops (range_with_len 0 count)) (at.StoreSlot 0 0) at.FenceSlot) some (along_slot_from ((geometry c.params).lines - 1) 0 (omega (arith, some)))

  -- a line of the file
  abbrev data_line_ops : ℕ → List Op
  data_line_ops j = store_ops (file_line c.entry j) (content_line (content_of c.cmd) c.entry.size j) ++ Invalidate (line_no (file_line c.entry j)) ∷ []

  -- the task stores and sends it
  along_data_line : (j : ℕ) → Along (data_line_ops j) (at.StoreData j 0) (data_or_slot (writing (at.SendData j)) j)
  along_data_line j =
      steps refl (λ word. refl)
      (steps refl (λ word. refl)
      (steps refl (λ word. refl)
      (steps refl (λ word. refl)
      (steps refl (λ word. refl) (steps refl (λ word. refl) (steps refl (λ word. refl) (steps refl (λ word. refl) (steps refl (λ word. refl) stays))))))))

  -- the lines from line j on
  along_lines : (count j : ℕ) → j + suc count ≡ lines_of c.entry.size → Along (flat_map data_line_ops (range_with_len j (suc count))) (at.StoreData j 0) (at.StoreSlot 0 0)
  along_lines zero j is =
      let last : nat_lt (j + 1) (lines_of c.entry.size) ≡ false = grind (arith, nat_tests, is) in
      along_on (subst (λ (q : Phase). Along (data_line_ops j) (at.StoreData j 0) q) (ap (λ (b : Bool). if b then at.StoreData (j + 1) 0 else at.StoreSlot 0 0) last) (along_data_line j)) stays
  along_lines (suc count) j is =
      let more : nat_lt (j + 1) (lines_of c.entry.size) ≡ true = grind (arith, nat_tests, is) in
      along_on (subst (λ (q : Phase). Along (data_line_ops j) (at.StoreData j 0) q)
      (ap (λ (b : Bool). if b then at.StoreData (j + 1) 0 else at.StoreSlot 0 0) more) (along_data_line j))
      (along_lines count (j + 1) (omega (arith, is)))

  -- a file of no bytes has none
  along_data_by : (size count : ℕ) (b : Bool) → (size == 0) ≡ b → c.entry.size ≡ size → lines_of c.entry.size ≡ count
      → Along (flat_map data_line_ops (range_with_len 0 count)) (if b then at.StoreSlot 0 0 else at.StoreData 0 0) (at.StoreSlot 0 0)
  along_data_by size zero true none is lines = stays
  along_data_by size zero false none is lines = absurd (let some : 0 < size = grind (arith, nat_tests) in omega (arith, is, lines))
  along_data_by size (suc count) true none is lines = absurd (let nothing : size ≡ 0 = grind (arith, nat_tests) in omega (arith, is, lines))
  along_data_by size (suc count) false none is lines = along_lines count 0 (omega (arith, lines))

  -- the whole file
  along_data : Along (data_ops c.entry (content_of c.cmd)) (first_store c.entry.size) (at.StoreSlot 0 0)
  along_data = along_data_by c.entry.size (lines_of c.entry.size) (c.entry.size == 0) refl refl refl

  -- file, slot and gate, and the answer
  pub appends_answers : Answers (appends c) (first_store c.entry.size)
  appends_answers = answers_on (along_on along_data along_slot) (first refl (λ word. refl) (first refl (λ word. refl) (first refl (λ word. refl) (last refl (λ word. refl)))))

  module _ (scene : Begins c) where
    -- The two hosts are declared.

    pub master_is : uuid c.master ≡ Some c.params.master
    master_is = rw (eq-eqb c.master c.master refl) refl

    reader_other : c.reader ≢ c.master
    reader_other e = scene.hosts (sym e)

    pub reader_is : uuid c.reader ≡ Some (0 ∷ c.params.master)
    reader_is = rw (ne_eqb c.reader c.master reader_other, eq-eqb c.reader c.reader refl) refl

    declares_master : Declares c.master c.params.master no_hosts one_host
    declares_master = record {
      fresh = refl;
      solo = λ h e. absurd (cc);
      is = rw (eq-eqb c.master c.master refl) refl;
      uuids = λ h ne. rw (ne_eqb h c.master ne) refl;
      runs = λ h. refl;
      kept = λ h. refl;
    }

    other_id : (b : Bool) → (if b then Some c.params.master else None) ≢ Some (0 ∷ c.params.master)
    other_id true e = longer c.params.master (let same : Some c.params.master ≡ Some (0 ∷ c.params.master) = e in cc)
    other_id false e = absurd (cc)

    declares_reader : Declares c.reader (0 ∷ c.params.master) one_host two_hosts
    declares_reader = record {
      fresh = rw (ne_eqb c.reader c.master reader_other) refl;
      solo = λ h. other_id (h == c.master);
      is = reader_is;
      uuids = λ h ne. rw (ne_eqb h c.reader ne) refl;
      runs = λ h. refl;
      kept = λ h. refl;
    }

    -- what the protocol keeps holds while none of them has a task
    invariant_idle : Invariant (Known c.params (old_history c) (next c)) (length c.image) two_hosts (solo c.image)
    invariant_idle =
        invariant_declared _ (length c.image) c.reader (0 ∷ c.params.master) one_host two_hosts (solo c.image)
        (invariant_declared _ (length c.image) c.master c.params.master no_hosts one_host (solo c.image) (scene_invariant c scene) declares_master) declares_reader

    -- who has a task
    runs_is : (r q : Option Run) (h : ℕ) → (with_run r).run h ≡ q → Same h c.master → ((h ≡ c.master) × (r ≡ q)) ⊎ ((h ≢ c.master) × (q ≡ None))
    runs_is r q h is (inl e) = inl (e, let at : (with_run r).run h ≡ r = rw (eq-eqb h c.master e) refl in sym at ∙ is)
    runs_is r q h is (inr ne) = inr (ne, let at : (with_run r).run h ≡ None = rw (ne_eqb h c.master ne) refl in sym is ∙ at)

    -- the image's entries are those of the history
    read_all : c.entries ≡ entries_of (take (next c) (old_history c))
    read_all = sym (held_prefix (line_at c.image) (next c) c.entries ∙ take_all (next c) c.entries (omega arith))

    -- a command that appends has read them
    has_read : (cmd : Cmd) (w : Wish) → wish_of cmd ≡ Some w → HasRead cmd (slots_read (reading_task cmd)) (reading_task cmd) (old_history c)
    has_read (Mkdir path attr) w is = read_all
    has_read (Creat path size attr stripe fill) w is = read_all
    has_read (Cp path attr stripe bytes) w is = read_all
    has_read other w is = absurd (cc)

    -- the command appends
    has_wish : (o : Option Wish) → wish_of c.cmd ≡ o → (w : Wish) × (wish_of c.cmd ≡ Some w) × (decide_wish c.params c.params.master c.entries w ≡ Ok c.entry)
    has_wish None is = absurd (let none = ap (option_map (decide_wish c.params c.params.master c.entries)) is in let some = scene.decided in cc)
    has_wish (Some w) is = (w, is, let here = ap (option_map (decide_wish c.params c.params.master c.entries)) is in let some = scene.decided in cc)

    -- the file system, with its master
    system : Option ℕ → System
    system master = record { params = c.params; have = line_bytes * length c.image; uuid = uuid; master = master }

    -- what the task rests on
    task_holds : TaskHolds (system invariant_idle.stage.master) c.master (Some (next c)) (reading_task c.cmd) (solo c.image) (old_history c) (next c)
    unfolding system
    task_holds =
        let wish = has_wish (wish_of c.cmd) refl in
        let is : invariant_idle.stage.master ≡ Some c.master = invariant_idle.stage.core.named.only c.master master_is in
        record {
          command = scene.command;
          me = master_is;
          lines = refl;
          phase = (
            record { params = refl; master = λ w asks. is },
            record {
              gate = record { low = omega arith; high = omega (arith, (read c scene).count); writer = λ w asks. (refl, length-map c.entries (held_file (line_at c.image))) };
              read = has_read c.cmd wish.0 wish.1;
            },
          );
        }

    -- the master has read all slots, and its cache has dropped them
    invariant_deciding : Invariant (Known c.params (old_history c) (next c)) (length c.image) (with_run (Some deciding)) (solo c.image)
    unfolding system
    invariant_deciding = record {
      declared = record {
        apart = invariant_idle.declared.apart;
        absent = invariant_idle.declared.absent;
        idle = λ h none. elim (runs_is (Some deciding) ((with_run (Some deciding)).run h) h refl (same h c.master)) [
          | inl (e, is) ↦ absurd (let some : uuid h ≡ Some c.params.master = ap uuid e ∙ master_is in cc)
          | inr (ne, is) ↦ is
        ];
        bare = λ h none. refl;
      };
      marked = λ h r is has. elim (runs_is (Some deciding) (Some r) h is (same h c.master)) [
        | inl (e, run) ↦ subst (λ (q : Run). IsMarked q.floor) (same_run run) tt
        | inr (ne, run) ↦ absurd (cc)
      ];
      named = λ h r is has. elim (runs_is (Some deciding) (Some r) h is (same h c.master)) [
        | inl (e, run) ↦ absurd (subst (λ (q : Run). HasNamed q.task.phase) (sym (same_run run)) has)
        | inr (ne, run) ↦ absurd (cc)
      ];
      keeps = λ h r is. elim (runs_is (Some deciding) (Some r) h is (same h c.master)) [
        | inl (e, run) ↦ ap (λ (q : Run). q.task.kept) (sym (same_run run))
        | inr (ne, run) ↦ absurd (cc)
      ];
      wide = invariant_idle.wide;
      stage = record {
        enough = invariant_idle.stage.enough;
        inside = invariant_idle.stage.inside;
        kept = λ h. tt;
        master = invariant_idle.stage.master;
        core = invariant_idle.stage.core;
        tasks = λ h r is. elim (runs_is (Some deciding) (Some r) h is (same h c.master)) [
          | inl (e, run) ↦ subst (λ (k : ℕ). TaskHolds (system invariant_idle.stage.master) k r.floor r.task (solo c.image) (old_history c) (next c)) (sym e)
              (subst (λ (q : Run). TaskHolds (system invariant_idle.stage.master) c.master q.floor q.task (solo c.image) (old_history c) (next c)) (same_run run) task_holds)
          | inr (ne, run) ↦ absurd (cc)
        ];
      };
    }

    -- it decides
    decides : (cmd : Cmd) (w : Wish) (word : ℕ) → wish_of cmd ≡ Some w → turn_given (reading_task cmd) word ≡ append_turn (reading_task cmd) (decide_wish c.params c.params.master c.entries w)
    decides (Mkdir path attr) w word is =
        ap (λ (w : Wish). append_turn (reading_task (Mkdir path attr)) (decide_wish c.params c.params.master c.entries w))
        (let some : wish_of (Mkdir path attr) ≡ Some w = is in cc)
    decides (Creat path size attr stripe fill) w word is =
        ap (λ (w : Wish). append_turn (reading_task (Creat path size attr stripe fill)) (decide_wish c.params c.params.master c.entries w))
        (let some : wish_of (Creat path size attr stripe fill) ≡ Some w = is in cc)
    decides (Cp path attr stripe bytes) w word is =
        ap (λ (w : Wish). append_turn (reading_task (Cp path attr stripe bytes)) (decide_wish c.params c.params.master c.entries w))
        (let some : wish_of (Cp path attr stripe bytes) ≡ Some w = is in cc)
    decides other w word is = absurd (cc)

    -- for the new entry
    decides_entry : turn_given (reading_task c.cmd) 0 ≡ Writes (next c) c.entry (writing (first_store c.entry.size))
    decides_entry = let wish = has_wish (wish_of c.cmd) refl in decides c.cmd wish.0 0 wish.1 ∙ ap (append_turn (reading_task c.cmd)) wish.2

    -- a step of the master's task
    steps_on : (r : Run) (o : Option Run) (settled : ℕ) (all : List File) (turn : Turn) (word : ℕ) (s s' : SharedState)
        → turn_given r.task word ≡ turn → run_after turn settled r ≡ o → kept_after turn r.task None ≡ None
        → Invariant (Known c.params all settled) (length c.image) (with_run (Some r)) s → Operates (op_of r.task) c.master s s' word
        → Invariant (turn_settles turn (Known c.params all settled)) (length c.image) (with_run o) s'
    steps_on r o settled all turn word s s' is after keeps invariant operates =
        let steps : Steps c.master word (Known c.params all settled) r (with_run (Some r)) (with_run o) s s' = record {
          is = rw (eq-eqb c.master c.master refl) refl;
          operates = operates;
          uuids = λ h. refl;
          mine = rw (eq-eqb c.master c.master refl, is, after) refl;
          runs = λ h ne. rw (ne_eqb h c.master ne) refl;
          keeps = sym keeps ∙ ap (λ (x : Turn). kept_after x r.task None) (sym is);
          kept = λ h ne. refl;
        } in
        let holds : StepHolds (Known c.params all settled) (length c.image) word r (with_run (Some r)) (with_run o) s' =
        invariant_stepped (length c.image) c.master word (Known c.params all settled) r (with_run (Some r)) (with_run o) s s' invariant steps in
        subst (λ (t : Turn). Invariant (turn_settles t (Known c.params all settled)) (length c.image) (with_run o) s') is holds.invariant

    -- and names the entry
    pub invariant_named : Invariant (Known c.params (history c) (next c)) (length c.image) (with_run (Some (run_at (first_store c.entry.size)))) (solo c.image)
    invariant_named = steps_on deciding (Some (run_at (first_store c.entry.size))) (next c) (old_history c)
        (Writes (next c) c.entry (writing (first_store c.entry.size))) 0 (solo c.image) (solo c.image) decides_entry refl refl invariant_deciding refl

    -- the task goes on to its answer
    pub invariant_answers : {ops : List Op} {q : Phase} {words : List ℕ} {s s' : SharedState} → Answers ops q
        → RanSteps (all_by c.master ops) words s s' → Invariant (Known c.params (history c) (next c)) (length c.image) (with_run (Some (run_at q))) s
        → Invariant (Known c.params (history c) (settled_after (Ends (Appended (next c))) (next c))) (length c.image) (with_run None) s'
    invariant_answers {s = s} (last {q = q} is on) (goes {s' = s1} word operates ends) invariant =
        steps_on (run_at q) None (next c) (history c) (Ends (Appended (next c))) word s s1 (on word) refl refl invariant (subst (λ (op : Op). Operates op c.master s s1 word) (sym is) operates)
    invariant_answers {s = s} (first {q = q} {after = after} is on rest) (goes {s' = s1} word operates more) invariant =
        invariant_answers rest more
        (steps_on (run_at q) (Some (run_at after)) (next c) (history c) (Goes (writing after)) word s s1 (on word) refl refl invariant
        (subst (λ (op : Op). Operates op c.master s s1 word) (sym is) operates))

    -- the reader drops lines
    pub invariant_drops : (ops : List Op) {words : List ℕ} {s s' : SharedState} (settled : ℕ) (all : List File) (r : Option Run) → AreDrops ops
        → RanSteps (all_by c.reader ops) words s s' → Invariant (Known c.params all settled) (length c.image) (with_run r) s
        → Invariant (Known c.params all settled) (length c.image) (with_run r) s'
    invariant_drops [] settled all r are ends invariant = invariant
    invariant_drops (Invalidate l ∷ ops) {s = s} settled all r are (goes {s' = s1} word operates more) invariant =
        invariant_drops ops settled all r are more
        (invariant_transferred (length c.image) (with_run r) c.reader l.0 s s1
        (transfers_at c.reader l.0 s s1 _ Absent operates (absent_transfers (s.memory l.0) (s.copy c.reader l.0)))
        (λ none. absurd (let is = reader_is in cc)) (Known c.params all settled) invariant)
    invariant_drops (Load l k ∷ ops) settled all r are ran invariant = absurd are
    invariant_drops (Store l k value ∷ ops) settled all r are ran invariant = absurd are
    invariant_drops (WriteBack l ∷ ops) settled all r are ran invariant = absurd are
    invariant_drops (Fence ∷ ops) settled all r are ran invariant = absurd are
    invariant_drops (Digest ∷ ops) settled all r are ran invariant = absurd are

    -- its cache moves by itself
    pub invariant_fetches : (lines : List ℕ) {words : List ℕ} {s s' : SharedState} (settled : ℕ) (all : List File) (r : Option Run)
        → RanSteps (fetches c.reader lines) words s s' → Invariant (Known c.params all settled) (length c.image) (with_run r) s
        → Invariant (Known c.params all settled) (length c.image) (with_run r) s'
    invariant_fetches [] settled all r ends invariant = invariant
    invariant_fetches (l ∷ lines) {s = s} settled all r (moves {s' = s1} transfer more) invariant =
        invariant_fetches lines settled all r more
        (invariant_transferred (length c.image) (with_run r) c.reader l s s1 transfer (λ none. absurd (let is = reader_is in cc))
        (Known c.params all settled) invariant)
