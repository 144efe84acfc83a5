-- The store of the gate: file and slot stand in memory, and the entry is published by the master's own cache.
use Rattle.std.proofs.Common.{ℕ, ◌+◌, ◌*◌, ◌/◌, ◌%◌, ◌<◌, ◌≡◌, ◌≢◌, ◌⊎◌, inl, inr, List, length, map, sym, ◌∙◌, ap, subst, arith}
use Rattle.std.specs.Prelude.{slice_get, slice_index, Option, Some, Ok}
use Rattle.std.specs.List.{range_with_len}
use Rattle.std.proofs.lemmas.List.{get_or-set_same}
use Rattle.std.proofs.lemmas.Grind.{same_number_lists}
use Rattle.std.proofs.lemmas.List.FromFn.{get_or-map-range_with_len, length-map-range_with_len}
use Rattle.std.proofs.lemmas.Option.{same_Some}
use Rattle.fam_base.specs.declared.entry.Params.{Params}
use Rattle.fam_base.specs.declared.entry.Entry.{Entry}
use Rattle.fam_format.specs.Layout.{geometry, gate_line, log_line, slot_line}
use Rattle.fam_format.specs.Reading.{slot_in, slot_words}
use Rattle.fam_format.specs.Slot.{entry_of, spelling}
use Rattle.fam_format.proofs.EntryLawsProofs.{spelling_count, spelling_read}
use Rattle.fam_format.proofs.Formats.{shape}
use Rattle.fam_machine.specs.declared.cell.Cell.{Cell}
use Rattle.fam_machine.specs.OneLine.{IsDirty, current, stored}
use Rattle.fam_commands.specs.Task.{Task, content_of, data_words, line_of, size_of}
use Rattle.fam_rules.specs.Asks.{File}
use Rattle.fam_rules.specs.Content.{byte_in, fill, file_words}
use Rattle.fam_rules.specs.Place.{line_bytes}
use Rattle.fam_rules.specs.Written.{file_line, slot_part}
use Rattle.fam_rules.proofs.ContentLines.{byte_of_line, fill_fits}
use Rattle.fam_rules.proofs.RoomSame.{map_range_same}
use Rattle.fam_protocol.specs.SharedState.{SharedState, LeavesAt}
use Rattle.fam_protocol.specs.Lines.{Finished, gate_of, top}
use Rattle.fam_protocol.specs.Core.{System, Core, IsHeadLine, IsEntryLine, EntryStands, masters_copy, top_of}
use Rattle.fam_protocol.specs.Tasks.{HasPublished, IsWriting, MayPublish}
use Rattle.fam_protocol.proofs.Lines.Apart.{no_gate}
use Rattle.fam_protocol.proofs.Lines.Free.{Same, same, stands_same}
use Rattle.fam_protocol.proofs.Lines.Keeping.{Keeps}
use Rattle.fam_protocol.proofs.Lines.Moves.{fresh_clean}
use Rattle.fam_protocol.proofs.Lines.Stored.{part_word, store_dirties, store_memory, store_wide, stored_keeps}

-- a list is what stands at its places
pub list_by_index : (ws : List ℕ) (n : ℕ) → length ws ≡ n → map (λ k. slice_index ws k) (range_with_len 0 n) ≡ ws
list_by_index ws n is =
    same_number_lists (map (λ k. slice_index ws k) (range_with_len 0 n)) ws (length-map-range_with_len (λ k. slice_index ws k) 0 n ∙ sym is)
    (λ i lt. get_or-map-range_with_len (λ k. slice_index ws k) 0 n i i 0 (omega (arith, lt, length-map-range_with_len (λ k. slice_index ws k) 0 n)) (omega arith))

-- a slot whose lines are the parts of words has these words
pub slot_of_parts : (memory : ℕ → List ℕ) (p : Params) (i : ℕ) (ws : List ℕ) → length ws ≡ (geometry p).words
    → ((j : ℕ) → j < (geometry p).lines → memory (slot_line p i j) ≡ slot_part ws j) → slot_words memory p i ≡ ws
unfolding slot_words
slot_of_parts memory p i ws long lines =
    map_range_same _ (λ k. slice_index ws k) 0 (geometry p).words (λ k _ lt.
    ap (λ (w : List ℕ). slice_index w (k % 8)) (lines (k / 8) (omega (arith, lt, (shape p).words))) ∙ part_word ws (k / 8) (k % 8) (omega arith) ∙ ap (λ (n : ℕ). slice_index ws n) (omega arith))
    ∙ list_by_index ws (geometry p).words long

module _ (sys : System) (s s' : SharedState) (all : List File) (settled : ℕ) (core : Core sys s all settled) (host : ℕ) (t : Task) (may : MayPublish sys host t s all settled)
    (done : LeavesAt host gate_line s s' (s.memory gate_line) (stored 0 (t.gate + 1) (s.memory gate_line) (s.copy host gate_line))) where
  w : IsWriting sys host t s all settled
  w = may.writing

  -- memory stays
  memory_same : (l : ℕ) → s'.memory l ≡ s.memory l
  memory_same = store_memory host gate_line 0 (t.gate + 1) s s' core.wide done

  -- the master's gate is one higher
  pub top_now : top_of sys s' ≡ t.gate + 1
  top_now =
      ap (λ (o : Option ℕ). top (s'.memory gate_line) (masters_copy o s' gate_line)) w.master
      ∙ ap (λ (c : Cell). top (s'.memory gate_line) c) done.copy_is
      ∙ get_or-set_same (current (s.memory gate_line) (s.copy host gate_line)) 0 (t.gate + 1) 0 (omega (arith, core.wide.copies host gate_line))

  -- the new entry's lines are finished
  line_finished : (l : ℕ) → IsEntryLine sys.params t.gate w.file.entry l → (wanted : List ℕ) × Finished wanted (s.memory l) (s.copy host l)
  line_finished l (inl (j, lt, is)) =
      let f = may.slot j lt in (
        slot_part t.words j,
        subst (λ (p : Params). Finished (slot_part t.words j) (s.memory l) (s.copy host l)) w.params
            (subst (λ (x : ℕ). Finished (slot_part t.words j) (s.memory x) (s.copy host x)) (ap (λ (p : Params). slot_line p t.gate j) w.params ∙ sym is) f),
      )
  line_finished l (inr (j, lt, is)) =
      let small : line_bytes * j < size_of t.entry = subst (λ (o : Option Entry). line_bytes * j < size_of o) (sym w.entry) lt in
      (data_words t j, subst (λ (x : ℕ). Finished (data_words t j) (s.memory x) (s.copy host x)) (ap (λ (o : Option Entry). line_of o j) w.entry ∙ sym is) (may.contents (j + 1) j (omega arith) small))

  -- memory holds the new entry
  new_stands : EntryStands sys.params s.memory t.gate w.file
  new_stands = record { slot = reads; bytes = bytes_at }
    where
      words_are : slot_words s.memory sys.params t.gate ≡ spelling (geometry sys.params) w.file.entry t.gate
      words_are = slot_of_parts s.memory sys.params t.gate (spelling (geometry sys.params) w.file.entry t.gate) (spelling_count sys.params w.file.entry t.gate)
          (λ j lt. ap (λ (p : Params). s.memory (slot_line p t.gate j)) (sym w.params) ∙ (may.slot j lt).0 ∙ ap (λ (ws : List ℕ). slot_part ws j) w.words)

      reads : slot_in s.memory sys.params t.gate ≡ Ok w.file.entry
      reads = ap (λ (ws : List ℕ). entry_of sys.params ws t.gate) words_are ∙ spelling_read sys.params w.file.entry t.gate (core.history t.gate w.file w.last).proper

      bytes_at : (o : ℕ) → o < w.file.entry.size → byte_in (s.memory (file_line w.file.entry (o / line_bytes))) (o % line_bytes) ≡ slice_index w.file.bytes o
      bytes_at o lt =
          let j = o / line_bytes in
          let small : line_bytes * j < size_of t.entry = subst (λ (x : Option Entry). line_bytes * j < size_of x) (sym w.entry) (omega (arith, lt)) in
          let line : s.memory (file_line w.file.entry j) ≡ file_words (fill (content_of t.cmd) (size_of t.entry)) j =
          ap (λ (x : Option Entry). s.memory (line_of x j)) (sym w.entry) ∙ (may.contents (j + 1) j (omega arith) small).0 in
          ap (λ (ws : List ℕ). byte_in ws (o % line_bytes)) line
          ∙ byte_of_line (fill (content_of t.cmd) (size_of t.entry)) o (λ i. fill_fits (content_of t.cmd) (size_of t.entry) i w.content)
          ∙ ap (λ (x : Option Entry). slice_index (fill (content_of t.cmd) (size_of x)) o) w.entry
          ∙ ap (λ (b : List ℕ). slice_index b o) (sym w.bytes)

  -- with the gate stored, everything that it counts stands in memory
  pub core_published : Core sys s' all settled
  core_published =
      let m0 = ap gate_of (memory_same gate_line) in
      record {
        wide = store_wide host gate_line 0 (t.gate + 1) s s' core.wide done;
        head = record {
          sound = core.head.sound;
          device = core.head.device;
          super = rw (memory_same 0, memory_same 1, memory_same 2) core.head.super;
          header = rw (memory_same log_line) core.head.header;
          clean = λ h l is d. head_clean h l is (store_dirties host gate_line 0 (t.gate + 1) s s' core.wide done h l d);
        };
        named = core.named;
        only_master = λ h l d. masters h l (store_dirties host gate_line 0 (t.gate + 1) s s' core.wide done h l d);
        low = omega (arith, core.low, m0);
        order = omega (arith, core.order, w.unpublished, top_now, m0);
        high = omega (arith, top_now, w.pending);
        near = core.near;
        room = core.room;
        history = core.history;
        stands = λ i f is lt. stands_same s.memory s'.memory sys.params i f (λ l _. memory_same l) (stand i f is (omega (arith, lt, top_now)) (same i t.gate));
        clean = λ i f h l is lt of_i d. clean_at i f h l is (omega (arith, lt, top_now)) of_i (store_dirties host gate_line 0 (t.gate + 1) s s' core.wide done h l d) (same i t.gate);
      }
    where
      head_clean : (h l : ℕ) → IsHeadLine l → IsDirty (s.copy h l) ⊎ ((h ≡ host) × (l ≡ gate_line)) → ⊥
      head_clean h l is (inl d) = core.head.clean h l is d
      head_clean h l (inl low) (inr e) = omega (arith, low, e.1)
      head_clean h l (inr log) (inr e) = omega (arith, log, e.1)

      masters : (h l : ℕ) → IsDirty (s.copy h l) ⊎ ((h ≡ host) × (l ≡ gate_line)) → sys.master ≡ Some h
      masters h l (inl d) = core.only_master h l d
      masters h l (inr e) = w.master ∙ ap (λ (x : ℕ). Some x) (sym e.0)

      same_file : (i : ℕ) (f : File) → slice_get all i ≡ Some f → i ≡ t.gate → w.file ≡ f
      same_file i f is e = same_Some w.file f (sym w.last ∙ ap (λ (x : ℕ). slice_get all x) (sym e) ∙ is)

      stand : (i : ℕ) (f : File) → slice_get all i ≡ Some f → i < t.gate + 1 → Same i t.gate → EntryStands sys.params s.memory i f
      stand i f is lt (inl e) = subst (λ (x : ℕ). EntryStands sys.params s.memory x f) (sym e) (subst (EntryStands sys.params s.memory t.gate) (same_file i f is e) new_stands)
      stand i f is lt (inr ne) = core.stands i f is (omega (arith, lt, ne, w.unpublished))

      clean_at : (i : ℕ) (f : File) (h l : ℕ) → slice_get all i ≡ Some f → i < t.gate + 1 → IsEntryLine sys.params i f.entry l
          → IsDirty (s.copy h l) ⊎ ((h ≡ host) × (l ≡ gate_line)) → Same i t.gate → ⊥
      clean_at i f h l is lt of_i (inr e) which = no_gate sys.params all core.head.sound core.history core.room i l f is of_i e.1
      clean_at i f h l is lt of_i (inl d) (inr ne) = core.clean i f h l is (omega (arith, lt, ne, w.unpublished)) of_i d
      clean_at i f h l is lt of_i (inl d) (inl e) =
          let of_n : IsEntryLine sys.params t.gate w.file.entry l = subst (λ (x : ℕ). IsEntryLine sys.params x w.file.entry l) e
          (subst (λ (x : File). IsEntryLine sys.params i x.entry l) (sym (same_file i f is e)) of_i) in
          let f' = line_finished l of_n in
          fresh_clean _ _ f'.1.1 (subst (λ (x : ℕ). IsDirty (s.copy x l)) (same_Some _ _ (sym (core.only_master h l d) ∙ w.master)) d)

  -- and the task has published its entry
  pub has_published : HasPublished sys host t s' all
  has_published = record { master = w.master; published = top_now; pending = w.pending; file = w.file; last = w.last; entry = w.entry }

  -- another host's task rests on nothing that it changes
  pub publish_keeps : (h : ℕ) → h ≢ host → Keeps sys h settled s s'
  publish_keeps = stored_keeps host gate_line 0 (t.gate + 1) s s' core.wide done sys settled w.master
