-- The stores of a post: words of its record's line, while the gate doesn't count it, and then the gate.
use Rattle.std.proofs.Common.{◌≡◌, ◌≢◌, ℕ, ◌+◌, ◌<◌, ◌≤◌, ◌⊎◌, inl, inr, List, [], ◌∷◌, ◌++◌, length, refl, sym, ap, subst, ◌∙◌, arith}
use Rattle.std.specs.Prelude.{slice_get, Option, Some, None, Ok}
use Rattle.std.proofs.lemmas.List.{get_or-set_same, length-append}
use Rattle.std.proofs.lemmas.Option.{same_Some}
use Rattle.fam_machine.specs.declared.cell.Cell.{Cell}
use Rattle.fam_machine.specs.OneLine.{IsDirty, current, stored}
use Rattle.fam_protocol.specs.Core.{masters_copy}
use Rattle.fam_protocol.specs.Lines.{Finished, gate_of, top}
use Rattle.fam_protocol.specs.SharedState.{SharedState, LeavesAt}
use Rattle.fam_protocol.proofs.Lines.Free.{Same, same}
use Rattle.fam_protocol.proofs.Lines.Moves.{fresh_clean}
use Rattle.fam_protocol.proofs.Lines.Stored.{store_copies, store_dirties, store_memory, store_wide}
use Rattle.fam_mail.specs.Boxes.{record_at}
use Rattle.fam_mail.specs.Mail.{Mail, pending_list, posted_by, whole}
use Rattle.fam_mail.specs.Protocol.{AtRecord, Box, BoxCore, HasStoredGate, IsLineOfBox, IsPosting, gate_at, top_at}
use Rattle.fam_mail.specs.Records.{record_in}
use Rattle.fam_mail.specs.Tasks.{posted_line}
use Rattle.fam_mail.specs.declared.ask.Ask.{Ask}
use Rattle.fam_mail.specs.declared.ask.Ask.TheVariants.{Post, Take}
use Rattle.fam_mail.proofs.Keeping.{Keeps}
use Rattle.fam_mail.proofs.Lists.{member_behind}
use Rattle.fam_mail.proofs.RecordLines.{record_back}

-- a writer's store into a line, as another host sees it: nothing of memory or of its own copies changes
module _ (b : Box) (s s' : SharedState) (m : Mail) (core : BoxCore b s m) (host line word value : ℕ) (writer : b.writer ≡ Some host)
    (done : LeavesAt host line s s' (s.memory line) (stored word value (s.memory line) (s.copy host line))) where
  memory_same : (l : ℕ) → s'.memory l ≡ s.memory l
  memory_same = store_memory host line word value s s' core.wide done

  copy_same : (h l : ℕ) → (h ≢ host) ⊎ (l ≢ line) → s'.copy h l ≡ s.copy h l
  copy_same = store_copies host line word value s s' core.wide done

  dirties : (h l : ℕ) → IsDirty (s'.copy h l) → IsDirty (s.copy h l) ⊎ ((h ≡ host) × (l ≡ line))
  dirties = store_dirties host line word value s s' core.wide done

  pub stored_keeps : (h : ℕ) → h ≢ host → Keeps b h s s' m
  stored_keeps h ne = record {
    memory = λ i lt. memory_same (b.place (1 + i));
    fresh = λ i lt f. rw (memory_same (b.place (1 + i)), copy_same h (b.place (1 + i)) (inl ne)) f;
    gate = omega (arith, ap gate_of (memory_same (b.place 0)));
    gate_copy = λ floor low f. rw (memory_same (b.place 0), copy_same h (b.place 0) (inl ne)) f;
    writing = λ is. absurd (ne (same_Some _ _ (sym is ∙ writer)));
  }

  writers : (h l : ℕ) → IsDirty (s.copy h l) ⊎ ((h ≡ host) × (l ≡ line)) → b.writer ≡ Some h
  writers h l (inl d) = core.only_writer h l d
  writers h l (inr e) = writer ∙ ap (λ (x : ℕ). Some x) (sym e.0)

  box_line : IsLineOfBox b.place b.capacity line → (h l : ℕ) → IsDirty (s.copy h l) ⊎ ((h ≡ host) × (l ≡ line)) → IsLineOfBox b.place b.capacity l
  box_line of h l (inl d) = core.inside h l d
  box_line of h l (inr e) = record { number = of.number; below = of.below; is = e.1 ∙ of.is }

  -- a store into a line of the file: what the gate counts then stands in memory, and nothing is dirty over it
  core_stored : IsLineOfBox b.place b.capacity line → gate_at b s ≤ top_at b s' → top_at b s' ≤ length (whole m)
      → ((i : ℕ) (numbers : List ℕ) → slice_get (whole m) i ≡ Some numbers → i < top_at b s' → record_at b.place s.memory i ≡ Ok numbers)
      → ((i h : ℕ) → i < top_at b s' → IsDirty (s.copy h (b.place (1 + i))) ⊎ ((h ≡ host) × (b.place (1 + i) ≡ line)) → ⊥) → BoxCore b s' m
  core_stored of order high stands clean =
      let m0 = ap gate_of (memory_same (b.place 0)) in
      record {
        apart = core.apart;
        wide = store_wide host line word value s s' core.wide done;
        only_writer = λ h l d. writers h l (dirties h l d);
        inside = λ h l d. box_line of h l (dirties h l d);
        outside = λ l not. memory_same l ∙ core.outside l not;
        low = omega (arith, core.low, m0);
        order = omega (arith, order, m0);
        high = high;
        room = core.room;
        stands = λ i numbers is lt. ap record_in (memory_same (b.place (1 + i))) ∙ stands i numbers is lt;
        clean = λ i h lt d. clean i h lt (dirties h (b.place (1 + i)) d);
      }

-- a word of the record's line
module _ (b : Box) (s s' : SharedState) (m : Mail) (core : BoxCore b s m) (host : ℕ) (ask : Ask) (gate : ℕ) (w : IsPosting b host ask gate s m) (word value : ℕ)
    (done : LeavesAt host (b.place (1 + gate)) s s' (s.memory (b.place (1 + gate))) (stored word value (s.memory (b.place (1 + gate))) (s.copy host (b.place (1 + gate))))) where
  line : ℕ
  line = b.place (1 + gate)

  not_gate : b.place 0 ≢ b.place (1 + gate)
  not_gate e = omega (arith, core.apart 0 (1 + gate) (omega arith) (omega (arith, w.room)) e)

  -- the larger of the two gates stays
  pub top_same : top_at b s' ≡ top_at b s
  top_same = go b.writer
    where
      go : (o : Option ℕ) → top (s'.memory (b.place 0)) (masters_copy o s' (b.place 0)) ≡ top (s.memory (b.place 0)) (masters_copy o s (b.place 0))
      go None = ap gate_of (memory_same b s s' m core host (b.place (1 + gate)) word value w.own.writer done (b.place 0))
      go (Some h) =
          rw (
            memory_same b s s' m core host (b.place (1 + gate)) word value w.own.writer done (b.place 0),
            copy_same b s s' m core host (b.place (1 + gate)) word value w.own.writer done h
                (b.place 0) (inr not_gate),
          ) refl

  -- what holds of the box stays when a word of a record is stored
  pub word_core : BoxCore b s' m
  word_core = core_stored b s s' m core host (b.place (1 + gate)) word value w.own.writer done
      (record { number = 1 + gate; below = omega (arith, w.room); is = refl })
      (omega (arith, top_same, core.order)) (omega (arith, top_same, core.high))
      (λ i numbers is lt. core.stands i numbers is (omega (arith, lt, top_same))) clean
    where
      clean : (i h : ℕ) → i < top_at b s' → IsDirty (s.copy h (b.place (1 + i))) ⊎ ((h ≡ host) × (b.place (1 + i) ≡ b.place (1 + gate))) → ⊥
      clean i h lt (inl d) = core.clean i h (omega (arith, lt, top_same)) d
      clean i h lt (inr e) =
          let below : i < gate = omega (arith, lt, top_same, w.unpublished) in
          omega (arith, below, core.apart (1 + i) (1 + gate) (omega (arith, below, w.room)) (omega (arith, w.room)) e.1)

  -- and what other tasks rest on
  pub word_keeps : (h : ℕ) → h ≢ host → Keeps b h s s' m
  word_keeps h ne = stored_keeps b s s' m core host (b.place (1 + gate)) word value w.own.writer done h ne

  -- and the post is still one that writes its record
  pub writing_stored : IsPosting b host ask gate s' m
  writing_stored = record { own = w.own; settled = w.settled; pending = w.pending; unpublished = top_same ∙ w.unpublished; room = w.room }

-- the line of a post is its record's
line_reads : (ask : Ask) (numbers : List ℕ) → posted_by ask ≡ Some numbers → record_in (posted_line (Post numbers)) ≡ Ok numbers → record_in (posted_line ask) ≡ Ok numbers
line_reads (Post own) numbers is reads = ap (λ (ns : List ℕ). record_in (posted_line (Post ns))) (same_Some own numbers is) ∙ reads
line_reads Take numbers is reads = absurd cc

-- the gate
module _ (b : Box) (s s' : SharedState) (m : Mail) (core : BoxCore b s m) (host : ℕ) (ask : Ask) (gate : ℕ) (w : IsPosting b host ask gate s m) (finished : AtRecord Finished b host ask gate s)
    (done : LeavesAt host (b.place 0) s s' (s.memory (b.place 0)) (stored 0 (gate + 1) (s.memory (b.place 0)) (s.copy host (b.place 0)))) where
  -- the writer's gate is one higher
  pub top_now : top_at b s' ≡ gate + 1
  top_now =
      ap (λ (o : Option ℕ). top (s'.memory (b.place 0)) (masters_copy o s' (b.place 0))) w.own.writer
      ∙ ap (λ (c : Cell). top (s'.memory (b.place 0)) c) done.copy_is
      ∙ get_or-set_same (current (s.memory (b.place 0)) (s.copy host (b.place 0))) 0 (gate + 1) 0 (omega (arith, core.wide.copies host (b.place 0)))

  -- the pending record is the last one
  pending_is : m.pending ≡ Some w.own.numbers
  pending_is = w.pending ∙ w.own.is

  -- the list ends in the pending record
  pub whole_is : whole m ≡ m.list ++ w.own.numbers ∷ []
  whole_is = ap (λ (p : Option (List ℕ)). m.list ++ pending_list p) pending_is

  pub last_is : slice_get (whole m) gate ≡ Some w.own.numbers
  last_is = ap (λ (xs : List (List ℕ)). slice_get xs gate) whole_is ∙ ap (λ (n : ℕ). slice_get (m.list ++ w.own.numbers ∷ []) n) w.settled ∙ member_behind m.list w.own.numbers

  -- so it has one record more than the gate counts
  pub count_is : length (whole m) ≡ gate + 1
  count_is = ap (λ (xs : List (List ℕ)). length xs) whole_is ∙ omega (arith, length-append m.list (w.own.numbers ∷ []), w.settled)

  -- memory holds it
  reads : record_at b.place s.memory gate ≡ Ok w.own.numbers
  reads = ap record_in finished.0 ∙ line_reads ask w.own.numbers w.own.is (record_back w.own.numbers w.own.proper)

  -- what holds of the box stays when the gate is stored
  pub gate_core : BoxCore b s' m
  gate_core = core_stored b s s' m core host (b.place 0) 0 (gate + 1) w.own.writer done
      (record { number = 0; below = omega arith; is = refl })
      (omega (arith, core.order, w.unpublished, top_now)) (omega (arith, top_now, count_is))
      (λ i numbers is lt. stand i numbers is (omega (arith, lt, top_now)) (same i gate)) (λ i h lt d. clean i h (omega (arith, lt, top_now)) d (same i gate))
    where
      stand : (i : ℕ) (numbers : List ℕ) → slice_get (whole m) i ≡ Some numbers → i < gate + 1 → Same i gate → record_at b.place s.memory i ≡ Ok numbers
      stand i numbers is lt (inl e) =
          let here : Some w.own.numbers ≡ Some numbers = sym last_is ∙ ap (λ (x : ℕ). slice_get (whole m) x) (sym e) ∙ is in
          ap (λ (x : ℕ). record_at b.place s.memory x) e ∙ reads ∙ ap (λ (ns : List ℕ). Ok ns) (same_Some w.own.numbers numbers here)
      stand i numbers is lt (inr ne) = core.stands i numbers is (omega (arith, lt, ne, w.unpublished))

      clean : (i h : ℕ) → i < gate + 1 → IsDirty (s.copy h (b.place (1 + i))) ⊎ ((h ≡ host) × (b.place (1 + i) ≡ b.place 0)) → Same i gate → ⊥
      clean i h lt (inr e) which = omega (arith, core.apart (1 + i) 0 (omega (arith, lt, w.room)) (omega arith) e.1)
      clean i h lt (inl d) (inr ne) = core.clean i h (omega (arith, lt, ne, w.unpublished)) d
      clean i h lt (inl d) (inl e) =
          let own : h ≡ host = same_Some _ _ (sym (core.only_writer h (b.place (1 + i)) d) ∙ w.own.writer) in
          fresh_clean _ _ finished.1 (subst (λ (x : ℕ). IsDirty (s.copy host (b.place (1 + x)))) e (subst (λ (x : ℕ). IsDirty (s.copy x (b.place (1 + i)))) own d))

  -- and what other tasks rest on
  pub gate_keeps : (h : ℕ) → h ≢ host → Keeps b h s s' m
  gate_keeps h ne = stored_keeps b s s' m core host (b.place 0) 0 (gate + 1) w.own.writer done h ne

  -- and the post has stored its gate
  pub has_published : HasStoredGate b host ask gate s' m
  has_published = record { own = w.own; published = top_now; count = count_is; last = last_is ∙ sym w.own.is; settled = omega (arith, w.settled) }
