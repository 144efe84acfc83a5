-- A host's task does its operation and takes its turn: it says what it may, and all that holds holds again.
use Rattle.std.proofs.Common.{◌≡◌, ◌≢◌, ℕ, suc, ◌+◌, ◌<◌, ◌≤◌, ◌⊎◌, inl, inr, List, [], ◌∷◌, ◌++◌, length, take, refl, sym, ap, subst, ◌∙◌, arith, add-one}
use Rattle.std.specs.Prelude.{◌==◌, get_or, cond, Bool, true, false, nat_lt, slice_get, slice_index, slice_set, Option, Some, None, Ok}
use Rattle.std.proofs.Math.Seq.{take-suc, take-suc-set}
use Rattle.std.proofs.lemmas.Bool.{cases_eq}
use Rattle.std.proofs.lemmas.Bool.Decides.{nat_tests}
use Rattle.std.proofs.lemmas.List.{length-append, length-set, length-take-le, take_all}
use Rattle.std.proofs.lemmas.Option.{same_Some, slice_get_cases}
use Rattle.fam_machine.specs.declared.cell.Cell.{Cell}
use Rattle.fam_machine.specs.declared.cell.Cell.TheVariants.{Absent, Clean, Dirty}
use Rattle.fam_machine.specs.OneLine.{asked_for, brought, current, sent, stored}
use Rattle.fam_machine.proofs.Transferring.{absent_transfers, asked_for_transfers, brought_transfers}
use Rattle.fam_protocol.specs.Core.{masters_copy}
use Rattle.fam_protocol.specs.Lines.{Finished, Fresh, FreshGate, Holding, IsAtLeast, IsHandedOver, gate_of, top}
use Rattle.fam_protocol.specs.SharedState.{SharedState, Fences, LeavesAt, Operates, TransfersAt}
use Rattle.fam_protocol.proofs.Lines.Fencing.{finished_then, not_dirty_then, top_then}
use Rattle.fam_protocol.proofs.Lines.Floors.{at_least_more}
use Rattle.fam_protocol.proofs.Lines.Free.{transfers_at}
use Rattle.fam_protocol.proofs.Lines.Moves.{asked_handed, fresh_current, fresh_top}
use Rattle.fam_protocol.proofs.Lines.Stored.{holding_more}
use Rattle.fam_mail.specs.declared.ask.Ask.{Ask}
use Rattle.fam_mail.specs.declared.ask.Ask.TheVariants.{Post, Take}
use Rattle.fam_mail.specs.declared.phase.Phase.{Phase}
use Rattle.fam_mail.specs.declared.phase.Phase.TheVariants as at
use Rattle.fam_mail.specs.declared.turn.Turn.{Turn}
use Rattle.fam_mail.specs.declared.turn.Turn.TheVariants.{Go, Mark, Found, Posted, Full, Taken, BadBox}
use Rattle.fam_mail.specs.Mail.{IsFront, Mail, MayFind, TaskMaySay, TaskRun, floor_behind_turn, records_found, pending_joined, pending_list, posted_by, settles, whole}
use Rattle.fam_mail.specs.Protocol.{AtMailPhase, AtRecord, Box, BoxCore, HasStoredGate, BoxInvariant, IsReading, IsWriters, IsPosting, LoadsGate, TaskRuns, TurnHolds, TakesTurn, RunHolds, gate_at, top_at}
use Rattle.fam_mail.specs.Records.{IsRecord, numbers_in, numbers_or, record_in, wrong_word}
use Rattle.fam_mail.specs.Tasks.{IsPost, MailTask, loaded_gate_turn, ends_mail_task, posted_line, phase_op, record_turn, records_with, phase_task, next_task, phase_turn, mail_turn, words_with}
use Rattle.fam_mail.proofs.Keeping.{Keeps, phase_kept, task_kept}
use Rattle.fam_mail.proofs.Lists.{by_equal, by_equal_both, few_listed, front_member, take_member}
use Rattle.fam_mail.proofs.Moving.{core_moved, gate_moved, keeps_moved, keeps_same, sends_keep}
use Rattle.fam_mail.proofs.RecordLines.{line_length}
use Rattle.fam_mail.proofs.Settling.{core_found, core_joined, few_pending, found_length, found_pending, settles_found, settles_joined, task_settled}
use Rattle.fam_mail.proofs.Storing.{gate_core, gate_keeps, has_published, word_core, word_keeps, writing_stored}

-- what comes of an operation of a host's task
pub record Acted (b : Box) (host : ℕ) (floor : Option ℕ) (m : Mail) (s s' : SharedState) (ask : Ask) (turn : Turn) (next : MailTask) : Type 0 where
  pub says : TaskMaySay turn ask floor m b.capacity
  pub core : BoxCore b s' (settles turn ask m)
  pub others : (h : ℕ) → h ≢ host → (r : TaskRun) → RunHolds b h r s m → RunHolds b h r s' (settles turn ask m)
  pub mine : ends_mail_task turn ≡ false → AtMailPhase next.phase b host (floor_behind_turn turn (length m.list) floor) next s' (settles turn ask m)

-- the line that a post stores has eight words
line_long : (ask : Ask) (numbers : List ℕ) → posted_by ask ≡ Some numbers → IsRecord numbers → length (posted_line ask) ≡ 8
line_long (Post own) numbers is proper = line_length own (subst IsRecord (sym (same_Some own numbers is)) proper)
line_long Take numbers is proper = absurd cc

-- the gate that is loaded through a copy that isn't older than the mark
gate_loaded : (floor : Option ℕ) (w : List ℕ) (c : Cell) → IsAtLeast floor (gate_of w) → FreshGate floor w c → IsAtLeast floor (slice_index (current w c) 0) × (slice_index (current w c) 0 ≤ gate_of w)
gate_loaded floor w Absent low f = (low, omega arith)
gate_loaded floor w (Clean v) low f = f
gate_loaded floor w (Dirty a v) low f = absurd f

-- a line that is read as a record has no wrong word, and the record's numbers
read_as : (words numbers : List ℕ) → record_in words ≡ Ok numbers → (wrong_word words ≡ None) × (numbers_in words ≡ numbers)
read_as words numbers = go (wrong_word words) refl
  where
    go : (o : Option ℕ) → wrong_word words ≡ o → numbers_or (numbers_in words) o ≡ Ok numbers → (wrong_word words ≡ None) × (numbers_in words ≡ numbers)
    go None is e = (is, cc)
    go (Some k) is e = absurd cc

-- as many records as are settled, or one more
may_find : (n : ℕ) (m : Mail) → length m.list ≤ n → n ≤ length (whole m) → MayFind n m
may_find n m low high = go (cases_eq n (length m.list))
  where
    go : (n ≡ length m.list) ⊎ (n ≢ length m.list) → MayFind n m
    go (inl e) = inl e
    go (inr ne) = inr (
      omega (arith, ne, low, high, (few_pending m).1),
      λ none. omega (arith, ne, low, high, length-append m.list (pending_list m.pending), ap (λ (p : Option (List ℕ)). length (pending_list p)) none),
    )

module _ (b : Box) (host : ℕ) (floor : Option ℕ) (m : Mail) (s : SharedState) (core : BoxCore b s m) where
  -- a task that goes on, while nothing is settled
  goes_on : (s' : SharedState) (ask : Ask) (next : MailTask) → BoxCore b s' m → ((h : ℕ) → h ≢ host → Keeps b h s s' m) → AtMailPhase next.phase b host floor next s' m
      → Acted b host floor m s s' ask Go next
  goes_on s' ask next core' keeps mine = record {
    says = tt;
    core = core';
    others = λ h ne r holds. task_kept b s s' m core h (keeps h ne) r holds;
    mine = λ _. mine;
  }

  module _ (s' : SharedState) (line : ℕ) (moves : TransfersAt host line s s') where
    moved_core : BoxCore b s' m
    moved_core = core_moved b s s' m core host line moves

    moved_keeps : (h : ℕ) → Keeps b h s s' m
    moved_keeps = keeps_moved b s s' m core host line moves

    moved_task : (h : ℕ) (r : TaskRun) → RunHolds b h r s m → RunHolds b h r s' m
    moved_task h = task_kept b s s' m core h (moved_keeps h)

  -- The gate's line is dropped: the mark.
  drop_gate : (s' : SharedState) (t : MailTask) → t.records ≡ [] → LeavesAt host (b.place 0) s s' (sent (s.memory (b.place 0)) (s.copy host (b.place 0))) Absent
      → Acted b host floor m s s' t.ask Mark (record t { phase = at.LoadGate })
  drop_gate s' t none left =
      let moves = transfers_at host (b.place 0) s s' _ _ left (absent_transfers (s.memory (b.place 0)) (s.copy host (b.place 0))) in
      record {
        says = tt;
        core = moved_core s' (b.place 0) moves;
        others = λ h ne r holds. moved_task s' (b.place 0) moves h r holds;
        mine = λ _. (
          record {
            low = omega arith;
            copy = subst (λ (c : Cell). FreshGate (Some (length m.list)) (s'.memory (b.place 0)) c) (sym left.copy_is) tt;
            writers = λ is. subst (λ (c : Cell). Fresh (s'.memory (b.place 0)) c) (sym left.copy_is) tt;
          },
          none,
        );
      }

  -- The gate is loaded.
  module _ (s' : SharedState) (t : MailTask) (word : ℕ) (capacity : t.capacity ≡ b.capacity) (post : IsPost t.ask → IsWriters b host t.ask) (loads : LoadsGate b host floor s m) (none : t.records ≡ [])
      (left : LeavesAt host (b.place 0) s s' (s.memory (b.place 0)) (brought (s.memory (b.place 0)) (s.copy host (b.place 0))))
      (given : word ≡ slice_index (current (s.memory (b.place 0)) (s.copy host (b.place 0))) 0) where
    gate_moves : TransfersAt host (b.place 0) s s'
    gate_moves = transfers_at host (b.place 0) s s' _ _ left (brought_transfers (s.memory (b.place 0)) (s.copy host (b.place 0)))

    word_is : IsAtLeast floor word × (word ≤ gate_at b s)
    word_is =
        let g = gate_loaded floor (s.memory (b.place 0)) (s.copy host (b.place 0)) (at_least_more floor (length m.list) (gate_at b s) core.low loads.low) loads.copy in
        (subst (IsAtLeast floor) (sym given) g.0, omega (arith, given, g.1))

    in_box : nat_lt t.capacity word ≡ false
    in_box = let le : word ≤ t.capacity = omega (arith, word_is.1, core.order, core.high, core.room, capacity) in grind (arith, nat_tests)

    take_gate : Acted b host floor m s s' t.ask Go (record t { phase = at.Count; gate = word })
    take_gate = goes_on s' t.ask (record t { phase = at.Count; gate = word }) (moved_core s' (b.place 0) gate_moves) (λ h ne. moved_keeps s' (b.place 0) gate_moves h)
        (record { low = word_is.0; high = omega (arith, word_is.1, (moved_keeps s' (b.place 0) gate_moves host).gate) }, none)

    module _ (own : IsWriters b host t.ask) where
      fresh : Fresh (s.memory (b.place 0)) (s.copy host (b.place 0))
      fresh = loads.writers own.writer

      word_gate : word ≡ gate_at b s
      word_gate = given ∙ ap (λ (w : List ℕ). slice_index w 0) (fresh_current (s.memory (b.place 0)) (s.copy host (b.place 0)) fresh)

      top_is : top_at b s' ≡ word
      top_is =
          (gate_moved b s s' m core host (b.place 0) gate_moves).2
          ∙ ap (λ (o : Option ℕ). top (s.memory (b.place 0)) (masters_copy o s (b.place 0))) own.writer
          ∙ fresh_top (s.memory (b.place 0)) (s.copy host (b.place 0)) fresh
          ∙ sym word_gate

      gate_is : word ≤ gate_at b s'
      gate_is = omega (arith, word_is.1, (moved_keeps s' (b.place 0) gate_moves host).gate)

      low : length m.list ≤ word
      low = omega (arith, core.low, word_gate)

      high : word ≤ length (whole m)
      high = omega (arith, word_is.1, core.order, core.high)

      others : (pending : Option (List ℕ)) → word + length (pending_list pending) ≤ b.capacity → (h : ℕ) → h ≢ host → (r : TaskRun) → RunHolds b h r s m
          → RunHolds b h r s' (record (records_found word m) { pending = pending })
      others pending room h ne r holds =
          task_settled b h s' m (record (records_found word m) { pending = pending })
          (settles_found b s' m (moved_core s' (b.place 0) gate_moves) word top_is gate_is pending room h (λ is. ne (same_Some h host (sym is ∙ own.writer))))
          r (moved_task s' (b.place 0) gate_moves h r holds)

      full_gate : word ≡ t.capacity → (next : MailTask) → Acted b host floor m s s' t.ask (Full word) next
      full_gate is next =
          let room : word + length (pending_list (records_found word m).pending) ≤ b.capacity = omega
          (arith, is, capacity, ap (λ (p : Option (List ℕ)). length (pending_list p)) (found_pending word m)) in
          record {
            says = (may_find word m low high, is ∙ capacity);
            core = core_found b s' m (moved_core s' (b.place 0) gate_moves) word top_is gate_is (records_found word m).pending room;
            others = others (records_found word m).pending room;
            mine = λ e. absurd cc;
          }

      found_gate : word ≢ t.capacity → Acted b host floor m s s' t.ask (Found word) (record t { phase = at.StoreRecord 0; gate = word })
      found_gate ne =
          let below : word < b.capacity = omega (arith, ne, capacity, word_is.1, core.order, core.high, core.room) in
          let room : word + length (pending_list (posted_by t.ask)) ≤ b.capacity = omega (arith, below, few_listed (posted_by t.ask)) in
          record {
            says = (may_find word m low high, below);
            core = core_found b s' m (moved_core s' (b.place 0) gate_moves) word top_is gate_is (posted_by t.ask) room;
            others = others (posted_by t.ask) room;
            mine = λ _. (
              omega arith,
              record { own = own; settled = sym (found_length word m low high); pending = refl; unpublished = top_is; room = below },
              tt,
            );
          }

    gate_by : (ask : Ask) → t.ask ≡ ask → Acted b host floor m s s' t.ask (loaded_gate_turn ask t.capacity word) (phase_task at.LoadGate word (record t { ask = ask }))
    gate_by (Post numbers) is =
        let own : IsWriters b host t.ask = post (subst IsPost (sym is) tt) in
        let next : MailTask = record t { ask = Post numbers; phase = at.StoreRecord 0; gate = word } in
        let next_is : record t { phase = at.StoreRecord 0; gate = word } ≡ next = ap (λ (a : Ask). record t { ask = a; phase = at.StoreRecord 0; gate = word }) is in
        subst (λ (x : Bool). Acted b host floor m s s' t.ask (cond x (BadBox word t.capacity) (cond (word == t.capacity) (Full word) (Found word))) next) (sym in_box)
        (by_equal (λ (turn : Turn). Acted b host floor m s s' t.ask turn next) word t.capacity (Full word) (Found word) (λ e. full_gate own e next)
        (λ ne. subst (λ (x : MailTask). Acted b host floor m s s' t.ask (Found word) x) next_is (found_gate own ne)))
    gate_by Take is =
        let next : MailTask = record t { ask = Take; phase = at.Count; gate = word } in
        let next_is : record t { phase = at.Count; gate = word } ≡ next = ap (λ (a : Ask). record t { ask = a; phase = at.Count; gate = word }) is in
        subst (λ (x : Bool). Acted b host floor m s s' t.ask (cond x (BadBox word t.capacity) Go) next) (sym in_box)
        (subst (λ (x : MailTask). Acted b host floor m s s' t.ask Go x) next_is take_gate)

  -- A word of the record is stored.
  store_word : (s' : SharedState) (t : MailTask) (k : ℕ) → k < 8 → (w : IsPosting b host t.ask t.gate s m) → AtRecord (Holding k) b host t.ask t.gate s
      → LeavesAt host (b.place (1 + t.gate)) s s' (s.memory (b.place (1 + t.gate)))
      (stored k (slice_index (posted_line t.ask) k) (s.memory (b.place (1 + t.gate))) (s.copy host (b.place (1 + t.gate))))
      → Acted b host floor m s s' t.ask Go (record t { phase = cond (k == 7) at.SendRecord (at.StoreRecord (k + 1)) })
  store_word s' t k lt w holding done =
      let value = slice_index (posted_line t.ask) k in
      let held : AtRecord (Holding (k + 1)) b host t.ask t.gate s' =
      rw (done.memory_is, done.copy_is) (holding_more k (posted_line t.ask) (s.memory (b.place (1 + t.gate))) (s.copy host (b.place (1 + t.gate))) lt
      (line_long t.ask w.own.numbers w.own.is w.own.proper) (core.wide.copies host (b.place (1 + t.gate))) holding) in
      let w' = writing_stored b s s' m core host t.ask t.gate w k value done in
      goes_on s' t.ask (record t { phase = cond (k == 7) at.SendRecord (at.StoreRecord (k + 1)) }) (word_core b s s' m core host t.ask t.gate w k value done)
      (word_keeps b s s' m core host t.ask t.gate w k value done)
      (by_equal (λ (p : Phase). AtMailPhase p b host floor (record t { phase = p }) s' m) k 7 at.SendRecord (at.StoreRecord (k + 1))
      (λ e. let eight : k + 1 ≡ 8 = omega (arith, e) in (w', subst (λ (n : ℕ). AtRecord (Holding n) b host t.ask t.gate s') eight held))
      (λ ne. (omega (arith, lt, ne), w', held)))

  -- The record's line is handed over.
  send_record : (s' : SharedState) (t : MailTask) → AtMailPhase at.SendRecord b host floor t s m
      → LeavesAt host (b.place (1 + t.gate)) s s' (s.memory (b.place (1 + t.gate))) (asked_for (s.copy host (b.place (1 + t.gate))))
      → Acted b host floor m s s' t.ask Go (record t { phase = at.FenceRecord })
  send_record s' t known left =
      let moves = transfers_at host (b.place (1 + t.gate)) s s' _ _ left (asked_for_transfers (s.memory (b.place (1 + t.gate))) (s.copy host (b.place (1 + t.gate)))) in
      let then = phase_kept b s s' m core host (moved_keeps s' (b.place (1 + t.gate)) moves host) at.SendRecord floor t known in
      goes_on s' t.ask (record t { phase = at.FenceRecord }) (moved_core s' (b.place (1 + t.gate)) moves) (λ h ne. moved_keeps s' (b.place (1 + t.gate)) moves h)
      (then.0, (then.1, subst IsHandedOver (sym left.copy_is) (asked_handed (s.copy host (b.place (1 + t.gate))))))

  -- It is sent, and finished.
  fence_record : (s' : SharedState) (t : MailTask) → AtMailPhase at.FenceRecord b host floor t s m → Fences host s s' → Acted b host floor m s s' t.ask Go (record t { phase = at.StoreGate })
  fence_record s' t known fences =
      let kept = sends_keep b m host fences.lines s s' fences.sends core in
      let then = phase_kept b s s' m core host (kept.keeps host) at.FenceRecord floor t known in
      let line : ℕ = b.place (1 + t.gate) in
      goes_on s' t.ask (record t { phase = at.StoreGate }) kept.core (λ h ne. kept.keeps h) (
        then.0,
        finished_then (posted_line t.ask) (s'.memory line) (s'.copy host line) (line_long t.ask then.0.own.numbers then.0.own.is then.0.own.proper) (kept.core.wide.memory line) then.1.0
            (not_dirty_then (s'.copy host line) then.1.1 (fences.none_asked line)),
      )

  -- The gate is stored.
  store_gate : (s' : SharedState) (t : MailTask) (w : IsPosting b host t.ask t.gate s m) → AtRecord Finished b host t.ask t.gate s
      → LeavesAt host (b.place 0) s s' (s.memory (b.place 0)) (stored 0 (t.gate + 1) (s.memory (b.place 0)) (s.copy host (b.place 0)))
      → Acted b host floor m s s' t.ask Go (record t { phase = at.SendGate })
  store_gate s' t w finished done =
      goes_on s' t.ask (record t { phase = at.SendGate }) (gate_core b s s' m core host t.ask t.gate w finished done) (gate_keeps b s s' m core host t.ask t.gate w finished done)
      (has_published b s s' m core host t.ask t.gate w finished done)

  -- The gate's line is handed over.
  send_gate : (s' : SharedState) (t : MailTask) → AtMailPhase at.SendGate b host floor t s m → LeavesAt host (b.place 0) s s' (s.memory (b.place 0)) (asked_for (s.copy host (b.place 0)))
      → Acted b host floor m s s' t.ask Go (record t { phase = at.FenceGate })
  send_gate s' t known left =
      let moves = transfers_at host (b.place 0) s s' _ _ left (asked_for_transfers (s.memory (b.place 0)) (s.copy host (b.place 0))) in
      let then = phase_kept b s s' m core host (moved_keeps s' (b.place 0) moves host) at.SendGate floor t known in
      goes_on s' t.ask (record t { phase = at.FenceGate }) (moved_core s' (b.place 0) moves) (λ h ne. moved_keeps s' (b.place 0) moves h)
      (then, subst IsHandedOver (sym left.copy_is) (asked_handed (s.copy host (b.place 0))))

  -- It is sent: the record is posted.
  fence_gate : (s' : SharedState) (t : MailTask) → AtMailPhase at.FenceGate b host floor t s m → Fences host s s' → Acted b host floor m s s' t.ask (Posted t.gate) t
  fence_gate s' t known fences =
      let kept = sends_keep b m host fences.lines s s' fences.sends core in
      let then = phase_kept b s s' m core host (kept.keeps host) at.FenceGate floor t known in
      let p : HasStoredGate b host t.ask t.gate s' m = then.0 in
      let counted : gate_at b s' ≡ t.gate + 1 =
      sym (ap (λ (o : Option ℕ). top (s'.memory (b.place 0)) (masters_copy o s' (b.place 0))) p.own.writer
      ∙ top_then (s'.memory (b.place 0)) (s'.copy host (b.place 0)) (not_dirty_then (s'.copy host (b.place 0)) then.1 (fences.none_asked (b.place 0)))) ∙ p.published in
      let few = few_pending m in
      record {
        says = record {
          count = by_equal (λ (x : Mail). length x.list ≡ t.gate + 1) t.gate (length m.list) (pending_joined m) m (λ e. p.count) (λ ne. omega (arith, ne, p.count, p.settled, few.0));
          last = by_equal (λ (x : Mail). slice_get x.list t.gate ≡ posted_by t.ask) t.gate (length m.list) (pending_joined m) m (λ e. p.last)
              (λ ne. sym (front_member m.list (pending_list m.pending) t.gate (omega (arith, ne, p.settled))) ∙ p.last);
        };
        core = by_equal (λ (x : Mail). BoxCore b s' x) t.gate (length m.list) (pending_joined m) m (λ e. core_joined b s' m kept.core (omega (arith, p.count, counted))) (λ ne. kept.core);
        others = λ h not r holds.
            let held : RunHolds b h r s' m = task_kept b s s' m core h (kept.keeps h) r holds in
            by_equal (λ (x : Mail). RunHolds b h r s' x) t.gate (length m.list) (pending_joined m) m
            (λ e. task_settled b h s' m (pending_joined m) (settles_joined b h s' m kept.core (omega (arith, e, counted))) r held) (λ ne. held);
        mine = λ e. absurd cc;
      }

  -- A take that has read all that it counted.
  taken : (s' : SharedState) (ask : Ask) (records : List (List ℕ)) (next : MailTask) → BoxCore b s' m → ((h : ℕ) → h ≢ host → Keeps b h s s' m)
      → IsFront records floor m → length records ≤ gate_at b s' → Acted b host floor m s s' ask (Taken records) next
  taken s' ask records next core' keeps front below = record {
    says = front;
    core = by_equal (λ (x : Mail). BoxCore b s' x) (length records) (length m.list + 1) (pending_joined m) m
        (λ e. core_joined b s' m core' (omega (arith, e, below, (few_pending m).1))) (λ ne. core');
    others = λ h not r holds.
        let held : RunHolds b h r s' m = task_kept b s s' m core h (keeps h not) r holds in
        by_equal (λ (x : Mail). RunHolds b h r s' x) (length records) (length m.list + 1) (pending_joined m) m
        (λ e. task_settled b h s' m (pending_joined m)
        (settles_joined b h s' m core' (omega (arith, e, below, front.within, core'.order, core'.high, (few_pending m).1))) r held) (λ ne. held);
    mine = λ e. absurd cc;
  }

  -- A take counts the records: there are none, or it goes on.
  count_records : (t : MailTask) → AtMailPhase at.Count b host floor t s m → Acted b host floor m s s t.ask (cond (t.gate == 0) (Taken []) Go) (record t { phase = at.DropRecord 0 })
  count_records t known =
      by_equal (λ (turn : Turn). Acted b host floor m s s t.ask turn (record t { phase = at.DropRecord 0 })) t.gate 0 (Taken []) Go
      (λ e. taken s t.ask [] (record t { phase = at.DropRecord 0 }) core (λ h ne. keeps_same b h s m)
      (record { front = refl; within = omega arith; holds = subst (IsAtLeast floor) e known.0.low }) (omega arith))
      (λ ne. goes_on s t.ask (record t { phase = at.DropRecord 0 }) core (λ h not. keeps_same b h s m) (record { has = known.0; below = omega (arith, ne); read = known.1 }))

  -- A record's line is dropped.
  drop_record : (s' : SharedState) (t : MailTask) (i : ℕ) → AtMailPhase (at.DropRecord i) b host floor t s m
      → LeavesAt host (b.place (1 + i)) s s' (sent (s.memory (b.place (1 + i))) (s.copy host (b.place (1 + i)))) Absent
      → Acted b host floor m s s' t.ask Go (record t { phase = at.LoadRecord i 0 })
  drop_record s' t i known left =
      let moves = transfers_at host (b.place (1 + i)) s s' _ _ left (absent_transfers (s.memory (b.place (1 + i))) (s.copy host (b.place (1 + i)))) in
      let then = phase_kept b s s' m core host (moved_keeps s' (b.place (1 + i)) moves host) (at.DropRecord i) floor t known in
      goes_on s' t.ask (record t { phase = at.LoadRecord i 0 }) (moved_core s' (b.place (1 + i)) moves) (λ h ne. moved_keeps s' (b.place (1 + i)) moves h)
      (omega arith, record { has = then; fresh = subst (λ (c : Cell). Fresh (s'.memory (b.place (1 + i))) c) (sym left.copy_is) tt; words = refl })

  -- A word of a record is loaded.
  module _ (s' : SharedState) (t : MailTask) (i k word : ℕ) (lt : k < 8) (long : length t.words ≡ 8) (reading : IsReading i k b host floor t.gate t.words t.records s m)
      (left : LeavesAt host (b.place (1 + i)) s s' (s.memory (b.place (1 + i))) (brought (s.memory (b.place (1 + i))) (s.copy host (b.place (1 + i)))))
      (given : word ≡ slice_index (current (s.memory (b.place (1 + i))) (s.copy host (b.place (1 + i)))) k) where
    line_moves : TransfersAt host (b.place (1 + i)) s s'
    line_moves = transfers_at host (b.place (1 + i)) s s' _ _ left (brought_transfers (s.memory (b.place (1 + i))) (s.copy host (b.place (1 + i))))

    then : IsReading i k b host floor t.gate t.words t.records s' m
    then = (phase_kept b s s' m core host (moved_keeps s' (b.place (1 + i)) line_moves host) (at.LoadRecord i k) floor t (lt, reading)).1

    here : List ℕ
    here = s'.memory (b.place (1 + i))

    below : i < top_at b s
    below = omega (arith, reading.has.below, reading.has.has.high, core.order)

    word_read : word ≡ slice_index (s'.memory (b.place (1 + i))) k
    word_read =
        given ∙ ap (λ (w : List ℕ). slice_index w k) (fresh_current (s.memory (b.place (1 + i))) (s.copy host (b.place (1 + i))) reading.fresh)
        ∙ ap (λ (w : List ℕ). slice_index w k) (sym ((moved_keeps s' (b.place (1 + i)) line_moves host).memory i below))

    more_words : take (k + 1) (slice_set t.words k word) ≡ take (k + 1) (s'.memory (b.place (1 + i)))
    more_words =
        subst (λ (n : ℕ). take n (slice_set t.words k word) ≡ take n (s'.memory (b.place (1 + i)))) (sym (add-one k))
        (take-suc-set t.words k word (omega (arith, lt, long)) ∙ ap (λ (w : List ℕ). w ++ word ∷ []) then.words ∙ ap (λ (x : ℕ). take k (s'.memory (b.place (1 + i))) ++ x ∷ []) word_read
        ∙ sym (take-suc (s'.memory (b.place (1 + i))) k 0 (omega (arith, lt, (moved_core s' (b.place (1 + i)) line_moves).wide.memory (b.place (1 + i))))))

    -- a word that isn't the last one
    next_word : k ≢ 7 → Acted b host floor m s s' t.ask Go (record t { phase = at.LoadRecord i (k + 1); words = words_with k word t })
    next_word ne =
        goes_on s' t.ask (record t { phase = at.LoadRecord i (k + 1); words = words_with k word t }) (moved_core s' (b.place (1 + i)) line_moves)
        (λ h not. moved_keeps s' (b.place (1 + i)) line_moves h)
        (omega (arith, lt, ne), record { has = then.has; fresh = then.fresh; words = more_words })

    module _ (last : k ≡ 7) where
      -- the record's line was loaded whole
      loaded : slice_set t.words 7 word ≡ s'.memory (b.place (1 + i))
      loaded =
          let wide : length (s'.memory (b.place (1 + i))) ≡ 8 = (moved_core s' (b.place (1 + i)) line_moves).wide.memory (b.place (1 + i)) in
          sym (take_all 8 (slice_set t.words 7 word) (omega (arith, length-set t.words 7 word, long)))
          ∙ subst (λ (n : ℕ). take (n + 1) (slice_set t.words n word) ≡ take (n + 1) (s'.memory (b.place (1 + i)))) last more_words
          ∙ take_all 8 (s'.memory (b.place (1 + i))) (omega (arith, wide))

      -- it is the record that stands there
      member : (numbers : List ℕ) × (slice_get (whole m) i ≡ Some numbers)
      member = go (slice_get_cases (whole m) i).1
        where
          go : ((numbers : List ℕ) × (i < length (whole m)) × (slice_get (whole m) i ≡ Some numbers) × (get_or (whole m) i numbers ≡ numbers))
              ⊎ ((length (whole m) ≤ i) × (slice_get (whole m) i ≡ None)) → (numbers : List ℕ) × (slice_get (whole m) i ≡ Some numbers)
          go (inl e) = (e.0, e.2)
          go (inr e) = absurd (omega (arith, e.0, below, core.high))

      reads : record_in (slice_set t.words 7 word) ≡ Ok member.0
      reads = ap record_in loaded ∙ (moved_core s' (b.place (1 + i)) line_moves).stands i member.0 member.1 (omega (arith, below, (gate_moved b s s' m core host (b.place (1 + i)) line_moves).2))

      -- one record more is read
      read_more : records_with word t ≡ take (suc i) (whole m)
      read_more =
          ap (λ (r : List (List ℕ)). r ++ numbers_in (slice_set t.words 7 word) ∷ []) then.has.read
          ∙ ap (λ (ns : List ℕ). take i (whole m) ++ ns ∷ []) (read_as (slice_set t.words 7 word) member.0 reads).1
          ∙ sym (take_member (whole m) i member.0 member.1)

      next : MailTask
      next = record t { phase = at.DropRecord (i + 1); words = words_with 7 word t; records = records_with word t }

      whole_record : Acted b host floor m s s' t.ask (record_turn (wrong_word (words_with 7 word t)) i word t)
          (record t { phase = at.DropRecord (i + 1); words = words_with 7 word t; records = records_with word t })
      whole_record =
          subst (λ (o : Option ℕ). Acted b host floor m s s' t.ask (record_turn o i word t) (record t { phase = at.DropRecord (i + 1); words = words_with 7 word t; records = records_with word t }))
          (sym (read_as (slice_set t.words 7 word) member.0 reads).0)
          (by_equal (λ (turn : Turn). Acted b host floor m s s' t.ask turn (record t { phase = at.DropRecord (i + 1); words = words_with 7 word t; records = records_with word t })) (i + 1) t.gate
          (Taken (records_with word t)) Go end more)
        where
          core' : BoxCore b s' m
          core' = moved_core s' (b.place (1 + i)) line_moves

          count : length (records_with word t) ≡ i + 1
          count = ap (λ (r : List (List ℕ)). length r) read_more ∙ length-take-le (suc i) (whole m) (omega (arith, below, core.high)) ∙ sym (add-one i)

          end : i + 1 ≡ t.gate → Acted b host floor m s s' t.ask (Taken (records_with word t)) (record t { phase = at.DropRecord (i + 1); words = words_with 7 word t; records = records_with word t })
          end e =
              taken s' t.ask (records_with word t) (record t { phase = at.DropRecord (i + 1); words = words_with 7 word t; records = records_with word t }) core'
              (λ h not. moved_keeps s' (b.place (1 + i)) line_moves h)
              (record {
                front = read_more ∙ ap (λ (n : ℕ). take n (whole m)) (sym (count ∙ add-one i));
                within = omega (arith, count, below, core.high);
                holds = subst (IsAtLeast floor) (sym (count ∙ e)) then.has.has.low;
              })
              (omega (arith, count, e, then.has.has.high))

          more : i + 1 ≢ t.gate → Acted b host floor m s s' t.ask Go (record t { phase = at.DropRecord (i + 1); words = words_with 7 word t; records = records_with word t })
          more ne =
              goes_on s' t.ask (record t { phase = at.DropRecord (i + 1); words = words_with 7 word t; records = records_with word t }) core' (λ h not. moved_keeps s' (b.place (1 + i)) line_moves h)
              (record { has = then.has.has; below = omega (arith, ne, then.has.below); read = read_more ∙ ap (λ (n : ℕ). take n (whole m)) (sym (add-one i)) })

    load_word : Acted b host floor m s s' t.ask (phase_turn (at.LoadRecord i k) word t) (phase_task (at.LoadRecord i k) word t)
    load_word = by_equal_both (λ (turn : Turn) (x : MailTask). Acted b host floor m s s' t.ask turn x) k 7
        (record_turn (wrong_word (words_with 7 word t)) i word t) Go
        (record t { phase = at.DropRecord (i + 1); words = words_with 7 word t; records = records_with word t }) (record t { phase = at.LoadRecord i (k + 1); words = words_with k word t })
        whole_record next_word

  -- By the phase.
  module _ (s' : SharedState) (t : MailTask) (word : ℕ) (capacity : t.capacity ≡ b.capacity) (long : length t.words ≡ 8) (post : IsPost t.ask → IsWriters b host t.ask) where
    act : (p : Phase) → AtMailPhase p b host floor t s m → Operates (phase_op p b.place t) host s s' word → Acted b host floor m s s' t.ask (phase_turn p word t) (phase_task p word t)
    act at.DropGate known done = drop_gate s' t known done
    act at.LoadGate known done = gate_by s' t word capacity post known.0 known.1 done.0 done.1 t.ask refl
    act (at.StoreRecord k) known done = store_word s' t k known.0 known.1 known.2 done
    act at.SendRecord known done = send_record s' t known done
    act at.FenceRecord known done = fence_record s' t known done
    act at.StoreGate known done = store_gate s' t known.0 known.1 done
    act at.SendGate known done = send_gate s' t known done
    act at.FenceGate known done = fence_gate s' t known done
    act at.Count known done = subst (λ (x : SharedState). Acted b host floor m s x t.ask (phase_turn at.Count word t) (phase_task at.Count word t)) (sym done) (count_records t known)
    act (at.DropRecord i) known done = drop_record s' t i known done
    act (at.LoadRecord i k) known done = load_word s' t i k word known.0 long known.1 done.0 done.1

-- a task goes on with what it was asked, on the same box, and with eight words
same_ask : (p : Phase) (word : ℕ) (t : MailTask) → (phase_task p word t).ask ≡ t.ask
same_ask (at.LoadRecord i k) word t = by_equal (λ (x : MailTask). x.ask ≡ t.ask) k 7
    (record t { phase = at.DropRecord (i + 1); words = words_with 7 word t; records = records_with word t }) (record t { phase = at.LoadRecord i (k + 1); words = words_with k word t }) (λ e. refl)
    (λ ne. refl)
same_ask other word t = refl

same_capacity : (p : Phase) (word : ℕ) (t : MailTask) → (phase_task p word t).capacity ≡ t.capacity
same_capacity (at.LoadRecord i k) word t = by_equal (λ (x : MailTask). x.capacity ≡ t.capacity) k 7
    (record t { phase = at.DropRecord (i + 1); words = words_with 7 word t; records = records_with word t }) (record t { phase = at.LoadRecord i (k + 1); words = words_with k word t }) (λ e. refl)
    (λ ne. refl)
same_capacity other word t = refl

still_long : (p : Phase) (word : ℕ) (t : MailTask) → length (phase_task p word t).words ≡ length t.words
still_long (at.LoadRecord i k) word t = by_equal (λ (x : MailTask). length x.words ≡ length t.words) k 7
    (record t { phase = at.DropRecord (i + 1); words = words_with 7 word t; records = records_with word t }) (record t { phase = at.LoadRecord i (k + 1); words = words_with k word t })
    (λ e. length-set t.words 7 word) (λ ne. length-set t.words k word)
still_long other word t = refl

-- A step of a run.
pub step_holds : (b : Box) (host word : ℕ) (m : Mail) (r : TaskRun) (old new : TaskRuns) (s s' : SharedState) → BoxInvariant b old s m → TakesTurn b host word m r old new s s'
    → TurnHolds b word m r new s'
step_holds b host word m r old new s s' inv step =
    let t : MailTask = r.task in
    let holds : RunHolds b host r s m = inv.tasks host r step.is in
    let acted : Acted b host r.floor m s s' t.ask (mail_turn word t) (next_task word t) = act b host r.floor m s inv.core s' t word holds.capacity holds.long holds.post t.phase holds.phase
    step.operates in
    record {
      says = acted.says;
      invariant = record { core = acted.core; tasks = λ h x is. tasks acted holds h x is (cases_eq h host) };
    }
  where
    own : Acted b host r.floor m s s' r.task.ask (mail_turn word r.task) (next_task word r.task) → RunHolds b host r s m → (over : Bool) → ends_mail_task (mail_turn word r.task) ≡ over → (x : TaskRun)
        → cond over None (Some (record { task = next_task word r.task; floor = floor_behind_turn (mail_turn word r.task) (length m.list) r.floor })) ≡ Some x
        → RunHolds b host x s' (settles (mail_turn word r.task) r.task.ask m)
    own acted holds true is x same = absurd cc
    own acted holds false is x same =
        subst (λ (y : TaskRun). RunHolds b host y s' (settles (mail_turn word r.task) r.task.ask m)) (same_Some _ x same) (record {
          capacity = same_capacity r.task.phase word r.task ∙ holds.capacity;
          long = still_long r.task.phase word r.task ∙ holds.long;
          post = subst (λ (a : Ask). IsPost a → IsWriters b host a) (sym (same_ask r.task.phase word r.task)) holds.post;
          phase = acted.mine is;
        })

    tasks : Acted b host r.floor m s s' r.task.ask (mail_turn word r.task) (next_task word r.task) → RunHolds b host r s m → (h : ℕ) (x : TaskRun) → new h ≡ Some x → (h ≡ host) ⊎ (h ≢ host)
        → RunHolds b h x s' (settles (mail_turn word r.task) r.task.ask m)
    tasks acted holds h x is (inl e) =
        subst (λ (k : ℕ). RunHolds b k x s' (settles (mail_turn word r.task) r.task.ask m)) (sym e)
        (own acted holds (ends_mail_task (mail_turn word r.task)) refl x (sym step.mine ∙ ap new (sym e) ∙ is))
    tasks acted holds h x is (inr ne) = acted.others h ne x (inv.tasks h x (sym (step.others h ne) ∙ is))
