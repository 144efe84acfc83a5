-- Laws of runs of a mailbox's events, and of legal journals.
use Rattle.std.proofs.Common.{◌≡◌, ◌+◌, ◌≤◌, ◌⊎◌, ℕ, inl, inr, List, [], ◌∷◌, ◌++◌, length, take, refl, sym, ap, subst, ◌∙◌, arith}
use Prim.Native.Nat.{zero, suc}
use Rattle.std.specs.Prelude.{◌==◌, nat_lt, cond, Bool, true, false, is_some, Option, Some, None}
use Rattle.std.proofs.lemmas.List.{append-nil, append_assoc}
use Rattle.std.proofs.lemmas.Option.{same_Some}
use Rattle.fam_base.specs.Image.{Image, line_at}
use Rattle.fam_base.specs.PathOrder.{path_eq}
use Rattle.fam_base.specs.declared.entry.Entry.{Entry}
use Rattle.fam_machine.specs.Operations.{operated}
use Rattle.fam_protocol.specs.Lines.{IsAtLeast}
use Rattle.fam_rules.specs.Written.{file_line}
use Rattle.fam_mail.specs.declared.ask.Ask.{Ask}
use Rattle.fam_mail.specs.declared.event.MailEvent.{MailEvent}
use Rattle.fam_mail.specs.declared.event.MailEvent.TheVariants.{Finish, Run}
use Rattle.fam_mail.specs.declared.note.MailNote.{MailNote}
use Rattle.fam_mail.specs.declared.note.MailNote.TheVariants.{Mark, Found, Posted, Full, Taken, BadBox, BadRecord}
use Rattle.fam_mail.specs.declared.note.MailRefusal.{MailRefusal}
use Rattle.fam_mail.specs.declared.turn.Turn.{Turn}
use Rattle.fam_mail.specs.declared.turn.Turn.TheVariants as turn
use Rattle.fam_mail.specs.Boxes.{capacity_of}
use Rattle.fam_mail.specs.Calls.{begin_refusal, no_task_refusal, refusal_named, notes_of_turn}
use Rattle.fam_mail.specs.Follows.{AreSoundMailEvents, MailByRefusal, CompletesTask, BeginsAndDoes, MailDoes, MailFollows, IsSoundMailAsk, OfNamedHost, world_of}
use Rattle.fam_mail.specs.Happens.{HasRunMail, IsMailHeld, mail_faults, past_told}
use Rattle.fam_mail.specs.Legal.{LegalMail, LegalMailBehind, MayCome, MayTakeList, MailState, first_mail_state, floor_behind, mail_settled_behind, own_record, mail_state_along, mail_state_behind, mail_state}
use Rattle.fam_mail.specs.Machines.{IsTaskCut, IsTaskServed, MailMachines, MailOperation, MailOperations, has_task_at, host_behind, has_own_task, host_machine, more, none, unused_machines, word_given}
use Rattle.fam_mail.specs.Mail.{Mail, pending_dropped, pending_joined, pending_list, whole}
use Rattle.fam_mail.specs.RunLaws.{AreNoMarks, TaskAnswers, IsBoxAtFirst, IsBoxLeft, IsNoMark, IsMailRefused, IsTakenList, LastMark}
use Rattle.fam_mail.specs.Tasks.{ends_mail_task, task_op, next_task, mail_turn}
use Rattle.fam_mail.specs.World.{MailHost, MailView}
use Rattle.fam_mail.proofs.Calling.{has_task}
use Rattle.fam_mail.proofs.Following.{Named, begun_held, begun_named, follows_held, found_cause, found_name, operation_held, operations_held}
use Rattle.fam_mail.proofs.Holding.{name_is, own_name, stands_as}
use Rattle.fam_mail.proofs.Journals.{legal_at, state_both}
use Rattle.fam_mail.proofs.Members.{changed_here}
use Rattle.fam_mail.proofs.Outcomes.{begun, box_told, rest_stays}
use Rattle.fam_mail.proofs.Rows.{both_faults}

-- The beginning.

first_held : (entry : Entry) (image : Image) (records : List (List ℕ)) → IsBoxAtFirst entry image records → IsMailHeld entry image records (unused_machines image) []
first_held entry image records first = record {
  legal = refl;
  stands = stands_as (line_at image) (record { entry = entry; hosts = []; journal = [] }) (record { mail = record { list = records; pending = None }; floors = λ h. None })
      (past_told (first_mail_state records) []) image
      (begun entry image records first.apart first.normal first.reads) refl (λ k x t is. absurd cc);
  asked = λ k x t is. absurd cc;
  one = λ k x is. absurd cc;
  named = λ k x is. absurd cc;
  place = first.place;
  normal = first.normal;
}

-- a run of no event
pub first_run : (entry : Entry) (image : Image) (records : List (List ℕ)) → IsBoxAtFirst entry image records
    → HasRunMail image records [] (record { entry = entry; hosts = []; journal = [] }) (Some image)
first_run entry image records first =
    record { reads = first.reads; last = unused_machines image; follows = (refl, refl); shown_is = refl; hosts_are = refl; held = first_held entry image records first }

-- each run of events is held
pub events_held : (entry : Entry) (image : Image) (records : List (List ℕ)) (events : List MailEvent) (journal : List MailNote) (last : MailMachines) → IsBoxAtFirst entry image records
    → AreSoundMailEvents events → MailFollows entry events (unused_machines image) journal last
    → IsMailHeld entry image records last journal
events_held entry image records events journal last first sound follows =
    follows_held entry image records events (unused_machines image) [] (first_held entry image records first) sound journal last follows

-- What is left.
pub left_box : (entry : Entry) (start : Image) (records : List (List ℕ)) (m : MailMachines) (journal : List MailNote) → IsMailHeld entry start records m journal
    → IsBoxLeft entry start m.memory (mail_state (capacity_of entry.size) records journal).mail
left_box entry start records m journal held =
    let v : MailView = record { entry = entry; hosts = m.hosts; journal = journal } in
    let past = past_told (mail_state (capacity_of entry.size) records journal) m.hosts in
    record { reads = box_told (line_at start) v past m.memory held.stands; others = rest_stays (line_at start) v past m.memory held.stands }

-- of what a media shows of it
pub shown_left : (entry : Entry) (start image : Image) (records : List (List ℕ)) (m : MailMachines) (journal : List MailNote) → Some image ≡ Some m.memory
    → IsMailHeld entry start records m journal → IsBoxLeft entry start image (mail_state (capacity_of entry.size) records journal).mail
shown_left entry start image records m journal shown held =
    subst (λ (i : Image). IsBoxLeft entry start i (mail_state (capacity_of entry.size) records journal).mail) (sym (same_Some image m.memory shown)) (left_box entry start records m journal held)

-- Legal journals.

-- each note of a legal journal may come where it stands
pub each_note : (capacity : ℕ) (records : List (List ℕ)) (before : List MailNote) (x : MailNote) (behind : List MailNote) → LegalMail capacity records (before ++ x ∷ behind)
    → MayCome capacity (mail_state capacity records before) x
each_note capacity records before x behind legal = legal_at capacity (first_mail_state records) before x behind legal

-- so none finds the box to be none
pub no_bad_box : (capacity : ℕ) (records : List (List ℕ)) (before : List MailNote) (name : List ℕ) (gate most : ℕ) (behind : List MailNote)
    → LegalMail capacity records (before ++ BadBox name gate most ∷ behind) → ⊥
no_bad_box capacity records before name gate most behind legal = (each_note capacity records before (BadBox name gate most) behind legal).row

-- nor a record of it
pub no_bad_record : (capacity : ℕ) (records : List (List ℕ)) (before : List MailNote) (name : List ℕ) (i word : ℕ) (behind : List MailNote)
    → LegalMail capacity records (before ++ BadRecord name i word ∷ behind) → ⊥
no_bad_record capacity records before name i word behind legal = (each_note capacity records before (BadRecord name i word) behind legal).row

-- What is settled only grows.

-- a list has another one in front
abbrev Grows : List (List ℕ) → List (List ℕ) → Type 0
Grows old new = (rest : List (List ℕ)) × (new ≡ old ++ rest)

grows_same : (l : List (List ℕ)) → Grows l l
grows_same l = ([], sym (append-nil l))

grows_joined : (b : Bool) (m m' : Mail) → m'.list ≡ m.list → Grows m.list (cond b (pending_joined m) m').list
grows_joined true m m' same = (pending_list m.pending, refl)
grows_joined false m m' same = ([], same ∙ sym (append-nil m.list))

grows_found : (b c : Bool) (m : Mail) (own : Option (List ℕ))
    → Grows m.list (cond b (record (cond c (pending_joined m) (pending_dropped m)) { pending = own }) (cond c (pending_joined m) (pending_dropped m))).list
grows_found true c m own = grows_joined c m (pending_dropped m) refl
grows_found false c m own = grows_joined c m (pending_dropped m) refl

grows_note : (capacity : ℕ) (s : MailState) (x : MailNote) → Grows s.mail.list (mail_settled_behind capacity s x).list
grows_note capacity s (Found name n) = grows_found (nat_lt n capacity) (n == length s.mail.list + 1) s.mail (own_record (s.asked name))
grows_note capacity s (Posted name n) = grows_joined (n == length s.mail.list) s.mail s.mail refl
grows_note capacity s (Taken name count records) = grows_joined (count == length s.mail.list + 1) s.mail s.mail refl
grows_note capacity s other = grows_same s.mail.list

grows_both : (a b c : List (List ℕ)) → Grows a b → Grows b c → Grows a c
grows_both a b c first second = (first.0 ++ second.0, second.1 ∙ ap (λ (l : List (List ℕ)). l ++ second.0) first.1 ∙ append_assoc a first.0 second.0)

grows_along : (capacity : ℕ) (s : MailState) (notes : List MailNote) → Grows s.mail.list (mail_state_along capacity s notes).mail.list
grows_along capacity s [] = grows_same s.mail.list
grows_along capacity s (x ∷ notes) =
    grows_both s.mail.list (mail_state_behind capacity s x).mail.list (mail_state_along capacity (mail_state_behind capacity s x) notes).mail.list (grows_note capacity s x)
    (grows_along capacity (mail_state_behind capacity s x) notes)

-- a front of a front
front_twice : {A : Type 0} (l q : List A) (k : ℕ) → length l ≤ k → take (length l) (take k (l ++ q)) ≡ l
front_twice {A} [] q k below = refl
front_twice {A} (x ∷ l) q zero below = absurd (omega (arith, below))
front_twice {A} (x ∷ l) q (suc k) below = ap (λ (ys : List A). x ∷ ys) (front_twice l q k (omega (arith, below)))

-- Marks.

-- a note is a mark of this host, or changes nothing of its floor
mark_or_not : (name : List ℕ) (s : MailState) (x : MailNote) → (x ≡ Mark name) ⊎ (IsNoMark name x × (floor_behind s x name ≡ s.floor name))
mark_or_not name s (Mark other) = by (path_eq name other) refl
  where
    by : (b : Bool) → path_eq name other ≡ b → (Mark other ≡ Mark name) ⊎ ((other ≡ name → ⊥) × (cond (path_eq name other) (Some (length s.mail.list)) (s.floor name) ≡ s.floor name))
    by true e = inl (ap (λ (n : List ℕ). Mark n) (sym (name_is name other e)))
    by false e = inr (
      λ same. absurd (let yes : path_eq name other ≡ true = ap (λ (n : List ℕ). path_eq name n) same ∙ own_name name in cc),
      ap (λ (b : Bool). cond b (Some (length s.mail.list)) (s.floor name)) e,
    )
mark_or_not name s other = inr (tt, refl)

-- the last mark, with as many records as were settled then
record Marked (capacity : ℕ) (s : MailState) (name : List ℕ) (journal : List MailNote) : Type 0 where
  mark : LastMark name journal
  floor : (mail_state_along capacity s journal).floor name ≡ Some (length (mail_state_along capacity s mark.front).mail.list)

abbrev Unmarked : ℕ → MailState → List ℕ → List MailNote → Type 0
Unmarked capacity s name journal = AreNoMarks name journal × ((mail_state_along capacity s journal).floor name ≡ s.floor name)

last_mark : (capacity : ℕ) (name : List ℕ) (s : MailState) (journal : List MailNote) → Unmarked capacity s name journal ⊎ Marked capacity s name journal
last_mark capacity name s [] = inl (tt, refl)
last_mark capacity name s (x ∷ journal) = by (last_mark capacity name (mail_state_behind capacity s x) journal) (mark_or_not name s x)
  where
    by : Unmarked capacity (mail_state_behind capacity s x) name journal ⊎ Marked capacity (mail_state_behind capacity s x) name journal
        → (x ≡ Mark name) ⊎ (IsNoMark name x × (floor_behind s x name ≡ s.floor name))
        → Unmarked capacity s name (x ∷ journal) ⊎ Marked capacity s name (x ∷ journal)
    by (inr m) here = inr (record { mark = record { front = x ∷ m.mark.front; behind = m.mark.behind; is = ap (λ (j : List MailNote). x ∷ j) m.mark.is; last = m.mark.last }; floor = m.floor })
    by (inl u) (inl e) = inr (record {
      mark = record { front = []; behind = journal; is = ap (λ (y : MailNote). y ∷ journal) e; last = u.0 };
      floor = u.1 ∙ ap (λ (y : MailNote). floor_behind s y name) e ∙ ap (λ (b : Bool). cond b (Some (length s.mail.list)) (s.floor name)) (own_name name);
    })
    by (inl u) (inr other) = inl ((other.0, u.0), u.1 ∙ other.1)

-- Lists that are taken.
pub taken_list : (capacity : ℕ) (records : List (List ℕ)) (before : List MailNote) (name : List ℕ) (count : ℕ) (taken : List (List ℕ)) (behind : List MailNote)
    → LegalMail capacity records (before ++ Taken name count taken ∷ behind)
    → IsTakenList capacity records before name count taken
taken_list capacity records before name count taken behind legal = by (last_mark capacity name (first_mail_state records) before)
  where
    row : MayTakeList count taken ((mail_state capacity records before).floor name) (mail_state capacity records before).mail
    row = (each_note capacity records before (Taken name count taken) behind legal).row

    by : Unmarked capacity (first_mail_state records) name before ⊎ Marked capacity (first_mail_state records) name before → IsTakenList capacity records before name count taken
    by (inl u) = absurd (subst (λ (f : Option ℕ). IsAtLeast f (length taken)) u.1 row.front.holds)
    by (inr m) =
        let s = mail_state capacity records before in
        let front = mail_state capacity records m.mark.front in
        let low : length front.mail.list ≤ length taken = subst (λ (f : Option ℕ). IsAtLeast f (length taken)) m.floor row.front.holds in
        let state_is : s ≡ mail_state_along capacity front (Mark name ∷ m.mark.behind) = ap (λ (j : List MailNote). mail_state capacity records j) m.mark.is
        ∙ state_both capacity (first_mail_state records) m.mark.front (Mark name ∷ m.mark.behind) in
        let grown = grows_along capacity front (Mark name ∷ m.mark.behind) in
        let list_is : s.mail.list ≡ front.mail.list ++ grown.0 = ap (λ (y : MailState). y.mail.list) state_is ∙ grown.1 in
        let whole_is : whole s.mail ≡ front.mail.list ++ (grown.0 ++ pending_list s.mail.pending) = ap (λ (l : List (List ℕ)). l ++ pending_list s.mail.pending) list_is
        ∙ append_assoc front.mail.list grown.0 (pending_list s.mail.pending) in
        let taken_is : taken ≡ take (length taken) (front.mail.list ++ (grown.0 ++ pending_list s.mail.pending)) = row.front.front ∙ ap (take (length taken)) whole_is in
        record {
          count_is = row.count_is;
          within = omega (arith, row.count_is, row.front.within);
          front = row.front.front ∙ ap (λ (n : ℕ). take n (whole s.mail)) (sym row.count_is);
          mark = m.mark;
          holds = sym (ap (take (length front.mail.list)) taken_is ∙ front_twice front.mail.list (grown.0 ++ pending_list s.mail.pending) (length taken) low);
        }

-- Tasks that are run to their end.

legal_behind : (capacity : ℕ) (s : MailState) (a b : List MailNote) → LegalMailBehind capacity s (a ++ b) → LegalMailBehind capacity (mail_state_along capacity s a) b
legal_behind capacity s [] b legal = legal
legal_behind capacity s (x ∷ a) b legal = legal_behind capacity (mail_state_behind capacity s x) a b legal.1

-- the notes of a turn that ends a task
turn_answers : (capacity : ℕ) (s : MailState) (name : List ℕ) (t : Turn) → ends_mail_task t ≡ true → LegalMailBehind capacity s (notes_of_turn name t) → TaskAnswers name (notes_of_turn name t)
turn_answers capacity s name turn.Go over legal = absurd cc
turn_answers capacity s name turn.Mark over legal = absurd cc
turn_answers capacity s name (turn.Found n) over legal = absurd cc
turn_answers capacity s name (turn.Posted n) over legal = record { before = []; answer = Posted name n; is = refl; answers = refl }
turn_answers capacity s name (turn.Full n) over legal = record { before = Found name n ∷ []; answer = Full name n; is = refl; answers = refl }
turn_answers capacity s name (turn.Taken records) over legal = record { before = []; answer = Taken name (length records) records; is = refl; answers = refl }
turn_answers capacity s name (turn.BadBox gate most) over legal = absurd legal.0.row
turn_answers capacity s name (turn.BadRecord i word) over legal = absurd legal.0.row

-- more notes before
answers_behind : (name : List ℕ) (first notes all : List MailNote) → all ≡ first ++ notes → TaskAnswers name notes → TaskAnswers name all
answers_behind name first notes all is e = record {
  before = first ++ e.before;
  answer = e.answer;
  is = is ∙ ap (λ (ns : List MailNote). first ++ ns) e.is ∙ sym (append_assoc first e.before (e.answer ∷ []));
  answers = e.answers;
}

over_of : (over : Bool) (task : Option Rattle.fam_mail.specs.Tasks.MailTask) (next : Rattle.fam_mail.specs.Tasks.MailTask) → task ≡ cond over None (Some next) → is_some task ≡ false → over ≡ true
over_of true task next is idle = refl
over_of false task next is idle = absurd (let busy : is_some task ≡ true = ap (λ (o : Option Rattle.fam_mail.specs.Tasks.MailTask). is_some o) is in cc)

module _ (entry : Entry) (start : Image) (records : List (List ℕ)) where
  -- the last operation
  operation_answers : (m : MailMachines) (journal : List MailNote) → IsMailHeld entry start records m journal → (name : List ℕ) (n : ℕ) → Named name n m
      → (notes : List MailNote) (new : MailMachines) → MailOperation entry name n m notes new → has_task_at n new ≡ false → mail_faults notes ≡ 0 → TaskAnswers name notes
  operation_answers m journal held name n named notes new op idle quiet = by op.how
    where
      legal : LegalMailBehind (capacity_of entry.size) (mail_state (capacity_of entry.size) records journal) notes
      legal = legal_behind (capacity_of entry.size) (first_mail_state records) journal notes (operation_held entry start records m journal held name n named notes new op).0.legal

      by : IsTaskServed entry name n op.host op.task m notes new ⊎ IsTaskCut entry name n op.host op.task m notes new → TaskAnswers name notes
      by (inl served) =
          let o = task_op (file_line entry) op.task in
          let x = host_machine m op.host in
          let word = word_given o x in
          let next = host_behind op.host op.task word (operated o x).cache in
          let left : has_task_at n new ≡ is_some next.task = ap (λ (q : MailMachines). has_task_at n q) served.left
          ∙ ap has_own_task (changed_here n (λ (h : MailHost). next) m.hosts op.host op.host_is) in
          let over : ends_mail_task (mail_turn word op.task) ≡ true = over_of (ends_mail_task (mail_turn word op.task)) next.task (next_task word op.task) refl (sym left ∙ idle) in
          subst (TaskAnswers name) (sym served.notes_are)
          (turn_answers (capacity_of entry.size) (mail_state (capacity_of entry.size) records journal) name (mail_turn word op.task) over
          (subst (LegalMailBehind (capacity_of entry.size) (mail_state (capacity_of entry.size) records journal)) served.notes_are legal))
      by (inr cut) = absurd (let one : mail_faults notes ≡ 1 = ap mail_faults cut.notes_are in omega (arith, one, quiet))

  operations_answer : (m : MailMachines) (journal : List MailNote) → IsMailHeld entry start records m journal → (name : List ℕ) (n : ℕ) → Named name n m
      → (count : ℕ) (notes : List MailNote) (new : MailMachines) → MailOperations entry name n m count notes new
      → has_task_at n m ≡ true → has_task_at n new ≡ false → mail_faults notes ≡ 0 → TaskAnswers name notes
  operations_answer m journal held name n named _ _ _ none busy idle quiet = absurd cc
  operations_answer m journal held name n named _ _ new (more {count = count} {notes = notes} {last = final} {mid = mid} operations op) busy idle quiet =
      let before = operations_held entry start records m journal held name n named count notes mid operations in
      answers_behind name notes final (notes ++ final) refl (operation_answers mid (journal ++ notes) before.0 name n before.1 final new op idle
      (let all = both_faults notes final in omega (arith, all, quiet)))

  -- it is refused, or acts
  refused_or : (name : List ℕ) (first : Option MailRefusal) (m : MailMachines) (notes : List MailNote) (new : MailMachines) (acts : Type 0) → MailByRefusal name first m notes new acts
      → IsMailRefused name notes ⊎ ((first ≡ None) × acts)
  refused_or name None m notes new acts x = inr (refl, x)
  refused_or name (Some cause) m notes new acts x = inl (record { cause = cause; is = x.0 })

  module _ (m : MailMachines) (journal : List MailNote) (held : IsMailHeld entry start records m journal) (name : List ℕ) (notes : List MailNote) (left : MailMachines)
      (quiet : mail_faults notes ≡ 0) where
    finished : (refusal_named name no_task_refusal (world_of entry m) ≡ None) × OfNamedHost name m (λ at host. CompletesTask entry name at m notes left) → TaskAnswers name notes
    finished x =
        let o = x.1 in
        let busy : has_task_at o.at m ≡ true = ap has_own_task o.host_is ∙ has_task o.host (found_cause name no_task_refusal (world_of entry m) o.at o.host o.number o.host_is x.0) in
        operations_answer m journal held name o.at (record { host = o.host; host_is = o.host_is; same = found_name name m.hosts o.at o.host o.number o.host_is }) o.does.count notes left
        o.does.does busy o.does.over quiet

    by_finish : IsMailRefused name notes ⊎ ((refusal_named name no_task_refusal (world_of entry m) ≡ None) × OfNamedHost name m (λ at host. CompletesTask entry name at m notes left))
        → IsMailRefused name notes ⊎ TaskAnswers name notes
    by_finish (inl refused) = inl refused
    by_finish (inr x) = inr (finished x)

    -- a task that is finished without a fault answers
    pub finish_answers : MailDoes entry (Finish name) m notes left → IsMailRefused name notes ⊎ TaskAnswers name notes
    finish_answers x = by_finish (refused_or name (refusal_named name no_task_refusal (world_of entry m)) m notes left (OfNamedHost name m (λ at host. CompletesTask entry name at m notes left)) x)

    module _ (ask : Ask) (proper : IsSoundMailAsk ask) where
      run_done : (refusal_named name (begin_refusal ask) (world_of entry m) ≡ None) × BeginsAndDoes (CompletesTask entry name) entry name ask m notes left → TaskAnswers name notes
      run_done x =
          let c = x.1 in
          let mid = begun_held entry start records m journal held name ask proper x.0 c.first c.mid c.begun in
          let named = begun_named entry start records m journal held name ask proper x.0 c.first c.mid c.begun in
          let next : MailHost = record c.begun.host { task = Some (Rattle.fam_mail.specs.Tasks.new_task ask (capacity_of entry.size)) } in
          let busy : has_task_at c.begun.at c.mid ≡ true = ap (λ (q : MailMachines). has_task_at c.begun.at q) c.begun.does.left
          ∙ ap has_own_task (changed_here c.begun.at (λ (h : MailHost). next) m.hosts c.begun.host c.begun.host_is) in
          let all = ap mail_faults c.joined ∙ both_faults c.first c.rest in
          answers_behind name c.first c.rest notes c.joined (operations_answer c.mid (journal ++ c.first) mid name c.begun.at named c.does.count c.rest left c.does.does busy c.does.over
          (omega (arith, all, quiet)))

      by_run : IsMailRefused name notes ⊎ ((refusal_named name (begin_refusal ask) (world_of entry m) ≡ None) × BeginsAndDoes (CompletesTask entry name) entry name ask m notes left)
          → IsMailRefused name notes ⊎ TaskAnswers name notes
      by_run (inl refused) = inl refused
      by_run (inr x) = inr (run_done x)

      -- so does one that is begun and finished
      pub run_answers : MailDoes entry (Run name ask) m notes left → IsMailRefused name notes ⊎ TaskAnswers name notes
      run_answers x = by_run (refused_or name (refusal_named name (begin_refusal ask) (world_of entry m)) m notes left (BeginsAndDoes (CompletesTask entry name) entry name ask m notes left) x)
