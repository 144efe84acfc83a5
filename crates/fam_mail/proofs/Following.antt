-- Whatever events of a mailbox's script come, the state of the machine is held: so each journal that follows events is legal.
use Rattle.std.proofs.Common.{◌≡◌, ◌+◌, ◌≤◌, ◌⊎◌, ℕ, inl, inr, List, [], ◌∷◌, ◌++◌, refl, sym, ap, subst, ◌∙◌, arith}
use Prim.Native.Nat.{suc}
use Rattle.std.specs.Prelude.{cond, nat_lt, Bool, true, false, is_some, slice_get, option_map, Option, Some, None}
use Rattle.std.specs.FinMap as finmap
use Rattle.std.proofs.lemmas.Bool.Decides.{nat_tests}
use Rattle.std.proofs.lemmas.List.{append-nil, append_assoc}
use Rattle.std.proofs.lemmas.Option.{same_Some}
use Rattle.fam_base.specs.Image.{Image, line_at, with_line}
use Rattle.fam_base.specs.PathOrder.{path_eq}
use Rattle.fam_base.specs.declared.entry.Entry.{Entry}
use Rattle.fam_base.proofs.ImageLemmas.{length-with_line, normal-with_line}
use Rattle.fam_cache.specs.Effects.{FailsTo}
use Rattle.fam_machine.specs.Caches.{cell_at}
use Rattle.fam_machine.specs.Cuts.{IsMachine}
use Rattle.fam_machine.specs.HostMoves.{Move, Evict, Leak, Fetch, failed_move, moved, moved_words}
use Rattle.fam_machine.specs.Operations.{line_no, machine}
use Rattle.fam_media.specs.States.{MediaChange}
use Rattle.fam_rules.specs.Written.{file_line}
use Rattle.fam_mail.specs.declared.ask.Ask.{Ask}
use Rattle.fam_mail.specs.declared.event.MailEvent.{MailEvent}
use Rattle.fam_mail.specs.declared.event.MailEvent.TheVariants as event
use Rattle.fam_mail.specs.declared.note.MailNote.{MailNote}
use Rattle.fam_mail.specs.declared.note.MailNote.TheVariants as note
use Rattle.fam_mail.specs.declared.note.MailRefusal.{MailRefusal}
use Rattle.fam_mail.specs.declared.note.MailRefusal.TheVariants as why
use Rattle.fam_mail.specs.Boxes.{capacity_of}
use Rattle.fam_mail.specs.Calls.{ChangesHost, MailDeclares, MoveFailsAt, MoveDoneAt, begin_refusal, capacity_in, declare_refusal, host_at, declared_note, no_task_refusal, file_line_refusal, no_refusal, refusal_named, named_host_refusal}
use Rattle.fam_mail.specs.Follows.{MailByRefusal, CompletesTask, BeginsAndDoes, MailDoes, MailDoesPart, DoesSteps, MailFollows, IsTaskBegun, IsDeclared, IsHostGiven, IsMoveCut, IsMoved, IsNothing, IsSoundMailAsk, IsSoundMailEvent, IsUnfinished, AreSoundMailEvents, Moves, OfNamedHost, world_of}
use Rattle.fam_mail.specs.Happens.{IsMailHeld, floor_told, past_told}
use Rattle.fam_mail.specs.Legal.{MailState, first_mail_state, mail_state_behind, mail_state}
use Rattle.fam_mail.specs.Machines.{IsTaskCut, IsTaskServed, MailMachines, MailOperation, MailOperations, more, none, with_host_at}
use Rattle.fam_mail.specs.Standing.{MailStands}
use Rattle.fam_mail.specs.Tasks.{MailTask, new_task}
use Rattle.fam_mail.specs.World.{MailHost, MailView, changed_member, member_place_from, member_place, is_named, new_mail_host, mail_noted}
use Rattle.fam_mail.proofs.EventRows.{same_declare, same_named}
use Rattle.fam_mail.proofs.Holding.{cut_held, other_name, own_name, plain_held, same_held, served_held, stands_as}
use Rattle.fam_mail.proofs.Journals.{IsPlain, legal_both, legal_due, state_both}
use Rattle.fam_mail.proofs.Members.{changed_here}
use Rattle.fam_mail.proofs.MovedOn.{fails_stand, moves_stand}
use Rattle.fam_mail.proofs.Outcomes.{More, before, changed_alike, declared_one, declared_stands, halt_stands, index_last, last, more as more_members, started, stop_stands}

-- Names and numbers.

-- the member that is found passes
index_at : {A : Type 0} (test : A → Bool) (n : ℕ) (xs : List A) (i : ℕ) → member_place_from n test xs ≡ Some i → (k : ℕ) × (i ≡ n + k) × ((x : A) → slice_get xs k ≡ Some x → test x ≡ true)
index_at {A} test n [] i is = absurd cc
index_at {A} test n (y ∷ ys) i is = by (index_at test (n + 1) ys i) (test y) refl
  where
    by : (member_place_from (n + 1) test ys ≡ Some i → (k : ℕ) × (i ≡ n + 1 + k) × ((x : A) → slice_get ys k ≡ Some x → test x ≡ true)) → (t : Bool) → test y ≡ t
        → (k : ℕ) × (i ≡ n + k) × ((x : A) → slice_get (y ∷ ys) k ≡ Some x → test x ≡ true)
    by below true e =
        let here : Some n ≡ Some i = sym (ap (λ (b : Bool). cond b (Some n) (member_place_from (n + 1) test ys)) e) ∙ is in
        (0, omega (arith, same_Some n i here), λ x x_is. ap test (sym (same_Some y x x_is)) ∙ e)
    by below false e =
        let there : member_place_from (n + 1) test ys ≡ Some i = sym (ap (λ (b : Bool). cond b (Some n) (member_place_from (n + 1) test ys)) e) ∙ is in
        let next = below there in
        (suc next.0, omega (arith, next.1), next.2)

-- the host that is found by a name has it
pub found_name : (name : List ℕ) (hosts : List MailHost) (at : ℕ) (host : MailHost) → member_place (is_named name) hosts ≡ Some at → slice_get hosts at ≡ Some host → host.name ≡ name
found_name name hosts at host number host_is =
    let found = index_at (is_named name) 0 hosts at number in
    let same : at ≡ found.0 = omega (arith, found.1) in
    let passes : path_eq host.name name ≡ true = found.2 host (ap (slice_get hosts) (sym same) ∙ host_is) in
    Rattle.fam_mail.proofs.Holding.name_is host.name name passes

-- a name that is found is found with more members behind
found_more : {A : Type 0} (test : A → Bool) (n : ℕ) (xs ys : List A) (i : ℕ) → member_place_from n test xs ≡ Some i → member_place_from n test (xs ++ ys) ≡ Some i
found_more {A} test n [] ys i is = absurd cc
found_more {A} test n (x ∷ xs) ys i is = by (found_more test (n + 1) xs ys i) (test x) refl
  where
    by : (member_place_from (n + 1) test xs ≡ Some i → member_place_from (n + 1) test (xs ++ ys) ≡ Some i) → (t : Bool) → test x ≡ t → member_place_from n test ((x ∷ xs) ++ ys) ≡ Some i
    by below true e =
        ap (λ (b : Bool). cond b (Some n) (member_place_from (n + 1) test (xs ++ ys))) e ∙ sym (ap (λ (b : Bool). cond b (Some n) (member_place_from (n + 1) test xs)) e) ∙ is
    by below false e =
        ap (λ (b : Bool). cond b (Some n) (member_place_from (n + 1) test (xs ++ ys))) e ∙ below (sym (ap (λ (b : Bool). cond b (Some n) (member_place_from (n + 1) test xs)) e) ∙ is)

-- a cause of a host that is found
pub found_cause : (name : List ℕ) (cause : MailHost → Option MailRefusal) (v : MailView) (at : ℕ) (host : MailHost) → member_place (is_named name) v.hosts ≡ Some at
    → slice_get v.hosts at ≡ Some host → refusal_named name cause v ≡ None → cause host ≡ None
found_cause name cause v at host number host_is free = sym (ap (λ (o : Option ℕ). named_host_refusal cause (host_at o v)) number ∙ ap (named_host_refusal cause) host_is) ∙ free

-- the name of a host by its number
pub record Named (name : List ℕ) (n : ℕ) (m : MailMachines) : Type 0 where
  pub host : MailHost
  pub host_is : slice_get m.hosts n ≡ Some host
  pub same : host.name ≡ name

named_with : (name : List ℕ) (n : ℕ) (m new : MailMachines) (host next : MailHost) (memory : Image) → slice_get m.hosts n ≡ Some host → next.name ≡ name → new ≡ with_host_at n next memory m
    → Named name n new
named_with name n m new host next memory host_is same is =
    subst (Named name n) (sym is) (record { host = next; host_is = changed_here n (λ (x : MailHost). next) m.hosts host host_is; same = same })

module _ (entry : Entry) (start : Image) (records : List (List ℕ)) where
  -- Operations.

  -- an operation keeps what is held
  pub operation_held : (m : MailMachines) (journal : List MailNote) → IsMailHeld entry start records m journal → (name : List ℕ) (n : ℕ) → Named name n m
      → (notes : List MailNote) (new : MailMachines) → MailOperation entry name n m notes new
      → IsMailHeld entry start records new (journal ++ notes) × Named name n new
  operation_held m journal held name n named notes new op = by op.how
    where
      same : op.host.name ≡ name
      same = ap (λ (h : MailHost). h.name) (same_Some op.host named.host (sym op.host_is ∙ named.host_is)) ∙ named.same

      by : IsTaskServed entry name n op.host op.task m notes new ⊎ IsTaskCut entry name n op.host op.task m notes new → IsMailHeld entry start records new (journal ++ notes) × Named name n new
      by (inl served) = (
        served_held entry start records m journal held name n op.host op.host_is same op.task op.task_is notes new served,
        named_with name n m new op.host _ _ op.host_is same served.left,
      )
      by (inr cut) = (
        cut_held entry start records m journal held name n op.host op.host_is same op.task op.task_is notes new cut,
        named_with name n m new op.host _ _ op.host_is same cut.left,
      )

  -- so do many of them
  pub operations_held : (m : MailMachines) (journal : List MailNote) → IsMailHeld entry start records m journal → (name : List ℕ) (n : ℕ) → Named name n m
      → (count : ℕ) (notes : List MailNote) (new : MailMachines) → MailOperations entry name n m count notes new
      → IsMailHeld entry start records new (journal ++ notes) × Named name n new
  operations_held m journal held name n named _ _ _ none = (subst (λ (j : List MailNote). IsMailHeld entry start records m j) (sym (append-nil journal)) held, named)
  operations_held m journal held name n named _ _ new (more {count = count} {notes = notes} {last = final} {mid = mid} operations op) =
      let before = operations_held m journal held name n named count notes mid operations in
      let behind = operation_held mid (journal ++ notes) before.0 name n before.1 final new op in
      (subst (λ (j : List MailNote). IsMailHeld entry start records new j) (append_assoc journal notes final) behind.0, behind.1)

  -- Rows.
  module _ (m : MailMachines) (journal : List MailNote) (held : IsMailHeld entry start records m journal) where
    -- nothing is done
    nothing_held : (notes : List MailNote) (new : MailMachines) → IsNothing m notes new → IsMailHeld entry start records new (journal ++ notes)
    nothing_held notes new x =
        subst (λ (q : MailMachines). IsMailHeld entry start records q (journal ++ notes)) (sym x.1)
        (subst (λ (ns : List MailNote). IsMailHeld entry start records m (journal ++ ns)) (sym x.0) (subst (λ (j : List MailNote). IsMailHeld entry start records m j) (sym (append-nil journal)) held))

    -- a plain note, and a state
    one_held : (x : MailNote) → IsPlain (capacity_of entry.size) x → (notes : List MailNote) (new left : MailMachines) → notes ≡ x ∷ [] → new ≡ left → IsMailHeld entry start records left journal
        → IsMailHeld entry start records new (journal ++ notes)
    one_held x plain notes new left notes_are new_is here =
        subst (λ (q : MailMachines). IsMailHeld entry start records q (journal ++ notes)) (sym new_is)
        (subst (λ (ns : List MailNote). IsMailHeld entry start records left (journal ++ ns)) (sym notes_are) (plain_held entry start records left journal here x plain))

    refused_plain : (name : List ℕ) (cause : MailRefusal) → IsPlain (capacity_of entry.size) (note.Refused name cause)
    refused_plain name cause = record { mail = λ y. refl; floor = λ y. refl; asked = λ y. refl; due = refl; full = refl; row = λ y. tt }

    -- it is refused, or acts
    by_refusal : (name : List ℕ) (first : Option MailRefusal) (notes : List MailNote) (new : MailMachines) (acts : Type 0) → MailByRefusal name first m notes new acts
        → (first ≡ None → acts → IsMailHeld entry start records new (journal ++ notes)) → IsMailHeld entry start records new (journal ++ notes)
    by_refusal name None notes new acts x f = f refl x
    by_refusal name (Some cause) notes new acts x f = one_held (note.Refused name cause) (refused_plain name cause) notes new m x.0 x.1 held

    -- a task is dropped, and maybe its host's cache
    stop_held : (name : List ℕ) (notes : List MailNote) (new : MailMachines) → OfNamedHost name m (λ n host. IsHostGiven (note.Stop name) n (record host { task = None }) m notes new)
        → IsMailHeld entry start records new (journal ++ notes)
    stop_held name notes new o =
        let next : MailHost = record o.host { task = None } in
        let s = mail_state (capacity_of entry.size) records journal in
        let v : MailView = record { entry = entry; hosts = m.hosts; journal = journal } in
        one_held (note.Stop name) (record { mail = λ y. refl; floor = λ y. refl; asked = λ y. refl; due = refl; full = refl; row = λ y. tt }) notes new (with_host_at o.at next m.memory m)
        o.does.notes_are o.does.left
        (same_held entry start records m journal held o.at o.host next o.host_is m.memory refl refl refl held.normal
        (stop_stands (line_at start) v (past_told s m.hosts) m.memory held.stands o.at o.host next o.host_is refl refl refl journal) (λ t is. absurd cc))

    halt_held : (name : List ℕ) (notes : List MailNote) (new : MailMachines)
        → OfNamedHost name m (λ n host. IsHostGiven (note.Halt name) n (record host { cache = finmap.empty; task = None }) m notes new) → IsMailHeld entry start records new (journal ++ notes)
    halt_held name notes new o =
        let next : MailHost = record o.host { cache = finmap.empty; task = None } in
        let s = mail_state (capacity_of entry.size) records journal in
        let v : MailView = record { entry = entry; hosts = m.hosts; journal = journal } in
        one_held (note.Halt name) (record { mail = λ y. refl; floor = λ y. refl; asked = λ y. refl; due = refl; full = refl; row = λ y. tt }) notes new (with_host_at o.at next m.memory m)
        o.does.notes_are o.does.left
        (same_held entry start records m journal held o.at o.host next o.host_is m.memory refl refl refl held.normal
        (halt_stands (line_at start) v (past_told s m.hosts) m.memory held.stands o.at o.host next o.host_is refl refl refl journal) (λ t is. absurd cc))

    -- a host is declared
    host_plain : (name : List ℕ) (writer : Bool) → IsPlain (capacity_of entry.size) (declared_note name writer)
    host_plain name true = record { mail = λ y. refl; floor = λ y. refl; asked = λ y. refl; due = refl; full = refl; row = λ y. tt }
    host_plain name false = record { mail = λ y. refl; floor = λ y. refl; asked = λ y. refl; due = refl; full = refl; row = λ y. tt }

    unnamed : (o : Option ℕ) (cause : MailRefusal) (rest : Option MailRefusal) → cond (is_some o) (Some cause) rest ≡ None → o ≡ None
    unnamed None cause rest is = refl
    unnamed (Some k) cause rest is = absurd cc

    module _ (name : List ℕ) (writer : Bool) (free : declare_refusal name writer (world_of entry m) ≡ None) where
      fresh : MailHost
      fresh = new_mail_host name writer

      none_named : member_place (is_named name) m.hosts ≡ None
      none_named = unnamed (member_place (is_named name) m.hosts) (why.SameHost name) _ free

      more_held : IsMailHeld entry start records (record m { hosts = m.hosts ++ new_mail_host name writer ∷ [] }) journal
      more_held =
          let c = capacity_of entry.size in
          let s = mail_state c records journal in
          let v : MailView = record { entry = entry; hosts = m.hosts; journal = journal } in
          let hosts = m.hosts ++ new_mail_host name writer ∷ [] in
          let new : MailView = mail_noted (declared_note name writer) (record v { hosts = hosts }) in
          let call : MailDeclares name writer None v new = (sym (same_declare name writer v m.memory) ∙ free, refl) in
          let stands = declared_stands (line_at start) name v new (past_told s m.hosts) m.memory writer call held.stands in
          record {
            legal = held.legal;
            stands = stands_as (line_at start) new (past_told s m.hosts) (past_told s hosts) m.memory stands refl
                (λ k x t is task. floors k x t is task (more_members m.hosts (new_mail_host name writer) k));
            asked = λ k x t is task. asks k x t is task (more_members m.hosts (new_mail_host name writer) k);
            one = declared_one name v new writer call held.one;
            named = λ k x is. names k x is (more_members m.hosts (new_mail_host name writer) k);
            place = held.place;
            normal = held.normal;
          }
        where
          floors : (k : ℕ) (x : MailHost) (t : MailTask) → slice_get (m.hosts ++ new_mail_host name writer ∷ []) k ≡ Some x → x.task ≡ Some t → More m.hosts (new_mail_host name writer) k
              → floor_told (slice_get (m.hosts ++ new_mail_host name writer ∷ []) k) (mail_state (capacity_of entry.size) records journal)
              ≡ floor_told (slice_get m.hosts k) (mail_state (capacity_of entry.size) records journal)
          floors k x t is task (before same not) = ap (λ (o : Option MailHost). floor_told o (mail_state (capacity_of entry.size) records journal)) same
          floors k x t is task (last e same gone) = absurd (let idle : None ≡ Some t = ap (λ (y : MailHost). y.task) (same_Some (new_mail_host name writer) x (sym same ∙ is)) ∙ task in cc)

          asks : (k : ℕ) (x : MailHost) (t : MailTask) → slice_get (m.hosts ++ new_mail_host name writer ∷ []) k ≡ Some x → x.task ≡ Some t → More m.hosts (new_mail_host name writer) k
              → (mail_state (capacity_of entry.size) records journal).asked x.name ≡ Some t.ask
          asks k x t is task (before same not) = held.asked k x t (sym same ∙ is) task
          asks k x t is task (last e same gone) = absurd (let idle : None ≡ Some t = ap (λ (y : MailHost). y.task) (same_Some (new_mail_host name writer) x (sym same ∙ is)) ∙ task in cc)

          names : (k : ℕ) (x : MailHost) → slice_get (m.hosts ++ new_mail_host name writer ∷ []) k ≡ Some x → More m.hosts (new_mail_host name writer) k
              → member_place (is_named x.name) (m.hosts ++ new_mail_host name writer ∷ []) ≡ Some k
          names k x is (before same not) = found_more (is_named x.name) 0 m.hosts (new_mail_host name writer ∷ []) k (held.named k x (sym same ∙ is))
          names k x is (last e same gone) =
              let own : name ≡ x.name = ap (λ (y : MailHost). y.name) (same_Some (new_mail_host name writer) x (sym same ∙ is)) in
              ap (λ (n : List ℕ). member_place (is_named n) (m.hosts ++ new_mail_host name writer ∷ [])) (sym own)
              ∙ index_last (is_named name) 0 m.hosts (new_mail_host name writer) (own_name name) none_named ∙ ap (λ (i : ℕ). Some i) (omega (arith, e))

      declared_held : (notes : List MailNote) (new : MailMachines) → IsDeclared name writer m notes new → IsMailHeld entry start records new (journal ++ notes)
      declared_held notes new x = one_held (declared_note name writer) (host_plain name writer) notes new (record m { hosts = m.hosts ++ new_mail_host name writer ∷ [] }) x.notes_are x.left more_held

    -- a task begins
    module _ (name : List ℕ) (ask : Ask) (proper : IsSoundMailAsk ask) (free : refusal_named name (begin_refusal ask) (world_of entry m) ≡ None) where
      unbusy : (task : Option MailTask) (h : MailHost) → h.task ≡ task → begin_refusal ask h ≡ None → h.task ≡ None
      unbusy None h is may = is
      unbusy (Some t) h is may = absurd (let no = ap (λ (o : Option MailTask). cond (is_some o) (Some why.Busy) (Rattle.fam_mail.specs.Calls.ask_refusal ask h)) is in cc)

      module _ (notes : List MailNote) (new : MailMachines) (o : IsTaskBegun entry name ask m notes new) where
        abbrev next : MailHost
        next = record o.host { task = Some (new_task ask (capacity_of entry.size)) }

        own : o.host.name ≡ name
        own = found_name name m.hosts o.at o.host o.number o.host_is

        idle : o.host.task ≡ None
        idle = unbusy o.host.task o.host refl (found_cause name (begin_refusal ask) (world_of entry m) o.at o.host o.number o.host_is free)

        -- no host with a task has the name
        differs : (k : ℕ) (x : MailHost) (t : MailTask) → slice_get m.hosts k ≡ Some x → x.task ≡ Some t → path_eq x.name name ≡ false
        differs k x t is task =
            other_name x.name name (λ e.
            let both : Some k ≡ Some o.at = sym (held.named k x is) ∙ ap (λ (n : List ℕ). member_place (is_named n) m.hosts) e ∙ o.number in
            let same : x ≡ o.host = same_Some x o.host (sym is ∙ ap (slice_get m.hosts) (same_Some k o.at both) ∙ o.host_is) in
            let none : None ≡ Some t = sym idle ∙ ap (λ (h : MailHost). h.task) (sym same) ∙ task in absurd cc)

        -- it is noted first
        start_held : IsMailHeld entry start records m (journal ++ note.Start name ask ∷ [])
        start_held =
            let c = capacity_of entry.size in
            let s = mail_state c records journal in
            let s' = mail_state c records (journal ++ note.Start name ask ∷ []) in
            let state_is : s' ≡ mail_state_behind c s (note.Start name ask) = state_both c (first_mail_state records) journal (note.Start name ask ∷ []) in
            let due = legal_due c (first_mail_state records) journal held.legal in
            record {
              legal = legal_both c (first_mail_state records) journal (note.Start name ask ∷ []) held.legal (record { full = sym due; row = tt }, refl);
              stands = stands_as (line_at start) (record { entry = entry; hosts = m.hosts; journal = journal ++ note.Start name ask ∷ [] }) (past_told s m.hosts) (past_told s' m.hosts) m.memory
                  held.stands (ap (λ (y : MailState). y.mail) state_is)
                  (λ k x t is task. ap (λ (h : Option MailHost). floor_told h s') is ∙ ap (λ (y : MailState). y.floor x.name) state_is ∙ sym (ap (λ (h : Option MailHost). floor_told h s) is));
              asked = λ k x t is task. ap (λ (y : MailState). y.asked x.name) state_is ∙ ap (λ (b : Bool). cond b (Some ask) (s.asked x.name)) (differs k x t is task) ∙ held.asked k x t is task;
              one = held.one;
              named = held.named;
              place = held.place;
              normal = held.normal;
            }

        -- a task that begins keeps it
        pub begun_held : IsMailHeld entry start records new (journal ++ notes)
        begun_held =
            let c = capacity_of entry.size in
            let j = journal ++ note.Start name ask ∷ [] in
            let s' = mail_state c records j in
            let state_is : s' ≡ mail_state_behind c (mail_state c records journal) (note.Start name ask) = state_both c (first_mail_state records) journal (note.Start name ask ∷ []) in
            let v : MailView = record { entry = entry; hosts = m.hosts; journal = j } in
            let w : MailView = mail_noted (note.Start name ask) (record v { hosts = changed_member o.at (λ h. record h { task = Some (new_task ask (capacity_in v)) }) m.hosts }) in
            let change : ChangesHost name (λ h. record h { task = Some (new_task ask (capacity_in v)) }) (note.Start name ask) v w = record
            { at = o.at; host = o.host; number = o.number; host_is = o.host_is; is = refl } in
            let stands = started (line_at start) name v w (past_told s' m.hosts) m.memory start_held.stands held.one ask proper (sym (same_named name (begin_refusal ask) v m.memory) ∙ free, change) in
            let next : MailHost = record o.host { task = Some (new_task ask c) } in
            let stands' : MailStands (line_at start) (record { entry = entry; hosts = changed_member o.at (λ (h : MailHost). next) m.hosts; journal = j }) (past_told s' m.hosts) m.memory =
            subst (λ (hs : List MailHost). MailStands (line_at start) (record { entry = entry; hosts = hs; journal = j }) (past_told s' m.hosts) m.memory)
            (changed_alike o.at (λ (h : MailHost). record h { task = Some (new_task ask c) }) o.host m.hosts o.host_is) stands in
            let here = same_held entry start records m j start_held o.at o.host next o.host_is m.memory refl refl refl held.normal stands'
            (λ t is. ap (λ (y : MailState). y.asked o.host.name) state_is
            ∙ ap (λ (b : Bool). cond b (Some ask) ((mail_state c records journal).asked o.host.name)) (ap (λ (n : List ℕ). path_eq n name) own ∙ own_name name)
            ∙ ap (λ (x : MailTask). Some x.ask) (same_Some (new_task ask c) t is)) in
            subst (λ (q : MailMachines). IsMailHeld entry start records q (journal ++ notes)) (sym o.does.left)
            (subst (λ (ns : List MailNote). IsMailHeld entry start records (with_host_at o.at next m.memory m) (journal ++ ns)) (sym o.does.notes_are) here)

        -- and its host is the one of its name
        pub begun_named : Named name o.at new
        begun_named = named_with name o.at m new o.host (record o.host { task = Some (new_task ask (capacity_of entry.size)) }) m.memory o.host_is own o.does.left

    -- a host that is found
    of_host : (name : List ℕ) (P : ℕ → MailHost → Type 0) (o : OfNamedHost name m P) → Named name o.at m
    of_host name P o = record { host = o.host; host_is = o.host_is; same = found_name name m.hosts o.at o.host o.number o.host_is }

    -- a cache moves by itself, or the media fails in it
    line_below : (line capacity : ℕ) (h : MailHost) → file_line_refusal line capacity h ≡ None → line ≤ capacity
    line_below line capacity h may = by (nat_lt capacity line) refl may
      where
        by : (b : Bool) → nat_lt capacity line ≡ b → cond b (Some (why.NoLine line (capacity + 1))) None ≡ None → line ≤ capacity
        by true e may = absurd cc
        by false e may = grind (arith, nat_tests)

    some_of : (f : List ℕ → Image) (o : Option (List ℕ)) (i : Image) → option_map f o ≡ Some i → (words : List ℕ) × (o ≡ Some words) × (f words ≡ i)
    some_of f None i is = absurd cc
    some_of f (Some words) i is = (words, refl, same_Some (f words) i is)

    module _ (name : List ℕ) (line : ℕ) (move : Move) (at : ℕ) (host : MailHost) (number : member_place (is_named name) m.hosts ≡ Some at) (host_is : slice_get m.hosts at ≡ Some host)
        (below : line ≤ capacity_of entry.size) where
      moved_held : (notes : List MailNote) (new : MailMachines) → IsMoved entry at host line move m notes new → IsMailHeld entry start records new (journal ++ notes)
      moved_held notes new x =
          let c = capacity_of entry.size in
          let s = mail_state c records journal in
          let l = file_line entry line in
          let m' = moved move l (machine m.memory host.cache) in
          let v : MailView = record { entry = entry; hosts = m.hosts; journal = journal } in
          let next : MailHost = record host { cache = m'.cache } in
          let w : MailView = record { entry = entry; hosts = changed_member at (λ (h : MailHost). next) m.hosts; journal = journal ++ [] } in
          let told : MediaChange = record { old = record { image = Some m.memory; faults = 0 }; new = record { image = Some m'.image; faults = 0 } } in
          let call : MoveDoneAt name line move told v w =
          record {
            at = at;
            host = host;
            number = number;
            host_is = host_is;
            next = next;
            notes = [];
            does = record {
              done = λ image is. subst (λ (i : Image). IsMachine (moved move l (machine i host.cache)) (Some m'.image) m'.cache) (same_Some m.memory image is) (record { image = refl; cache = refl });
              later = omega arith;
              next_is = refl;
              notes_are = refl;
            };
            is = refl;
          } in
          let still = moves_stand (line_at start) name line move told v w (past_told s m.hosts) m.memory held.stands refl held.normal (held.place line below) call in
          let stands : MailStands (line_at start) (record { entry = entry; hosts = changed_member at (λ (h : MailHost). next) m.hosts; journal = journal }) (past_told s m.hosts) m'.image =
          subst (λ (i : Image). MailStands (line_at start) w (past_told s m.hosts) i) (sym (same_Some m'.image still.image still.told)) still.stands in
          let words = moved_words move (line_at m.memory l) (cell_at host.cache l) in
          let here = same_held entry start records m journal held at host next host_is m'.image refl refl (length-with_line m.memory l words) (normal-with_line m.memory held.normal l words) stands
          (λ t is. held.asked at host t host_is is) in
          subst (λ (q : MailMachines). IsMailHeld entry start records q (journal ++ notes)) (sym x.left)
          (subst (λ (ns : List MailNote). IsMailHeld entry start records (with_host_at at next m'.image m) (journal ++ ns)) (sym x.notes_are)
          (subst (λ (j : List MailNote). IsMailHeld entry start records (with_host_at at next m'.image m) j) (sym (append-nil journal)) here))

      move_cut_held : (notes : List MailNote) (new : MailMachines) → IsMoveCut entry name host line move m notes new → IsMailHeld entry start records new (journal ++ notes)
      move_cut_held notes new x =
          let c = capacity_of entry.size in
          let s = mail_state c records journal in
          let l = file_line entry line in
          let cause = why.MediaFault (line_no l) in
          let found = some_of (λ words. with_line l words m.memory) (failed_move move x.through (line_at m.memory l) (cell_at host.cache l)) x.image x.fails in
          let left : Image = with_line l found.0 m.memory in
          let v : MailView = record { entry = entry; hosts = m.hosts; journal = journal } in
          let w : MailView = mail_noted (note.Refused name cause) v in
          let told : MediaChange = record { old = record { image = Some m.memory; faults = 0 }; new = record { image = Some left; faults = 1 } } in
          let fails : FailsTo l (λ through memory. failed_move move through memory (cell_at host.cache l)) m.memory (Some left) = record
          { through = x.through; fits = x.fits; words = found.0; left = found.1; written = refl } in
          let call : MoveFailsAt name line move told cause v w =
          record {
            at = at;
            host = host;
            number = number;
            host_is = host_is;
            failed = λ image is. subst (λ (i : Image). FailsTo l (λ through memory. failed_move move through memory (cell_at host.cache l)) i (Some left)) (same_Some m.memory image is) fails;
            rose = inl (omega arith);
            later = omega arith;
            cause_is = refl;
            is = refl;
          } in
          let still = fails_stand (line_at start) name line move told v w (past_told s m.hosts) m.memory held.stands refl held.normal (held.place line below) cause call in
          let stands : MailStands (line_at start) v (past_told s m.hosts) left = subst (λ (i : Image). MailStands (line_at start) v (past_told s m.hosts) i)
          (sym (same_Some left still.image still.told)) still.stands in
          let after : MailMachines = record m { memory = left } in
          let here : IsMailHeld entry start records after journal =
          record {
            legal = held.legal;
            stands = stands;
            asked = held.asked;
            one = held.one;
            named = held.named;
            place = λ j low. omega (arith, held.place j low, length-with_line m.memory l found.0);
            normal = normal-with_line m.memory held.normal l found.0;
          } in
          one_held (note.Refused name cause) (refused_plain name cause) notes new after x.notes_are (x.left ∙ ap (λ (i : Image). record m { memory = i }) (sym found.2)) here

  -- Events.

  does_moves : (m : MailMachines) (journal : List MailNote) → IsMailHeld entry start records m journal → (name : List ℕ) (line : ℕ) (move : Move) (notes : List MailNote) (new : MailMachines)
      → Moves entry name line move m notes new → IsMailHeld entry start records new (journal ++ notes)
  does_moves m journal held name line move notes new x =
      by_refusal m journal held name (refusal_named name (file_line_refusal line (capacity_of entry.size)) (world_of entry m)) notes new
      (OfNamedHost name m (λ at host. IsMoved entry at host line move m notes new ⊎ IsMoveCut entry name host line move m notes new)) x
      (λ free o. by free o o.does)
    where
      below : refusal_named name (file_line_refusal line (capacity_of entry.size)) (world_of entry m) ≡ None
          → (o : OfNamedHost name m (λ at host. IsMoved entry at host line move m notes new ⊎ IsMoveCut entry name host line move m notes new)) → line ≤ capacity_of entry.size
      below free o =
          line_below m journal held line (capacity_of entry.size) o.host (found_cause name (file_line_refusal line (capacity_of entry.size)) (world_of entry m) o.at o.host o.number o.host_is free)

      by : refusal_named name (file_line_refusal line (capacity_of entry.size)) (world_of entry m) ≡ None
          → (o : OfNamedHost name m (λ at host. IsMoved entry at host line move m notes new ⊎ IsMoveCut entry name host line move m notes new))
          → IsMoved entry o.at o.host line move m notes new ⊎ IsMoveCut entry name o.host line move m notes new → IsMailHeld entry start records new (journal ++ notes)
      by free o (inl moves) = moved_held m journal held name line move o.at o.host o.number o.host_is (below free o) notes new moves
      by free o (inr fails) = move_cut_held m journal held name line move o.at o.host o.number o.host_is (below free o) notes new fails

  -- a task begins, and operations follow
  continues_held : (m : MailMachines) (journal : List MailNote) → IsMailHeld entry start records m journal → (name : List ℕ) (ask : Ask) → IsSoundMailAsk ask
      → refusal_named name (begin_refusal ask) (world_of entry m) ≡ None → (P : ℕ → MailMachines → List MailNote → MailMachines → Type 0)
      → ((n : ℕ) (o : MailMachines) (ns : List MailNote) (q : MailMachines) → P n o ns q → (count : ℕ) × MailOperations entry name n o count ns q) → (notes : List MailNote) (new : MailMachines)
      → BeginsAndDoes P entry name ask m notes new → IsMailHeld entry start records new (journal ++ notes)
  continues_held m journal held name ask proper free P does notes new x =
      let mid = begun_held m journal held name ask proper free x.first x.mid x.begun in
      let named = begun_named m journal held name ask proper free x.first x.mid x.begun in
      let operations = does x.begun.at x.mid x.rest new x.does in
      let all = operations_held x.mid (journal ++ x.first) mid name x.begun.at named operations.0 x.rest new operations.1 in
      subst (λ (ns : List MailNote). IsMailHeld entry start records new (journal ++ ns)) (sym x.joined)
      (subst (λ (j : List MailNote). IsMailHeld entry start records new j) (append_assoc journal x.first x.rest) all.0)

  operations_of : (m : MailMachines) (journal : List MailNote) → IsMailHeld entry start records m journal
      → (name : List ℕ) (P : ℕ → MailHost → Type 0) (notes : List MailNote) (new : MailMachines) (o : OfNamedHost name m P) → (count : ℕ) → MailOperations entry name o.at m count notes new
      → IsMailHeld entry start records new (journal ++ notes)
  operations_of m journal held name P notes new o count operations = (operations_held m journal held name o.at (of_host m journal held name P o) count notes new operations).0

  -- Each event keeps what is held.
  pub does_held : (m : MailMachines) (journal : List MailNote) → IsMailHeld entry start records m journal → (e : MailEvent) → IsSoundMailEvent e → (notes : List MailNote) (new : MailMachines)
      → MailDoes entry e m notes new → IsMailHeld entry start records new (journal ++ notes)
  does_held m journal held (event.Writer name) sound notes new x =
      by_refusal m journal held name (declare_refusal name true (world_of entry m)) notes new (IsDeclared name true m notes new) x (λ free d. declared_held m journal held name true free notes new d)
  does_held m journal held (event.Reader name) sound notes new x =
      by_refusal m journal held name (declare_refusal name false (world_of entry m)) notes new (IsDeclared name false m notes new) x
      (λ free d. declared_held m journal held name false free notes new d)
  does_held m journal held (event.Begin name ask) sound notes new x =
      by_refusal m journal held name (refusal_named name (begin_refusal ask) (world_of entry m)) notes new (IsTaskBegun entry name ask m notes new) x
      (λ free d. begun_held m journal held name ask sound free notes new d)
  does_held m journal held (event.Run name ask) sound notes new x =
      by_refusal m journal held name (refusal_named name (begin_refusal ask) (world_of entry m)) notes new (BeginsAndDoes (CompletesTask entry name) entry name ask m notes new) x
      (λ free d. continues_held m journal held name ask sound free (CompletesTask entry name) (λ n o ns q c. (c.count, c.does)) notes new d)
  does_held m journal held (event.Step name count) sound notes new x =
      by_refusal m journal held name (refusal_named name no_task_refusal (world_of entry m)) notes new (OfNamedHost name m (λ at host. DoesSteps entry name at count m notes new)) x
      (λ free o. operations_of m journal held name (λ at host. DoesSteps entry name at count m notes new) notes new o o.does.count o.does.does)
  does_held m journal held (event.Finish name) sound notes new x =
      by_refusal m journal held name (refusal_named name no_task_refusal (world_of entry m)) notes new (OfNamedHost name m (λ at host. CompletesTask entry name at m notes new)) x
      (λ free o. operations_of m journal held name (λ at host. CompletesTask entry name at m notes new) notes new o o.does.count o.does.does)
  does_held m journal held (event.Stop name) sound notes new x =
      by_refusal m journal held name (refusal_named name no_task_refusal (world_of entry m)) notes new
      (OfNamedHost name m (λ at host. IsHostGiven (note.Stop name) at (record host { task = None }) m notes new)) x (λ free o. stop_held m journal held name notes new o)
  does_held m journal held (event.Halt name) sound notes new x =
      by_refusal m journal held name (refusal_named name no_refusal (world_of entry m)) notes new
      (OfNamedHost name m (λ at host. IsHostGiven (note.Halt name) at (record host { cache = finmap.empty; task = None }) m notes new)) x (λ free o. halt_held m journal held name notes new o)
  does_held m journal held (event.Evict name line) sound notes new x = does_moves m journal held name line Evict notes new x
  does_held m journal held (event.Leak name line mask) sound notes new x = does_moves m journal held name line (Leak mask.0) notes new x
  does_held m journal held (event.Fetch name line mask) sound notes new x = does_moves m journal held name line (Fetch mask.0) notes new x

  -- So does a part of one.
  part_of : (m : MailMachines) (journal : List MailNote) → IsMailHeld entry start records m journal → (name : List ℕ) (limit : Option ℕ) (notes : List MailNote) (new : MailMachines)
      → IsNothing m notes new ⊎ OfNamedHost name m (λ at host. IsUnfinished limit entry name at m notes new)
      → IsMailHeld entry start records new (journal ++ notes)
  part_of m journal held name limit notes new (inl x) = nothing_held m journal held notes new x
  part_of m journal held name limit notes new (inr o) = operations_of m journal held name (λ at host. IsUnfinished limit entry name at m notes new) notes new o o.does.count o.does.does

  -- a part of an event keeps what is held
  pub part_held : (m : MailMachines) (journal : List MailNote) → IsMailHeld entry start records m journal → (e : MailEvent) → IsSoundMailEvent e → (notes : List MailNote) (new : MailMachines)
      → MailDoesPart entry e m notes new → IsMailHeld entry start records new (journal ++ notes)
  part_held m journal held (event.Run name ask) sound notes new (inl x) = nothing_held m journal held notes new x
  part_held m journal held (event.Run name ask) sound notes new (inr x) =
      continues_held m journal held name ask sound x.0 (IsUnfinished None entry name) (λ n o ns q c. (c.count, c.does)) notes new x.1
  part_held m journal held (event.Step name count) sound notes new x = part_of m journal held name (Some count) notes new x
  part_held m journal held (event.Finish name) sound notes new x = part_of m journal held name None notes new x
  part_held m journal held other sound notes new x = nothing_held m journal held notes new x

  -- And so do all of them.
  pub follows_held : (events : List MailEvent) (m : MailMachines) (journal : List MailNote) → IsMailHeld entry start records m journal → AreSoundMailEvents events
      → (notes : List MailNote) (new : MailMachines) → MailFollows entry events m notes new → IsMailHeld entry start records new (journal ++ notes)
  follows_held [] m journal held sound notes new x = nothing_held m journal held notes new x
  follows_held (e ∷ events) m journal held sound notes new x =
      let one = does_held m journal held e sound.0 x.1 x.0 x.3 in
      let all = follows_held events x.0 (journal ++ x.1) one sound.1 x.2 new x.4 in
      subst (λ (ns : List MailNote). IsMailHeld entry start records new (journal ++ ns)) (sym x.5)
      (subst (λ (j : List MailNote). IsMailHeld entry start records new j) (append_assoc journal x.1 x.2) all)

-- events, and one more
pub follows_more : (entry : Entry) (events : List MailEvent) (e : MailEvent) (m mid new : MailMachines) (journal notes : List MailNote) → MailFollows entry events m journal mid
    → MailDoes entry e mid notes new → MailFollows entry (events ++ e ∷ []) m (journal ++ notes) new
follows_more entry [] e m mid new journal notes follows does =
    let from : MailDoes entry e m notes new = subst (λ (q : MailMachines). MailDoes entry e q notes new) follows.1 does in
    subst (λ (j : List MailNote). MailFollows entry (e ∷ []) m (j ++ notes) new) (sym follows.0) (new, notes, [], from, (refl, refl), sym (append-nil notes))
follows_more entry (d ∷ events) e m mid new journal notes follows does =
    let behind = follows_more entry events e follows.0 mid new follows.2 notes follows.4 does in
    (follows.0, follows.1, follows.2 ++ notes, follows.3, behind, ap (λ (j : List MailNote). j ++ notes) follows.5 ∙ append_assoc follows.1 follows.2 notes)
