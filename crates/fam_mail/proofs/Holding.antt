-- A state of the machine of a mailbox is held behind each operation, and behind each other change of its hosts.
use Rattle.std.proofs.Common.{◌≡◌, ◌≢◌, ◌+◌, ℕ, inl, inr, List, [], ◌∷◌, ◌++◌, length, map, refl, sym, ap, subst, ◌∙◌, arith}
use Rattle.std.specs.Prelude.{◌==◌, cond, Bool, true, false, slice_get, option_map, Option, Some, None}
use Rattle.std.proofs.lemmas.Bool.{cases_eq, eq-eqb, ne_eqb}
use Rattle.std.proofs.lemmas.Bool.Decides.{Decides-eqb}
use Rattle.std.specs.Cmp.Lexicographic.{pointwise_decides}
use Rattle.std.proofs.lemmas.Option.{same_Some}
use Rattle.fam_base.specs.Image.{Image, eight, line_at}
use Rattle.fam_base.specs.PathOrder.{path_eq}
use Rattle.fam_base.specs.declared.entry.Entry.{Entry}
use Rattle.fam_machine.specs.Operations.{machine, operated}
use Rattle.fam_machine.proofs.OneOperation.{operated_length, operated_normal}
use Rattle.fam_machine.proofs.Slipping.{breaks_length, breaks_normal, op_breaks}
use Rattle.fam_rules.specs.Written.{file_line}
use Rattle.fam_mail.specs.declared.ask.Ask.{Ask}
use Rattle.fam_mail.specs.declared.note.MailNote.{MailNote}
use Rattle.fam_mail.specs.declared.note.MailNote.TheVariants as note
use Rattle.fam_mail.specs.declared.phase.Phase.{Phase}
use Rattle.fam_mail.specs.declared.phase.Phase.TheVariants as at
use Rattle.fam_mail.specs.Boxes.{capacity_of}
use Rattle.fam_mail.specs.Calls.{notes_of_turn}
use Rattle.fam_mail.specs.Happens.{AreTasksAsked, AreHostsNamed, IsMailHeld, floor_told, past_told}
use Rattle.fam_mail.specs.Legal.{LegalMail, MailState, first_mail_state, mail_state_along, mail_state_behind, mail_state}
use Rattle.fam_mail.specs.Machines.{IsTaskCut, IsTaskServed, MailMachines, host_behind, with_host_at, word_given}
use Rattle.fam_mail.specs.Mail.{Mail, TaskMaySay, TaskRun, floor_behind_turn}
use Rattle.fam_mail.specs.Protocol.{BoxInvariant}
use Rattle.fam_mail.specs.Standing.{MailPast, MailStands, box_in, mail_past_after, run_by, runs_of_hosts, shared}
use Rattle.fam_mail.specs.Tasks.{MailTask, ends_mail_task, task_op, phase_task, next_task, mail_turn}
use Rattle.fam_mail.specs.World.{MailHost, MailView, changed_member, member_place, is_named}
use Rattle.fam_mail.proofs.Events.{fewer_hold}
use Rattle.fam_mail.proofs.Journals.{IsPlain, legal_both, legal_due, others_floor, state_both, turn_asked, turn_floor, turn_legal, turn_mail}
use Rattle.fam_mail.proofs.Members.{changed_here, changed_other}
use Rattle.fam_mail.proofs.Readying.{one_put}
use Rattle.fam_mail.proofs.Standing.{asks_inside, index_put, says_so, stands_still}

-- Names.

-- a name is its own
pub own_name : (name : List ℕ) → path_eq name name ≡ true
own_name name = (pointwise_decides Decides-eqb name name).1 refl

-- names that are equal by a test are equal
pub name_is : (a b : List ℕ) → path_eq a b ≡ true → a ≡ b
name_is a b = (pointwise_decides Decides-eqb a b).0

-- and others aren't
pub other_name : (a b : List ℕ) → (a ≡ b → ⊥) → path_eq a b ≡ false
other_name a b differ = by (path_eq a b) refl
  where
    by : (t : Bool) → path_eq a b ≡ t → path_eq a b ≡ false
    by true e = absurd (differ (name_is a b e))
    by false e = e

-- another host in a host's place, of its name
pub named_put : (n : ℕ) (host next : MailHost) (hosts : List MailHost) → slice_get hosts n ≡ Some host → next.name ≡ host.name → AreHostsNamed hosts
    → AreHostsNamed (changed_member n (λ (x : MailHost). next) hosts)
named_put n host next hosts host_is same named k h is =
    index_put (is_named h.name) 0 n host next hosts host_is (ap (λ (m : List ℕ). path_eq m h.name) same) ∙ found
  where
    found : member_place (is_named h.name) hosts ≡ Some k
    found =
        elim (cases_eq k n) [
          | inl e ↦
              let here : h ≡ next = sym (same_Some next h (sym (changed_here n (λ (x : MailHost). next) hosts host host_is)
              ∙ ap (slice_get (changed_member n (λ (x : MailHost). next) hosts)) (sym e) ∙ is)) in
              ap (λ (m : List ℕ). member_place (is_named m) hosts) (ap (λ (x : MailHost). x.name) here ∙ same) ∙ named n host host_is ∙ ap (λ (i : ℕ). Some i) (sym e)
          | inr ne ↦ named k h (sym (changed_other n k (λ (x : MailHost). next) hosts ne) ∙ is)
        ]

-- of two hosts of one name one is the other
apart : (hosts : List MailHost) → AreHostsNamed hosts → (n k : ℕ) (h x : MailHost) → slice_get hosts n ≡ Some h → slice_get hosts k ≡ Some x → k ≢ n → x.name ≡ h.name → ⊥
apart hosts named n k h x h_is x_is differ same =
    let both : Some k ≡ Some n = sym (named k x x_is) ∙ ap (λ (m : List ℕ). member_place (is_named m) hosts) same ∙ named n h h_is in
    differ (same_Some k n both)

-- The past of a world that stands.

-- marks of hosts without a task don't count
pub stands_as : (rest : ℕ → List ℕ) (v : MailView) (past past' : MailPast) (image : Image) → MailStands rest v past image → past'.mail ≡ past.mail
    → ((h : ℕ) (x : MailHost) (t : MailTask) → slice_get v.hosts h ≡ Some x → x.task ≡ Some t → past'.floors h ≡ past.floors h) → MailStands rest v past' image
stands_as rest v past past' image stands mail floors =
    subst (λ (m : Mail). BoxInvariant (box_in v rest) (runs_of_hosts v.hosts past'.floors) (shared image v.hosts) m) (sym mail)
    (fewer_hold (box_in v rest) (runs_of_hosts v.hosts past.floors) (runs_of_hosts v.hosts past'.floors) (shared image v.hosts) past.mail stands (λ h r is. by_host h r is (slice_get v.hosts h) refl))
  where
    by_task : (h : ℕ) (r : TaskRun) (x : MailHost) → slice_get v.hosts h ≡ Some x → (o : Option MailTask) → x.task ≡ o → run_by (slice_get v.hosts h) (past'.floors h) ≡ Some r
        → run_by (slice_get v.hosts h) (past.floors h) ≡ Some r
    by_task h r x x_is None idle is =
        absurd (let gone : run_by (slice_get v.hosts h) (past'.floors h) ≡ None = ap (λ (o : Option MailHost). run_by o (past'.floors h)) x_is
        ∙ ap (option_map {U = TaskRun} (λ (t : MailTask). record { task = t; floor = past'.floors h })) idle in cc)
    by_task h r x x_is (Some t) busy is = ap (λ (f : Option ℕ). run_by (slice_get v.hosts h) f) (sym (floors h x t x_is busy)) ∙ is

    by_host : (h : ℕ) (r : TaskRun) → run_by (slice_get v.hosts h) (past'.floors h) ≡ Some r → (o : Option MailHost) → slice_get v.hosts h ≡ o → run_by (slice_get v.hosts h) (past.floors h) ≡ Some r
    by_host h r is None none_is = absurd (let gone : run_by (slice_get v.hosts h) (past'.floors h) ≡ None = ap (λ (o : Option MailHost). run_by o (past'.floors h)) none_is in cc)
    by_host h r is (Some x) x_is = by_task h r x x_is x.task refl is

-- A task goes on with what it was asked.
asked_at : (p : Phase) (word : ℕ) (t : MailTask) → (phase_task p word t).ask ≡ t.ask
asked_at (at.LoadRecord i k) word t = by (k == 7)
  where
    by : (b : Bool)
        → (cond b (record t {
          phase = at.DropRecord (i + 1);
          words = Rattle.fam_mail.specs.Tasks.words_with 7 word t;
          records =
              Rattle.fam_mail.specs.Tasks.records_with word t;
        })
        (record t { phase = at.LoadRecord i (k + 1); words = Rattle.fam_mail.specs.Tasks.words_with k word t })).ask ≡ t.ask
    by true = refl
    by false = refl
asked_at other word t = refl

kept_ask : (over : Bool) (next t : MailTask) → cond over None (Some next) ≡ Some t → next.ask ≡ t.ask
kept_ask true next t is = absurd cc
kept_ask false next t is = ap (λ (x : MailTask). x.ask) (same_Some next t is)

module _ (entry : Entry) (start : Image) (records : List (List ℕ)) where
  -- the world of a state
  abbrev world : MailMachines → List MailNote → MailView
  world m journal = record { entry = entry; hosts = m.hosts; journal = journal }

  -- what its journal tells
  abbrev state : List MailNote → MailState
  state journal = mail_state (capacity_of entry.size) records journal

  -- Another host stands in a host's place, with the journal that there is then.
  module _ (m : MailMachines) (journal : List MailNote) (held : IsMailHeld entry start records m journal) (n : ℕ) (host next : MailHost) (host_is : slice_get m.hosts n ≡ Some host)
      (memory : Image) (name : next.name ≡ host.name) (writer : next.writer ≡ host.writer)
      (size : length memory ≡ length m.memory) (normal : map eight memory ≡ memory) (journal' : List MailNote) (legal : LegalMail (capacity_of entry.size) records journal') where
    abbrev hosts' : List MailHost
    hosts' = changed_member n (λ (x : MailHost). next) m.hosts

    here_is : (x : MailHost) (k : ℕ) → k ≡ n → slice_get (changed_member n (λ (x : MailHost). next) m.hosts) k ≡ Some x → x ≡ next
    here_is x k e is = sym (same_Some next x (sym (changed_here n (λ (y : MailHost). next) m.hosts host host_is) ∙ ap (slice_get (changed_member n (λ (y : MailHost). next) m.hosts)) (sym e) ∙ is))

    pub put_held : (past : MailPast) → MailStands (line_at start) (record { entry = entry; hosts = changed_member n (λ (x : MailHost). next) m.hosts; journal = journal' }) past memory
        → (mail_state (capacity_of entry.size) records journal').mail ≡ past.mail
        → ((t : MailTask) → next.task ≡ Some t → (mail_state (capacity_of entry.size) records journal').floor host.name ≡ past.floors n)
        → ((k : ℕ) (x : MailHost) → slice_get m.hosts k ≡ Some x → k ≢ n → (mail_state (capacity_of entry.size) records journal').floor x.name ≡ past.floors k)
        → ((t : MailTask) → next.task ≡ Some t → (mail_state (capacity_of entry.size) records journal').asked host.name ≡ Some t.ask)
        → ((k : ℕ) (x : MailHost) (t : MailTask) → slice_get m.hosts k ≡ Some x → x.task ≡ Some t → k ≢ n → (mail_state (capacity_of entry.size) records journal').asked x.name ≡ Some t.ask)
        → IsMailHeld entry start records (with_host_at n next memory m) journal'
    put_held past stands mail own_floor floors own_ask asks =
        record {
          legal = legal;
          stands = stands_as (line_at start) (record { entry = entry; hosts = changed_member n (λ (x : MailHost). next) m.hosts; journal = journal' }) past
              (past_told (state journal') (changed_member n (λ (x : MailHost). next) m.hosts)) memory stands mail told;
          asked = asked;
          one = one_put n host next m.hosts host_is writer held.one;
          named = named_put n host next m.hosts host_is name held.named;
          place = λ j below. omega (arith, held.place j below, size);
          normal = normal;
        }
      where
        told : (k : ℕ) (x : MailHost) (t : MailTask) → slice_get (changed_member n (λ (y : MailHost). next) m.hosts) k ≡ Some x → x.task ≡ Some t
            → floor_told (slice_get (changed_member n (λ (y : MailHost). next) m.hosts) k) (mail_state (capacity_of entry.size) records journal') ≡ past.floors k
        told k x t is task =
            ap (λ (o : Option MailHost). floor_told o (state journal')) is
            ∙ (elim (cases_eq k n) [
              | inl e ↦
                  let here : x ≡ next = here_is x k e is in
                  ap (λ (y : MailHost). (state journal').floor y.name) here ∙ ap (state journal').floor name ∙ own_floor t (ap (λ (y : MailHost). y.task) (sym here) ∙ task) ∙ ap past.floors (sym e)
              | inr ne ↦ floors k x (sym (changed_other n k (λ (y : MailHost). next) m.hosts ne) ∙ is) ne
            ])

        asked : AreTasksAsked (mail_state (capacity_of entry.size) records journal') (changed_member n (λ (y : MailHost). next) m.hosts)
        asked k x t is task =
            elim (cases_eq k n) [
              | inl e ↦
                  let here : x ≡ next = here_is x k e is in
                  ap (λ (y : MailHost). (state journal').asked y.name) here ∙ ap (state journal').asked name ∙ own_ask t (ap (λ (y : MailHost). y.task) (sym here) ∙ task)
              | inr ne ↦ asks k x t (sym (changed_other n k (λ (y : MailHost). next) m.hosts ne) ∙ is) task ne
            ]

  -- Notes that are plain.
  module _ (m : MailMachines) (journal : List MailNote) (held : IsMailHeld entry start records m journal) (x : MailNote) (plain : IsPlain (capacity_of entry.size) x) where
    plain_state : mail_state (capacity_of entry.size) records (journal ++ x ∷ []) ≡ mail_state_behind (capacity_of entry.size) (mail_state (capacity_of entry.size) records journal) x
    plain_state = state_both (capacity_of entry.size) (first_mail_state records) journal (x ∷ [])

    -- a plain note keeps what is held
    pub plain_held : IsMailHeld entry start records m (journal ++ x ∷ [])
    plain_held =
        let c = capacity_of entry.size in
        let s = state journal in
        let due = legal_due c (first_mail_state records) journal held.legal in
        let s' = state (journal ++ x ∷ []) in
        let floor : s'.floor ≡ s.floor = ap (λ (y : MailState). y.floor) plain_state ∙ plain.floor s in
        let asked : s'.asked ≡ s.asked = ap (λ (y : MailState). y.asked) plain_state ∙ plain.asked s in
        record {
          legal = legal_both c (first_mail_state records) journal (x ∷ []) held.legal (record { full = plain.full ∙ sym due; row = plain.row s }, plain.due);
          stands = stands_as (line_at start) (world m (journal ++ x ∷ [])) (past_told s m.hosts) (past_told s' m.hosts) m.memory held.stands (ap (λ (y : MailState). y.mail) plain_state ∙ plain.mail s)
              (λ k y t is task. ap (λ (o : Option MailHost). floor_told o s') is ∙ ap (λ (f : List ℕ → Option ℕ). f y.name) floor ∙ sym (ap (λ (o : Option MailHost). floor_told o s) is));
          asked = λ k y t is task. ap (λ (f : List ℕ → Option Ask). f y.name) asked ∙ held.asked k y t is task;
          one = held.one;
          named = held.named;
          place = held.place;
          normal = held.normal;
        }

  -- A host is another one, and nothing is noted yet.
  module _ (m : MailMachines) (journal : List MailNote) (held : IsMailHeld entry start records m journal) (n : ℕ) (host next : MailHost) (host_is : slice_get m.hosts n ≡ Some host)
      (memory : Image) (name : next.name ≡ host.name) (writer : next.writer ≡ host.writer)
      (size : length memory ≡ length m.memory) (normal : map eight memory ≡ memory) where
    -- so does another host in a host's place, over an image on which the world stands
    pub same_held : MailStands (line_at start)
        (record { entry = entry; hosts = changed_member n (λ (x : MailHost). next) m.hosts; journal = journal })
        (past_told (mail_state (capacity_of entry.size) records journal) m.hosts) memory
        → ((t : MailTask) → next.task ≡ Some t → (mail_state (capacity_of entry.size) records journal).asked host.name ≡ Some t.ask)
        → IsMailHeld entry start records (with_host_at n next memory m) journal
    same_held stands own_ask =
        let s = state journal in
        put_held m journal held n host next host_is memory name writer size normal journal held.legal (past_told s m.hosts) stands refl
        (λ t is. sym (ap (λ (o : Option MailHost). floor_told o s) host_is)) (λ k x is ne. sym (ap (λ (o : Option MailHost). floor_told o s) is)) own_ask (λ k x t is task ne. held.asked k x t is task)

  -- A host's task does an operation.
  module _ (m : MailMachines) (journal : List MailNote) (held : IsMailHeld entry start records m journal) (name : List ℕ) (n : ℕ) (host : MailHost) (host_is : slice_get m.hosts n ≡ Some host)
      (name_same : host.name ≡ name) (t : MailTask) (task_is : host.task ≡ Some t) where
    floor_is : (past_told (mail_state (capacity_of entry.size) records journal) m.hosts).floors n ≡ (mail_state (capacity_of entry.size) records journal).floor name
    floor_is = ap (λ (o : Option MailHost). floor_told o (state journal)) host_is ∙ ap (state journal).floor name_same

    asked_is : (mail_state (capacity_of entry.size) records journal).asked name ≡ Some t.ask
    asked_is = ap (state journal).asked (sym name_same) ∙ held.asked n host t host_is task_is

    others : (k : ℕ) (x : MailHost) → slice_get m.hosts k ≡ Some x → k ≢ n → path_eq x.name name ≡ false
    others k x is ne = other_name x.name name (λ e. apart m.hosts held.named n k host x host_is is ne (e ∙ sym name_same))

    -- an operation that the media served keeps what is held
    pub served_held : (notes : List MailNote) (new : MailMachines) → IsTaskServed entry name n host t m notes new → IsMailHeld entry start records new (journal ++ notes)
    served_held notes new served =
        let c = capacity_of entry.size in
        let s = state journal in
        let past = past_told s m.hosts in
        let o = task_op (file_line entry) t in
        let x = machine m.memory host.cache in
        let word = word_given o x in
        let turn = mail_turn word t in
        let made = notes_of_turn name turn in
        let next = host_behind host t word (operated o x).cache in
        let image' = (operated o x).image in
        let said = says_so (line_at start) (world m journal) past m.memory held.stands n host next host_is t task_is held.place word refl (Some image') (record { image = refl; cache = refl }) refl
        (journal ++ made) in
        let says : TaskMaySay turn t.ask (s.floor name) s.mail c = subst (λ (f : Option ℕ). TaskMaySay turn t.ask f s.mail c) floor_is said.says in
        let legal : LegalMail c records (journal ++ made) =
        legal_both c (first_mail_state records) journal made held.legal (turn_legal c name s t.ask asked_is (legal_due c (first_mail_state records) journal held.legal) turn says) in
        let state_is : state (journal ++ made) ≡ mail_state_along c s made = state_both c (first_mail_state records) journal made in
        let stands : MailStands (line_at start) (record { entry = entry; hosts = changed_member n (λ (y : MailHost). next) m.hosts; journal = journal ++ made }) (mail_past_after n turn t.ask past)
        image' =
        subst (λ (i : Image). MailStands (line_at start) (record { entry = entry; hosts = changed_member n (λ (y : MailHost). next) m.hosts; journal = journal ++ made })
        (mail_past_after n turn t.ask past) i) (sym (same_Some image' said.image said.told)) said.stands in
        let here : IsMailHeld entry start records (with_host_at n next image' m) (journal ++ made) =
        put_held m journal held n host next host_is image' refl refl (operated_length o x) (operated_normal o x held.normal) (journal ++ made) legal (mail_past_after n turn t.ask past) stands
        (ap (λ (y : MailState). y.mail) state_is ∙ turn_mail c name s t.ask asked_is turn says)
        (λ t' is. ap (λ (y : MailState). y.floor host.name) state_is ∙ ap (mail_state_along c s made).floor name_same ∙ turn_floor c name s (own_name name) turn
        ∙ sym (ap (λ (b : Bool). cond b (floor_behind_turn turn (length s.mail.list) (past.floors n)) (past.floors n)) (eq-eqb n n refl) ∙ ap (floor_behind_turn turn (length s.mail.list)) floor_is))
        (λ k y is ne. ap (λ (z : MailState). z.floor y.name) state_is ∙ others_floor c name s y.name (others k y is ne) turn
        ∙ sym (ap (λ (b : Bool). cond b (floor_behind_turn turn (length s.mail.list) (past.floors n)) (past.floors k)) (ne_eqb k n ne) ∙ ap (λ (q : Option MailHost). floor_told q s) is))
        (λ t' is. ap (λ (z : MailState). z.asked host.name) state_is ∙ ap (λ (f : List ℕ → Option Ask). f host.name) (turn_asked c name s turn) ∙ held.asked n host t host_is task_is
        ∙ ap (λ (a : Ask). Some a) (sym (asked_at t.phase word t) ∙ kept_ask (ends_mail_task turn) (next_task word t) t' is))
        (λ k y t' is task ne. ap (λ (z : MailState). z.asked y.name) state_is ∙ ap (λ (f : List ℕ → Option Ask). f y.name) (turn_asked c name s turn) ∙ held.asked k y t' is task) in
        subst (λ (q : MailMachines). IsMailHeld entry start records q (journal ++ notes)) (sym served.left)
        (subst (λ (ns : List MailNote). IsMailHeld entry start records (with_host_at n next image' m) (journal ++ ns)) (sym served.notes_are) here)

    -- and one in which it failed
    pub cut_held : (notes : List MailNote) (new : MailMachines) → IsTaskCut entry name n host t m notes new → IsMailHeld entry start records new (journal ++ notes)
    cut_held notes new cut =
        let s = state journal in
        let past = past_told s m.hosts in
        let o = task_op (file_line entry) t in
        let x = machine m.memory host.cache in
        let next : MailHost = record host { cache = cut.rest.cache; task = None } in
        let left = cut.rest.image in
        let inside = asks_inside (line_at start) (world m journal) past m.memory held.stands n host next host_is t task_is held.place in
        let breaks = op_breaks o x cut.fails.through (record { line = cut.line; left = cut.rest }) held.normal inside cut.fails.is in
        let still = stands_still (line_at start) (world m journal) past m.memory held.stands n host next host_is t task_is held.place held.normal cut.line refl (Some left)
        (record { left = cut.rest; fails = cut.fails; is = record { image = refl; cache = refl } }) journal in
        let stands = subst (λ (i : Image). MailStands (line_at start) (record { entry = entry; hosts = changed_member n (λ (y : MailHost). next) m.hosts; journal = journal }) past i)
        (sym (same_Some left still.image still.told)) still.stands in
        let here = same_held m journal held n host next host_is left refl refl (breaks_length x (record { line = cut.line; left = cut.rest }) breaks)
        (breaks_normal x (record { line = cut.line; left = cut.rest }) breaks held.normal) stands (λ t' is. absurd cc) in
        let noted = plain_held (with_host_at n next left m) journal here (note.MediaFault name cut.line)
        (record { mail = λ y. refl; floor = λ y. refl; asked = λ y. refl; due = refl; full = refl; row = λ y. tt }) in
        subst (λ (q : MailMachines). IsMailHeld entry start records q (journal ++ notes)) (sym cut.left)
        (subst (λ (ns : List MailNote). IsMailHeld entry start records (with_host_at n next left m) (journal ++ ns)) (sym cut.notes_are) noted)
