-- How a world with a mailbox stands behind each of its calls.
use Rattle.std.proofs.Common.{◌≡◌, ℕ, ◌+◌, ◌<◌, ◌≤◌, ◌⊎◌, inl, inr, List, [], ◌∷◌, ◌++◌, length, map, refl, sym, ap, subst, ◌∙◌, arith}
use Prim.Native.Nat.{zero, suc}
use Rattle.std.specs.Prelude.{cond, if◌then◌else◌, nat_le, Bool, true, false, slice_get, Option, Some, None, Ok, option_map, is_some}
use Rattle.std.specs.FinMap as finmap
use Rattle.std.proofs.Math.Path.{fun_ext}
use Rattle.std.proofs.lemmas.Bool.{cases_eq}
use Rattle.std.proofs.lemmas.Option.{same_Some}
use Rattle.fam_base.specs.Image.{Image, IsNormal, eight, line_at}
use Rattle.fam_base.specs.declared.entry.Entry.{Entry}
use Rattle.fam_machine.specs.declared.cell.Cell.{Cell}
use Rattle.fam_machine.specs.declared.cell.Cell.TheVariants.{Absent}
use Rattle.fam_machine.specs.Caches.{Cache, cell_at}
use Rattle.fam_machine.proofs.CacheLemmas.{cell_at-empty}
use Rattle.fam_media.specs.States.{MediaChange}
use Rattle.fam_protocol.specs.SharedState.{SharedState, Loses}
use Rattle.fam_rules.specs.Written.{file_line}
use Rattle.fam_mail.specs.declared.ask.Ask.{Ask}
use Rattle.fam_mail.specs.declared.ask.Ask.TheVariants.{Post, Take}
use Rattle.fam_mail.specs.declared.note.MailNote.{MailNote}
use Rattle.fam_mail.specs.declared.note.MailNote.TheVariants as note
use Rattle.fam_mail.specs.Boxes.{IsOneToOne, box_of, capacity_of}
use Rattle.fam_mail.specs.Calls.{MailBegins, TaskBreaks, ChangesHost, MailDeclares, MailHalts, IsTold, MailOperates, TaskServes, MailStops, MailWorldFits, ask_refusal, begin_refusal, capacity_in, declare_refusal, host_at, named_host_refusal, second_writer}
use Rattle.fam_mail.specs.Mail.{TaskRun, whole}
use Rattle.fam_mail.specs.Protocol.{Box, BoxInvariant, IsLineOfBox, IsWriters}
use Rattle.fam_mail.specs.Records.{IsRecord}
use Rattle.fam_mail.specs.Standing.{IsOneWriter, MailPast, SaysSo, MailStands, StandsAfter, StandsBehind, StandsStill, box_in, held_by, run_by, runs_of_hosts, shared}
use Rattle.fam_mail.specs.Tasks.{IsPost, MailTask, new_task}
use Rattle.fam_mail.specs.World.{MailHost, MailView, changed_member, member_place_from, member_place, is_named, is_writer, new_mail_host, mail_noted}
use Rattle.fam_mail.proofs.Boxing.{box_begins, box_reads}
use Rattle.fam_mail.proofs.Events.{begins_hold, declared_holds, fewer_hold, loses_hold}
use Rattle.fam_mail.proofs.Lists.{member_behind}
use Rattle.fam_mail.proofs.Members.{changed_here, changed_other}
use Rattle.fam_mail.proofs.Standing.{index_put, says_so, stands_still}

-- A box that is read as a list begins a run.
pub begun : (entry : Entry) (image : Image) (records : List (List ℕ)) → IsOneToOne (file_line entry) (capacity_of entry.size) → map eight image ≡ image
    → box_of (file_line entry) (capacity_of entry.size) (line_at image) ≡ Ok records
    → MailStands (line_at image) (record { entry = entry; hosts = []; journal = [] }) (record { mail = record { list = records; pending = None }; floors = λ h. None }) image
begun entry image records apart normal is =
    let b : Box = record { place = file_line entry; capacity = capacity_of entry.size; writer = None; rest = line_at image } in
    let s = shared image [] in
    let inv = box_begins (file_line entry) (capacity_of entry.size) s records apart (λ l. refl) (λ h l. refl) is in
    fewer_hold b (λ h. None) (runs_of_hosts [] (λ h. None)) s (record { list = records; pending = None }) inv (λ h r none. none)

-- An operation of a task, of which the media served or failed.
module _ (rest : ℕ → List ℕ) (v new : MailView) (past : MailPast) (image : Image) (lines : ℕ) (name : List ℕ) (told : MediaChange) (over : Bool) (stands : MailStands rest v past image)
    (is : told.old.image ≡ Some image) (is_told : IsTold lines told.old.image)
    (place : (j : ℕ) → j ≤ capacity_in v → file_line v.entry j < lines) (at : ℕ) (host next : MailHost) (host_is : slice_get v.hosts at ≡ Some host) (t : MailTask) (task_is : host.task ≡ Some t)
    (notes journal : List MailNote)
    (new_is : new ≡ record { entry = v.entry; hosts = changed_member at (λ (x : MailHost). next) v.hosts; journal = journal }) where
  inside : (j : ℕ) → j ≤ capacity_in v → file_line v.entry j < length image
  inside j le = omega (arith, place j le, is_told.count image is)

  -- the world stands behind an operation, and its task says what it may
  pub behind : (how : TaskServes v.entry name host t told over next notes ⊎ TaskBreaks v.entry name host t told over next notes)
      → StandsBehind rest past at v.entry name host t told over next notes new how
  behind (inl serves) =
      let said = says_so rest v past image stands at host next host_is t task_is inside serves.word serves.next_is told.new.image (serves.done image is) (serves.word_is image is) journal in
      subst (λ (w : MailView). SaysSo rest at serves.word t past told.new.image w) (sym new_is) said
  behind (inr breaks) =
      let still = stands_still rest v past image stands at host next host_is t task_is inside (subst IsNormal is is_told.normal) breaks.line breaks.next_is told.new.image (breaks.failed image is)
      journal in
      subst (λ (w : MailView). StandsStill rest past told.new.image w) (sym new_is) still

-- so behind a call that does one
pub operated_stands : (rest : ℕ → List ℕ) (name : List ℕ) (told : MediaChange) (over : Bool) (old new : MailView) (past : MailPast) (image : Image)
    (lines : ℕ) (call : MailOperates name told over old new) → MailStands rest old past image
    → told.old.image ≡ Some image → IsTold lines told.old.image → MailWorldFits lines old → StandsAfter rest past name told over old new call
operated_stands rest name told over old new past image lines call stands is modelled fits =
    behind rest old new past image lines name told over stands is modelled fits.place call.at call.host call.next call.host_is call.does.task call.does.task_is call.notes
    (old.journal ++ call.notes) call.is call.does.how

-- What the box reads as at any time, and the other lines of the image.
pub box_told : (rest : ℕ → List ℕ) (v : MailView) (past : MailPast) (image : Image) → MailStands rest v past image
    → (box_of (file_line v.entry) (capacity_in v) (line_at image) ≡ Ok past.mail.list) ⊎ (box_of (file_line v.entry) (capacity_in v) (line_at image) ≡ Ok (whole past.mail))
box_told rest v past image stands = box_reads (box_in v rest) (shared image v.hosts) past.mail stands.core

-- other lines are as at first
pub rest_stays : (rest : ℕ → List ℕ) (v : MailView) (past : MailPast) (image : Image) → MailStands rest v past image → (l : ℕ) → (IsLineOfBox (file_line v.entry) (capacity_in v) l → ⊥)
    → line_at image l ≡ rest l
rest_stays rest v past image stands l not = stands.core.outside l not

-- A host is changed, of which the cache and whether it may post stay: its task alone is another one.
module _ (rest : ℕ → List ℕ) (v : MailView) (past : MailPast) (image : Image) (stands : MailStands rest v past image) (n : ℕ) (host next : MailHost) (host_is : slice_get v.hosts n ≡ Some host)
    (writer : next.writer ≡ host.writer) where
  changed : List MailHost
  changed = changed_member n (λ (x : MailHost). next) v.hosts

  box_changed : (journal : List MailNote) → box_in (record { entry = v.entry; hosts = changed_member n (λ (x : MailHost). next) v.hosts; journal = journal }) rest ≡ box_in v rest
  box_changed journal = ap (λ (w : Option ℕ). record { place = file_line v.entry; capacity = capacity_in v; writer = w; rest = rest }) (index_put is_writer 0 n host next v.hosts host_is writer)

  copies_changed : next.cache ≡ host.cache → shared image (changed_member n (λ (x : MailHost). next) v.hosts) ≡ shared image v.hosts
  copies_changed cache = ap (λ (copy : ℕ → ℕ → Cell). record { memory = line_at image; copy = copy }) (fun_ext (λ h. fun_ext (λ l. one h l)))
    where
      one : (h l : ℕ) → held_by (slice_get (changed_member n (λ (x : MailHost). next) v.hosts) h) l ≡ held_by (slice_get v.hosts h) l
      one h l =
          elim (cases_eq h n) [
            | inl e ↦
                ap (λ (k : ℕ). held_by (slice_get (changed_member n (λ (x : MailHost). next) v.hosts) k) l) e
                ∙ ap (λ (o : Option MailHost). held_by o l) (changed_here n (λ (x : MailHost). next) v.hosts host host_is)
                ∙ ap (λ (k : Cache). cell_at k l) cache
                ∙ sym (ap (λ (o : Option MailHost). held_by o l) (ap (λ (k : ℕ). slice_get v.hosts k) e ∙ host_is))
            | inr ne ↦ ap (λ (o : Option MailHost). held_by o l) (changed_other n h (λ (x : MailHost). next) v.hosts ne)
          ]

  -- the task is dropped
  dropped_runs : next.task ≡ None → (h : ℕ) (r : TaskRun) → runs_of_hosts (changed_member n (λ (x : MailHost). next) v.hosts) past.floors h ≡ Some r → runs_of_hosts v.hosts past.floors h ≡ Some r
  dropped_runs none h r is =
      elim (cases_eq h n) [
        | inl e ↦ absurd (never h r e is)
        | inr ne ↦ sym (ap (λ (o : Option MailHost). run_by o (past.floors h)) (changed_other n h (λ (x : MailHost). next) v.hosts ne)) ∙ is
      ]
    where
      never : (h : ℕ) (r : TaskRun) → h ≡ n → runs_of_hosts (changed_member n (λ (x : MailHost). next) v.hosts) past.floors h ≡ Some r → ⊥
      never h r e is =
          let gone : runs_of_hosts (changed_member n (λ (x : MailHost). next) v.hosts) past.floors n ≡ None =
          ap (λ (o : Option MailHost). run_by o (past.floors n)) (changed_here n (λ (x : MailHost). next) v.hosts host host_is)
          ∙ ap (option_map {U = TaskRun} (λ (y : MailTask). record { task = y; floor = past.floors n })) none in
          absurd (cc (gone, ap (runs_of_hosts (changed_member n (λ (x : MailHost). next) v.hosts) past.floors) e, is))

  -- a host whose task is dropped
  pub stop_stands : next.task ≡ None → next.cache ≡ host.cache → (journal : List MailNote)
      → MailStands rest (record { entry = v.entry; hosts = changed_member n (λ (x : MailHost). next) v.hosts; journal = journal }) past image
  stop_stands none cache journal =
      subst (λ (b : Box). BoxInvariant b (runs_of_hosts (changed_member n (λ (x : MailHost). next) v.hosts) past.floors) (shared image (changed_member n (λ (x : MailHost). next) v.hosts))
      past.mail) (sym (box_changed journal))
      (subst (λ (s : SharedState). BoxInvariant (box_in v rest) (runs_of_hosts (changed_member n (λ (x : MailHost). next) v.hosts) past.floors) s past.mail) (sym (copies_changed cache))
      (fewer_hold (box_in v rest) (runs_of_hosts v.hosts past.floors) (runs_of_hosts (changed_member n (λ (x : MailHost). next) v.hosts) past.floors) (shared image v.hosts) past.mail stands
      (dropped_runs none)))

  -- and so is its cache
  pub halt_stands : next.task ≡ None → next.cache ≡ finmap.empty → (journal : List MailNote)
      → MailStands rest (record { entry = v.entry; hosts = changed_member n (λ (x : MailHost). next) v.hosts; journal = journal }) past image
  halt_stands none cache journal =
      let hosts' = changed_member n (λ (x : MailHost). next) v.hosts in
      let runs' = runs_of_hosts hosts' past.floors in
      let idle : runs' n ≡ None =
      ap (λ (o : Option MailHost). run_by o (past.floors n)) (changed_here n (λ (x : MailHost). next) v.hosts host host_is)
      ∙ ap (option_map {U = TaskRun} (λ (y : MailTask). record { task = y; floor = past.floors n })) none in
      let fewer = fewer_hold (box_in v rest) (runs_of_hosts v.hosts past.floors) runs' (shared image v.hosts) past.mail stands (dropped_runs none) in
      let lost : Loses n (shared image v.hosts) (shared image hosts') = record {
        memory = λ l. refl;
        lost = λ l. ap (λ (o : Option MailHost). held_by o l) (changed_here n (λ (x : MailHost). next) v.hosts host host_is) ∙ ap (λ (k : Cache). cell_at k l) cache ∙ cell_at-empty l;
        hosts = λ h l ne. ap (λ (o : Option MailHost). held_by o l) (changed_other n h (λ (x : MailHost). next) v.hosts ne);
      } in
      subst (λ (b : Box). BoxInvariant b runs' (shared image hosts') past.mail) (sym (box_changed journal))
      (loses_hold (box_in v rest) runs' (shared image v.hosts) (shared image hosts') past.mail fewer n lost idle)

  -- a task begins, a post on the host that may post alone
  pub begin_stands : (ask : Ask) → next.task ≡ Some (new_task ask (capacity_in v)) → next.cache ≡ host.cache → (IsPost ask → IsWriters (box_in v rest) n ask) → (journal : List MailNote)
      → MailStands rest (record { entry = v.entry; hosts = changed_member n (λ (x : MailHost). next) v.hosts; journal = journal }) past image
  begin_stands ask task cache post journal =
      let hosts' = changed_member n (λ (x : MailHost). next) v.hosts in
      let runs' = runs_of_hosts hosts' past.floors in
      let mine : runs' n ≡ Some (record { task = new_task ask (capacity_in v); floor = past.floors n }) =
      ap (λ (o : Option MailHost). run_by o (past.floors n)) (changed_here n (λ (x : MailHost). next) v.hosts host host_is)
      ∙ ap (option_map {U = TaskRun} (λ (y : MailTask). record { task = y; floor = past.floors n })) task in
      subst (λ (b : Box). BoxInvariant b runs' (shared image hosts') past.mail) (sym (box_changed journal))
      (subst (λ (s : SharedState). BoxInvariant (box_in v rest) runs' s past.mail) (sym (copies_changed cache))
      (begins_hold (box_in v rest) (runs_of_hosts v.hosts past.floors) runs' (shared image v.hosts) past.mail n ask (past.floors n) stands post mine
      (λ h ne. ap (λ (o : Option MailHost). run_by o (past.floors h)) (changed_other n h (λ (x : MailHost). next) v.hosts ne))))

-- The calls that take no media.

-- a change of one member is one of what stands there
pub changed_alike : {A : Type 0} (n : ℕ) (f : A → A) (x : A) (xs : List A) → slice_get xs n ≡ Some x → changed_member n f xs ≡ changed_member n (λ (z : A). f x) xs
changed_alike {A} n f x [] is = refl
changed_alike {A} zero f x (y ∷ xs) is = ap (λ (z : A). f z ∷ xs) (same_Some y x is)
changed_alike {A} (suc n) f x (y ∷ xs) is = ap (λ (zs : List A). y ∷ zs) (changed_alike n f x xs is)

module _ (rest : ℕ → List ℕ) (name : List ℕ) (old new : MailView) (past : MailPast) (image : Image) (stands : MailStands rest old past image) where
  -- the world behind a change of one host
  changed_world : (change : MailHost → MailHost) (made : MailNote) (call : ChangesHost name change made old new)
      → new ≡ record { entry = old.entry; hosts = changed_member call.at (λ (x : MailHost). change call.host) old.hosts; journal = old.journal ++ made ∷ [] }
  changed_world change made call =
      call.is ∙ ap (λ (hs : List MailHost). record { entry = old.entry; hosts = hs; journal = old.journal ++ made ∷ [] }) (changed_alike call.at change call.host old.hosts call.host_is)

  -- a call that drops a task
  pub stopped : MailStops name None old new → MailStands rest new past image
  stopped call =
      let c = call.1 in
      let change : MailHost → MailHost = λ h. record h { task = None } in
      subst (λ (v : MailView). MailStands rest v past image) (sym (changed_world change (note.Stop name) c))
      (stop_stands rest old past image stands c.at c.host (change c.host) c.host_is refl refl refl (old.journal ++ note.Stop name ∷ []))

  -- a call that halts a host
  pub halted : MailHalts name None old new → MailStands rest new past image
  halted call =
      let c = call.1 in
      let change : MailHost → MailHost = λ h. record h { cache = finmap.empty; task = None } in
      subst (λ (v : MailView). MailStands rest v past image) (sym (changed_world change (note.Halt name) c))
      (halt_stands rest old past image stands c.at c.host (change c.host) c.host_is refl refl refl (old.journal ++ note.Halt name ∷ []))

  -- the host that a task may begin on
  module _ (one : IsOneWriter old.hosts) where
    may_post : (n : ℕ) (h : MailHost) (ask : Ask) → slice_get old.hosts n ≡ Some h → ask_refusal ask h ≡ None → ((numbers : List ℕ) → ask ≡ Post numbers → IsRecord numbers) → IsPost ask
        → IsWriters (box_in old rest) n ask
    may_post n h (Post numbers) is free proper post = record { writer = one n h is (go h.writer free); numbers = numbers; is = refl; proper = proper numbers refl }
      where
        go : (w : Bool) → cond w None (Some Rattle.fam_mail.specs.declared.note.MailRefusal.TheVariants.NotWriter) ≡ None → w ≡ true
        go true e = refl
        go false e = absurd cc
    may_post n h Take is free proper post = absurd post

    begin_free : (task : Option MailTask) (ask : Ask) (h : MailHost) → cond (is_some task) (Some Rattle.fam_mail.specs.declared.note.MailRefusal.TheVariants.Busy) (ask_refusal ask h) ≡ None
        → ask_refusal ask h ≡ None
    begin_free None ask h e = e
    begin_free (Some t) ask h e = absurd cc

    -- a call that begins a task
    pub started : (ask : Ask) → ((numbers : List ℕ) → ask ≡ Post numbers → IsRecord numbers) → MailBegins name ask None old new → MailStands rest new past image
    started ask proper call =
        let c = call.1 in
        let change : MailHost → MailHost = λ h. record h { task = Some (new_task ask (capacity_in old)) } in
        let found : begin_refusal ask c.host ≡ None = sym (ap (λ (o : Option ℕ). named_host_refusal (begin_refusal ask) (host_at o old)) c.number
        ∙ ap (named_host_refusal (begin_refusal ask)) c.host_is) ∙ call.0 in
        subst (λ (v : MailView). MailStands rest v past image) (sym (changed_world change (note.Start name ask) c))
        (begin_stands rest old past image stands c.at c.host (change c.host) c.host_is refl ask refl refl (may_post c.at c.host ask c.host_is (begin_free c.host.task ask c.host found) proper)
        (old.journal ++ note.Start name ask ∷ []))

-- A host is declared.

-- a list with one more member has the members before, and it
pub data More {A : Type 0} (xs : List A) (y : A) (n : ℕ) : Type 0 where
  before : slice_get (xs ++ y ∷ []) n ≡ slice_get xs n → (n ≡ length xs → ⊥) → More xs y n
  last : n ≡ length xs → slice_get (xs ++ y ∷ []) n ≡ Some y → slice_get xs n ≡ None → More xs y n

more_next : {A : Type 0} (x : A) (xs : List A) (y : A) (n : ℕ) → More xs y n → More (x ∷ xs) y (suc n)
more_next x xs y n (before is not) = before is (λ e. not (cc))
more_next x xs y n (last e is none) = last (ap suc e) is none

-- each member of a list with one more is an old one or the last
pub more : {A : Type 0} (xs : List A) (y : A) (n : ℕ) → More xs y n
more {A} [] y zero = last refl refl refl
more {A} [] y (suc n) = before refl (λ e. absurd cc)
more {A} (x ∷ xs) y zero = before refl (λ e. absurd cc)
more {A} (x ∷ xs) y (suc n) = more_next x xs y n (more xs y n)

-- the first that passes, with one more member behind
index_more : {A : Type 0} (test : A → Bool) (n : ℕ) (xs : List A) (y : A) → test y ≡ false → member_place_from n test (xs ++ y ∷ []) ≡ member_place_from n test xs
index_more test n [] y fails = ap (λ (b : Bool). if b then Some n else None) fails
index_more test n (x ∷ xs) y fails = ap (λ (r : Option ℕ). if test x then Some n else r) (index_more test (n + 1) xs y fails)

index_last_by : (t : Bool) (n len : ℕ) (here rest : Option ℕ) → cond t (Some n) rest ≡ None → (rest ≡ None → here ≡ Some (n + 1 + len)) → cond t (Some n) here ≡ Some (n + suc len)
index_last_by true n len here rest none next = absurd cc
index_last_by false n len here rest none next = next none ∙ ap (λ (k : ℕ). Some k) (omega arith)

-- the last one is found where no other passes
pub index_last : {A : Type 0} (test : A → Bool) (n : ℕ) (xs : List A) (y : A) → test y ≡ true → member_place_from n test xs ≡ None → member_place_from n test (xs ++ y ∷ []) ≡ Some (n + length xs)
index_last test n [] y passes none = ap (λ (b : Bool). if b then Some n else None) passes ∙ ap (λ (k : ℕ). Some k) (omega arith)
index_last test n (x ∷ xs) y passes none =
    index_last_by (test x) n (length xs) (member_place_from (n + 1) test (xs ++ y ∷ [])) (member_place_from (n + 1) test xs) none (λ rest. index_last test (n + 1) xs y passes rest)

module _ (rest : ℕ → List ℕ) (v : MailView) (past : MailPast) (image : Image) (stands : MailStands rest v past image) (fresh : MailHost) (empty : fresh.cache ≡ finmap.empty)
    (idle : fresh.task ≡ None) where
  -- neither memory nor a copy is other
  copies_more : shared image (v.hosts ++ fresh ∷ []) ≡ shared image v.hosts
  copies_more = ap (λ (copy : ℕ → ℕ → Cell). record { memory = line_at image; copy = copy }) (fun_ext (λ h. fun_ext (λ l. one h l (more v.hosts fresh h))))
    where
      one : (h l : ℕ) → More v.hosts fresh h → held_by (slice_get (v.hosts ++ fresh ∷ []) h) l ≡ held_by (slice_get v.hosts h) l
      one h l (before is not) = ap (λ (o : Option MailHost). held_by o l) is
      one h l (last e is none) =
          ap (λ (o : Option MailHost). held_by o l) is ∙ ap (λ (k : Cache). cell_at k l) empty ∙ cell_at-empty l ∙ sym (ap (λ (o : Option MailHost). held_by o l) none)

  -- nor does a task run that didn't
  runs_more : (h : ℕ) (r : TaskRun) → runs_of_hosts (v.hosts ++ fresh ∷ []) past.floors h ≡ Some r → runs_of_hosts v.hosts past.floors h ≡ Some r
  runs_more h r is = one (more v.hosts fresh h)
    where
      one : More v.hosts fresh h → runs_of_hosts v.hosts past.floors h ≡ Some r
      one (before same not) = sym (ap (λ (o : Option MailHost). run_by o (past.floors h)) same) ∙ is
      one (last e same none) =
          absurd (cc (ap (λ (o : Option MailHost). run_by o (past.floors h)) same ∙ ap (option_map {U = TaskRun} (λ (t : MailTask). record { task = t; floor = past.floors h })) idle, is))

  again : BoxInvariant (box_in v rest) (runs_of_hosts (v.hosts ++ fresh ∷ []) past.floors) (shared image (v.hosts ++ fresh ∷ [])) past.mail
  again =
      subst (λ (s : SharedState). BoxInvariant (box_in v rest) (runs_of_hosts (v.hosts ++ fresh ∷ []) past.floors) s past.mail) (sym copies_more)
      (fewer_hold (box_in v rest) (runs_of_hosts v.hosts past.floors) (runs_of_hosts (v.hosts ++ fresh ∷ []) past.floors) (shared image v.hosts) past.mail stands runs_more)

  -- one that may not post
  reader_stands : fresh.writer ≡ false → (journal : List MailNote) → MailStands rest (record { entry = v.entry; hosts = v.hosts ++ fresh ∷ []; journal = journal }) past image
  reader_stands fails journal =
      subst (λ (w : Option ℕ). BoxInvariant (record { place = file_line v.entry; capacity = capacity_in v; writer = w; rest = rest }) (runs_of_hosts (v.hosts ++ fresh ∷ []) past.floors)
      (shared image (v.hosts ++ fresh ∷ [])) past.mail)
      (sym (index_more is_writer 0 v.hosts fresh fails)) again

  -- the one that may
  writer_stands : fresh.writer ≡ true → member_place is_writer v.hosts ≡ None → (journal : List MailNote)
      → MailStands rest (record { entry = v.entry; hosts = v.hosts ++ fresh ∷ []; journal = journal }) past image
  writer_stands passes none journal =
      let n = length v.hosts in
      let lastly : slice_get (v.hosts ++ fresh ∷ []) n ≡ Some fresh = member_behind v.hosts fresh in
      let absent : (l : ℕ) → (shared image (v.hosts ++ fresh ∷ [])).copy n l ≡ Absent = λ l.
      ap (λ (o : Option MailHost). held_by o l) lastly ∙ ap (λ (k : Cache). cell_at k l) empty ∙ cell_at-empty l in
      let rests : runs_of_hosts (v.hosts ++ fresh ∷ []) past.floors n ≡ None =
      ap (λ (o : Option MailHost). run_by o (past.floors n)) lastly ∙ ap (option_map {U = TaskRun} (λ (t : MailTask). record { task = t; floor = past.floors n })) idle in
      let found : member_place is_writer (v.hosts ++ fresh ∷ []) ≡ Some n = index_last is_writer 0 v.hosts fresh passes none ∙ ap (λ (k : ℕ). Some k) (omega arith) in
      subst (λ (w : Option ℕ). BoxInvariant (record { place = file_line v.entry; capacity = capacity_in v; writer = w; rest = rest }) (runs_of_hosts (v.hosts ++ fresh ∷ []) past.floors)
      (shared image (v.hosts ++ fresh ∷ [])) past.mail) (sym found)
      (declared_holds (box_in v rest) (runs_of_hosts (v.hosts ++ fresh ∷ []) past.floors) (shared image (v.hosts ++ fresh ∷ [])) past.mail again none n absent rests)

-- at most one host may post then too
one_writer : (hosts : List MailHost) (fresh : MailHost) → IsOneWriter hosts → (fresh.writer ≡ true → member_place is_writer hosts ≡ None) → IsOneWriter (hosts ++ fresh ∷ [])
one_writer hosts fresh one free n h is passes = by (more hosts fresh n)
  where
    unpassed : (w : Bool) → fresh.writer ≡ w → member_place is_writer hosts ≡ Some n → member_place is_writer (hosts ++ fresh ∷ []) ≡ Some n
    unpassed true e found = absurd (let none = free e in cc)
    unpassed false e found = index_more is_writer 0 hosts fresh e ∙ found

    by : More hosts fresh n → member_place is_writer (hosts ++ fresh ∷ []) ≡ Some n
    by (before same not) = unpassed fresh.writer refl (one n h (sym same ∙ is) passes)
    by (last e same none) =
        let own : fresh.writer ≡ true = ap (λ (x : MailHost). x.writer) (same_Some fresh h (sym same ∙ is)) ∙ passes in
        index_last is_writer 0 hosts fresh own (free own) ∙ ap (λ (k : ℕ). Some k) (omega (arith, e))

-- what isn't refused of a second writer
unrefused : (found : Option ℕ) (v : MailView) → second_writer true found v ≡ None → found ≡ None
unrefused None v e = refl
unrefused (Some n) v e = absurd cc

declare_free : (same many : Bool) (writer : Bool) (name : List ℕ) (v : MailView)
    → cond same (Some (Rattle.fam_mail.specs.declared.note.MailRefusal.TheVariants.SameHost name))
    (cond many (Some Rattle.fam_mail.specs.declared.note.MailRefusal.TheVariants.TooManyHosts)
    (second_writer writer (member_place is_writer v.hosts) v)) ≡ None
    → second_writer writer (member_place is_writer v.hosts) v ≡ None
declare_free true many writer name v e = absurd cc
declare_free false true writer name v e = absurd cc
declare_free false false writer name v e = e

module _ (name : List ℕ) (old new : MailView) where
  free_of : (writer : Bool) → declare_refusal name writer old ≡ None → second_writer writer (member_place is_writer old.hosts) old ≡ None
  free_of writer free = declare_free (is_some (member_place (is_named name) old.hosts)) (nat_le 64 (length old.hosts)) writer name old free

  -- at most one host may post behind a declaration
  pub declared_one : (writer : Bool) → MailDeclares name writer None old new → IsOneWriter old.hosts → IsOneWriter new.hosts
  declared_one writer call one =
      let free = free_of writer call.0 in
      subst (λ (v : MailView). IsOneWriter v.hosts) (sym call.1) (one_writer old.hosts (new_mail_host name writer) one
      (λ passes. unrefused (member_place is_writer old.hosts) old (subst (λ (w : Bool). second_writer w (member_place is_writer old.hosts) old ≡ None) passes free)))

-- and the world stands
pub declared_stands : (rest : ℕ → List ℕ) (name : List ℕ) (old new : MailView) (past : MailPast) (image : Image) → (writer : Bool) → MailDeclares name writer None old new
    → MailStands rest old past image → MailStands rest new past image
declared_stands rest name old new past image false call stands =
    subst (λ (v : MailView). MailStands rest v past image) (sym call.1) (reader_stands rest old past image stands (new_mail_host name false) refl refl refl (old.journal ++ note.Reader name ∷ []))
declared_stands rest name old new past image true call stands =
    subst (λ (v : MailView). MailStands rest v past image) (sym call.1)
    (writer_stands rest old past image stands (new_mail_host name true) refl refl refl (unrefused (member_place is_writer old.hosts) old (free_of name old new true call.0))
    (old.journal ++ note.Writer name ∷ []))

-- a note changes nothing of it
pub noted_stands : (rest : ℕ → List ℕ) (made : MailNote) (old : MailView) (past : MailPast) (image : Image) → MailStands rest old past image → MailStands rest (mail_noted made old) past image
noted_stands rest made old past image stands = stands
