-- Where the media never fails, events have one journal and one last state.
use Prim.Native.Nat.{zero, suc}
use Rattle.std.proofs.Common.{◌≡◌, inl, inr, ℕ, ◌+◌, Bool, true, false, List, [], ◌∷◌, ◌++◌, length, Option, Some, None, refl, ap, ap₂, sym, ◌∙◌, subst, arith}
use Rattle.std.specs.Prelude.{slice_get, nat_le, Result, Ok, Err}
use Rattle.std.specs.FinMap as map
use Rattle.std.proofs.lemmas.Option.{same_Some}
use Rattle.fam_base.specs.declared.cmd.Cmd.{Cmd}
use Rattle.fam_base.specs.declared.cmd.Cmd.TheVariants as cmd
use Rattle.fam_base.specs.declared.entry.Entry.{Entry}
use Rattle.fam_base.specs.declared.entry.Params.{Params}
use Rattle.fam_format.specs.declared.faults.SuperFault.{SuperFault}
use Rattle.fam_machine.specs.declared.op.Op.{Op}
use Rattle.fam_machine.specs.Operations.{Breaking, Failure, failed}
use Rattle.fam_media.specs.Files.{Files}
use Rattle.fam_journal.specs.declared.event.Ask.{Ask}
use Rattle.fam_journal.specs.declared.event.Ask.TheVariants as ask
use Rattle.fam_journal.specs.declared.event.Event.{Event}
use Rattle.fam_journal.specs.declared.event.Event.TheVariants as event
use Rattle.fam_journal.specs.declared.refusal.Refusal.{Refusal}
use Rattle.fam_journal.specs.Calls as call
use Rattle.fam_journal.specs.Calls.{Call, Acts, ActsAt, AtNumber, ByRefusal, Completes, Does, MakesOrHalts, Meets, DoesOperations, busy_at, OnHost, asked_name, number_of, refusal_of}
use Rattle.fam_journal.specs.Ends.{IsFaultless, faults_of, note_faults}
use Rattle.fam_journal.specs.Events.{BytesSay, DoesEvent, Continues, HasNoSource, CommandBegins, RefusesEvent, ListingIs, MayNot, MayNotStep, Ready, Session, SourceSays, Sourced, StepsBy, Unfit, WithinSays, copy_limit}
use Rattle.fam_journal.specs.Follows.{Follows}
use Rattle.fam_journal.specs.Laws.{AreSame, OneListing}
use Rattle.fam_journal.specs.Machines.{Done, Fails, HostState, Machines, Operation, Outcome, Passes, TaskState, cut_task, host_done, machine_of, op_done, operation, task_done}
use Rattle.fam_machine.specs.Mkfs.{goes_on, superblock_found}
use Rattle.fam_journal.specs.Notes.{Note}

-- Notes without faults.

pub faults_both : (a b : List Note) → faults_of (a ++ b) ≡ faults_of a + faults_of b
faults_both [] b = omega arith
faults_both (note ∷ a) b = omega (arith, faults_both a b)

pub clean_prefix : (a b notes : List Note) → notes ≡ a ++ b → IsFaultless notes → IsFaultless a
clean_prefix a b notes is clean = omega (arith, ap faults_of is, faults_both a b, clean)

pub clean_rest : (a b notes : List Note) → notes ≡ a ++ b → IsFaultless notes → IsFaultless b
clean_rest a b notes is clean = omega (arith, ap faults_of is, faults_both a b, clean)

pub not_clean : (note : Note) (notes : List Note) → notes ≡ note ∷ [] → note_faults note ≡ 1 → IsFaultless notes → ⊥
not_clean note notes is one clean = omega (arith, ap faults_of is, one, clean)

-- the same notes and machines
record Same (a b : List Note) (m n : Machines) : Type 0 where
  notes_are : a ≡ b
  machines_are : m ≡ n

same_by : {a b c : List Note} {m n k : Machines} → a ≡ c → m ≡ k → b ≡ c → n ≡ k → Same a b m n
same_by e f g i = record { notes_are = e ∙ sym g; machines_are = f ∙ sym i }

-- One operation.

failed_cut : (h : ℕ) (m : Machines) (o : Option Failure) (d : Done) → cut_task h m o ≡ Some d → IsFaultless d.notes → ⊥
failed_cut h m None d is clean = absurd cc
failed_cut h m (Some failure) d is clean =
    absurd (omega (arith, ap (λ (x : Done). faults_of x.notes) (same_Some _ d is), clean))

failed_op : (through : Breaking) (h : ℕ) (m : Machines) (host : HostState) (t : TaskState) (o : Option Op) (d : Done) → op_done (Fails through) h m host t o ≡ Some d → IsFaultless d.notes → ⊥
failed_op through h m host t None d is clean = absurd cc
failed_op through h m host t (Some op) d is clean = failed_cut h m (failed through op (machine_of m host)) d is clean

failed_task : (through : Breaking) (h : ℕ) (m : Machines) (host : HostState) (o : Option TaskState) (d : Done) → task_done (Fails through) h m host o ≡ Some d → IsFaultless d.notes → ⊥
failed_task through h m host None d is clean = absurd cc
failed_task through h m host (Some t) d is clean = failed_op through h m host t _ d is clean

failed_host : (through : Breaking) (h : ℕ) (m : Machines) (o : Option HostState) (d : Done) → host_done (Fails through) h m o ≡ Some d → IsFaultless d.notes → ⊥
failed_host through h m None d is clean = absurd cc
failed_host through h m (Some host) d is clean = failed_task through h m host host.task d is clean

pub passes : (h : ℕ) (m : Machines) (outcome : Outcome) (d : Done) → operation outcome h m ≡ Some d → IsFaultless d.notes → operation Passes h m ≡ Some d
unfolding operation
passes h m Passes d is clean = is
passes h m (Fails through) d is clean = absurd (failed_host through h m (slice_get m.hosts h) d is clean)

one_operation : (h : ℕ) (old : Machines) (a b : List Note) (m n : Machines) → Operation h old a m → Operation h old b n → IsFaultless a → IsFaultless b → Same a b m n
one_operation h old a b m n p q clean_a clean_b =
    let e = same_Some (record { notes = a; left = m }) (record { notes = b; left = n }) (sym (passes h old p.outcome _ p.is clean_a) ∙ passes h old q.outcome _ q.is clean_b) in
    record { notes_are = ap (λ (x : Done). x.notes) e; machines_are = ap (λ (x : Done). x.left) e }

-- Operations.

module _ (h : ℕ) where
  same_start : (a : List Note) (m : Machines) (n : ℕ) {x y : Machines} → x ≡ y → DoesOperations h n x a m → DoesOperations h n y a m
  same_start a m n e o = subst (λ (z : Machines). DoesOperations h n z a m) e o

  one_run : (count : ℕ) (old : Machines) (a b : List Note) (m n : Machines) → DoesOperations h count old a m → DoesOperations h count old b n → IsFaultless a → IsFaultless b → Same a b m n
  one_run zero old a b m n p q clean_a clean_b = same_by p.0 p.1 q.0 q.1
  one_run (suc count) old a b m n (inl p) (inl q) clean_a clean_b = same_by p.1 p.2 q.1 q.2
  one_run (suc count) old a b m n (inl p) (inr q) clean_a clean_b = absurd (let x = p.0 in let y = q.0 in cc)
  one_run (suc count) old a b m n (inr p) (inl q) clean_a clean_b = absurd (let x = p.0 in let y = q.0 in cc)
  one_run (suc count) old a b m n (inr p) (inr q) clean_a clean_b =
      let first = one_operation h old p.2 q.2 p.1 q.1 p.4 q.4 (clean_prefix p.2 p.3 a p.6 clean_a) (clean_prefix q.2 q.3 b q.6 clean_b) in
      let rest = one_run count q.1 p.3 q.3 m n (same_start p.3 m count first.machines_are p.5) q.5 (clean_rest p.2 p.3 a p.6 clean_a) (clean_rest q.2 q.3 b q.6 clean_b) in
      record { notes_are = p.6 ∙ ap₂ (λ (x y : List Note). x ++ y) first.notes_are rest.notes_are ∙ sym q.6; machines_are = rest.machines_are }

  -- up to the answer, whatever the counts
  one_finish : (i j : ℕ) (old : Machines) (a b : List Note) (m n : Machines) → DoesOperations h i old a m → DoesOperations h j old b n
      → busy_at h m ≡ false → busy_at h n ≡ false → IsFaultless a → IsFaultless b → Same a b m n
  one_finish zero zero old a b m n p q done other clean_a clean_b = same_by p.0 p.1 q.0 q.1
  one_finish zero (suc j) old a b m n p (inl q) done other clean_a clean_b = same_by p.0 p.1 q.1 q.2
  one_finish zero (suc j) old a b m n p (inr q) done other clean_a clean_b = absurd (let x = ap (busy_at h) (sym p.1) ∙ done in let y = q.0 in cc)
  one_finish (suc i) zero old a b m n (inl p) q done other clean_a clean_b = same_by p.1 p.2 q.0 q.1
  one_finish (suc i) zero old a b m n (inr p) q done other clean_a clean_b = absurd (let x = ap (busy_at h) (sym q.1) ∙ other in let y = p.0 in cc)
  one_finish (suc i) (suc j) old a b m n (inl p) (inl q) done other clean_a clean_b = same_by p.1 p.2 q.1 q.2
  one_finish (suc i) (suc j) old a b m n (inl p) (inr q) done other clean_a clean_b = absurd (let x = p.0 in let y = q.0 in cc)
  one_finish (suc i) (suc j) old a b m n (inr p) (inl q) done other clean_a clean_b = absurd (let x = p.0 in let y = q.0 in cc)
  one_finish (suc i) (suc j) old a b m n (inr p) (inr q) done other clean_a clean_b =
      let first = one_operation h old p.2 q.2 p.1 q.1 p.4 q.4 (clean_prefix p.2 p.3 a p.6 clean_a) (clean_prefix q.2 q.3 b q.6 clean_b) in
      let rest = one_finish i j q.1 p.3 q.3 m n (same_start p.3 m i first.machines_are p.5) q.5 done other (clean_rest p.2 p.3 a p.6 clean_a) (clean_rest q.2 q.3 b q.6 clean_b) in
      record { notes_are = p.6 ∙ ap₂ (λ (x y : List Note). x ++ y) first.notes_are rest.notes_are ∙ sym q.6; machines_are = rest.machines_are }

one_complete : (h : ℕ) (old : Machines) (a b : List Note) (m n : Machines) → Completes h old a m → Completes h old b n → IsFaultless a → IsFaultless b → Same a b m n
one_complete h old a b m n p q clean_a clean_b = one_finish h p.count q.count old a b m n p.does q.does p.done q.done clean_a clean_b

-- Calls.

pub met_or_made : (force : Bool) (r : Result Params SuperFault) (other : Params) → goes_on force r ≡ true → force ≡ false → r ≡ Ok other → ⊥
met_or_made true r other free unforced stands = absurd cc
met_or_made false (Ok p) other free unforced stands = absurd cc
met_or_made false (Err fault) other free unforced stands = absurd cc

-- a mkfs that goes on meets nothing, whether or not its maker is to halt
pub goes_free : (old new : Machines) (notes : List Note) (halt : Option ℕ) (h : ℕ) (p : Params) (force : Bool) (host : HostState)
    → MakesOrHalts halt h p force host old notes new → goes_on force (superblock_found p (machine_of old host)) ≡ true
goes_free old new notes None h p force host x = x.free
goes_free old new notes (Some k) h p force host x = x.free

module _ (old : Machines) (a b : List Note) (m n : Machines) (clean_a : IsFaultless a) (clean_b : IsFaultless b) where
  one_meeting : (h : ℕ) (p : Params) (force : Bool) (name : List ℕ) (host : HostState) → Meets h p force name host old a m → Meets h p force name host old b n → Same a b m n
  one_meeting h p force name host x y =
      let e : x.other ≡ y.other = same_ok (sym x.stands ∙ y.stands) in
      record {
        notes_are = x.notes_are ∙ ap (λ (q : Params). Rattle.fam_journal.specs.Notes.Refused name
            (Rattle.fam_journal.specs.declared.refusal.Refusal.TheVariants.HasSuper q.fs) ∷ []) e ∙ sym y.notes_are;
        machines_are = x.left ∙ sym y.left;
      }
    where
      same_ok : {u v : Params} → ◌≡◌ {A = Result Params SuperFault} (Ok u) (Ok v) → u ≡ v
      same_ok e = cc

  one_making : (halt : Option ℕ) (h : ℕ) (p : Params) (force : Bool) (host : HostState) → MakesOrHalts halt h p force host old a m → MakesOrHalts halt h p force host old b n → Same a b m n
  one_making None h p force host x y = same_by x.notes_are x.left y.notes_are y.left
  one_making (Some k) h p force host x y = same_by x.notes_are x.left y.notes_are y.left

  one_act_at : (c : Call) (h : ℕ) (host : HostState) → ActsAt c h host old a m → ActsAt c h host old b n → Same a b m n
  one_act_at (call.Declares name uuid) h host x y = absurd x
  one_act_at (call.Makes name request) h host (inl x) (inl y) = one_making request.halt h _ request.force host x y
  one_act_at (call.Makes name request) h host (inl x) (inr y) = absurd (met_or_made request.force _ y.other (goes_free old m a request.halt h _ request.force host x) y.unforced y.stands)
  one_act_at (call.Makes name request) h host (inr x) (inl y) = absurd (met_or_made request.force _ x.other (goes_free old n b request.halt h _ request.force host y) x.unforced x.stands)
  one_act_at (call.Makes name request) h host (inr x) (inr y) = one_meeting h _ request.force name host x y
  one_act_at (call.Steps name) h host x y = one_operation h old a b m n x y clean_a clean_b
  one_act_at (call.Finishes name) h host x y = one_complete h old a b m n x y clean_a clean_b
  one_act_at (call.Moves name line move) h host (inl x) (inl y) = same_by x.notes_are x.left y.notes_are y.left
  one_act_at (call.Moves name line move) h host (inl x) (inr y) = absurd (not_clean _ b y.notes_are refl clean_b)
  one_act_at (call.Moves name line move) h host (inr x) y = absurd (not_clean _ a x.notes_are refl clean_a)
  one_act_at (call.Refuses name cause) h host x y = absurd x
  one_act_at e h host x y = same_by x.0 x.1 y.0 y.1

  at_host : (c : Call) (h : ℕ) (o : Option HostState) → OnHost o (λ host. ActsAt c h host old a m) → OnHost o (λ host. ActsAt c h host old b n) → Same a b m n
  at_host c h None x y = absurd x
  at_host c h (Some host) x y = one_act_at c h host x y

  at_number : (c : Call) (o : Option ℕ) → AtNumber o old (λ h host. ActsAt c h host old a m) → AtNumber o old (λ h host. ActsAt c h host old b n) → Same a b m n
  at_number c None x y = absurd x
  at_number c (Some h) x y = at_host c h (slice_get old.hosts h) x y

  one_act : (c : Call) → Acts c old a m → Acts c old b n → Same a b m n
  one_act (call.Declares name uuid) x y = same_by x.0 x.1 y.0 y.1
  one_act (call.Refuses name cause) x y = same_by x.0 x.1 y.0 y.1
  one_act c x y = at_number c (number_of (asked_name c) old) x y

  by_refusal : (c : Call) (name : List ℕ) (o : Option Refusal) → ByRefusal name o a old m (Acts c old a m) → ByRefusal name o b old n (Acts c old b n) → Same a b m n
  by_refusal c name (Some cause) x y = same_by x.0 x.1 y.0 y.1
  by_refusal c name None x y = one_act c x y

  one_call : (c : Call) → Does c old a m → Does c old b n → Same a b m n
  one_call c x y = by_refusal c (asked_name c) (refusal_of c old) x y

-- Sources.

module _ (one_listing : OneListing) where
  one_list : (bytes : List ℕ) (copied : ℕ) (x y : Sourced) → ListingIs bytes copied x → ListingIs bytes copied y → x ≡ y
  one_list bytes copied x y (inl p) (inl q) =
      let e : ◌≡◌ {A = Result (List Entry) ℕ} (Ok p.0) (Ok q.0) = one_listing bytes (Ok p.0) (Ok q.0) p.1 q.1 in
      let same : p.0 ≡ q.0 = cc in
      p.2 ∙ ap (λ (entries : List Entry). Ready (cmd.Check entries) copied) same ∙ sym q.2
  one_list bytes copied x y (inl p) (inr q) = absurd (let e : ◌≡◌ {A = Result (List Entry) ℕ} (Ok p.0) (Err q.0) = one_listing bytes (Ok p.0) (Err q.0) p.1 q.1 in cc)
  one_list bytes copied x y (inr p) (inl q) = absurd (let e : ◌≡◌ {A = Result (List Entry) ℕ} (Err p.0) (Ok q.0) = one_listing bytes (Err p.0) (Ok q.0) p.1 q.1 in cc)
  one_list bytes copied x y (inr p) (inr q) =
      let e : ◌≡◌ {A = Result (List Entry) ℕ} (Err p.0) (Err q.0) = one_listing bytes (Err p.0) (Err q.0) p.1 q.1 in
      let same : p.0 ≡ q.0 = cc in
      p.2 ∙ ap (λ (k : ℕ). Unfit (Rattle.fam_journal.specs.declared.refusal.Refusal.TheVariants.BadListing k) copied) same ∙ sym q.2

  one_within : (t : Bool) (bytes : List ℕ) (copied : ℕ) (reads : List ℕ → ℕ → Sourced → Type 0)
      → ((bytes : List ℕ) (copied : ℕ) (x y : Sourced) → reads bytes copied x → reads bytes copied y → x ≡ y) → (x y : Sourced)
      → WithinSays t bytes copied reads x → WithinSays t bytes copied reads y → x ≡ y
  one_within true bytes copied reads one x y p q = one bytes (copied + length bytes) x y p q
  one_within false bytes copied reads one x y p q = p ∙ sym q

  one_bytes : (name : List ℕ) (o : Option (List ℕ)) (copied : ℕ) (reads : List ℕ → ℕ → Sourced → Type 0)
      → ((bytes : List ℕ) (copied : ℕ) (x y : Sourced) → reads bytes copied x → reads bytes copied y → x ≡ y) → (x y : Sourced)
      → BytesSay name o copied reads x → BytesSay name o copied reads y → x ≡ y
  one_bytes name None copied reads one x y p q = p ∙ sym q
  one_bytes name (Some bytes) copied reads one x y p q = one_within (nat_le (copied + length bytes) copy_limit) bytes copied reads one x y p q

  pub one_source : (files : Files) (copied : ℕ) (what : Ask) (x y : Sourced) → SourceSays files copied what x → SourceSays files copied what y → x ≡ y
  one_source files copied (ask.Plain c) x y p q = p ∙ sym q
  one_source files copied (ask.Cp source path attr stripe) x y p q =
      one_bytes source (map.get files source) copied (λ bytes copied said. said ≡ Ready (cmd.Cp path attr stripe bytes) copied) (λ bytes copied x y p q. p ∙ sym q) x y p q
  one_source files copied (ask.VerifySource path source) x y p q =
      one_bytes source (map.get files source) copied
      (λ bytes copied said. said ≡ Ready (cmd.Verify path (Rattle.fam_base.specs.declared.cmd.Content.TheVariants.Bytes bytes)) copied)
      (λ bytes copied x y p q. p ∙ sym q) x y p q
  one_source files copied (ask.Check source) x y p q = one_bytes source (map.get files source) copied ListingIs one_list x y p q

  -- Events.

  module _ (files : Files) (old : Session) (a b : List Note) (m n : Session) (clean_a : IsFaultless a) (clean_b : IsFaultless b) where
    same_session : Same a b m.machines n.machines → m.copied ≡ n.copied → AreSame a b m n
    same_session s e = record { notes_are = s.notes_are; states_are = ap₂ (λ (x : Machines) (k : ℕ). record { machines = x; copied = k }) s.machines_are e }

    one_plain : (c : Call) → Does c old.machines a m.machines × (m.copied ≡ old.copied) → Does c old.machines b n.machines × (n.copied ≡ old.copied) → AreSame a b m n
    one_plain c x y = same_session (one_call old.machines a b m.machines n.machines clean_a clean_b c x.0 y.0) (x.1 ∙ sym y.1)

    one_begun : (name : List ℕ) (what : Ask) → CommandBegins files name what old a m → CommandBegins files name what old b n → AreSame a b m n
    one_begun name what x y =
        let e : Ready x.cmd x.copied ≡ Ready y.cmd y.copied = one_source files old.copied what (Ready x.cmd x.copied) (Ready y.cmd y.copied) x.says y.says in
        let commands : x.cmd ≡ y.cmd = cc in
        let copied : x.copied ≡ y.copied = cc in
        same_session
        (one_call old.machines a b m.machines n.machines clean_a clean_b (call.Begins name y.cmd) (subst (λ (c : Cmd). Does (call.Begins name c) old.machines a m.machines) commands x.does) y.does)
        (x.copied_is ∙ copied ∙ sym y.copied_is)

    one_no_source : (name : List ℕ) (what : Ask) → HasNoSource files name what old a m → HasNoSource files name what old b n → AreSame a b m n
    one_no_source name what x y =
        let e : Unfit x.cause x.copied ≡ Unfit y.cause y.copied = one_source files old.copied what (Unfit x.cause x.copied) (Unfit y.cause y.copied) x.says y.says in
        let causes : x.cause ≡ y.cause = cc in
        let copied : x.copied ≡ y.copied = cc in
        same_session
        (one_call old.machines a b m.machines n.machines clean_a clean_b (call.Refuses name y.cause)
        (subst (λ (c : Refusal). Does (call.Refuses name c) old.machines a m.machines) causes x.does) y.does)
        (x.copied_is ∙ copied ∙ sym y.copied_is)

    one_may_not : (name : List ℕ) (what : Ask) → MayNot name what old a m → MayNot name what old b n → AreSame a b m n
    one_may_not name what x y =
        let e : x.cause ≡ y.cause = same_Some x.cause y.cause (sym x.first ∙ y.first) in
        record { notes_are = x.notes_are ∙ ap (λ (c : Refusal). Rattle.fam_journal.specs.Notes.Refused name c ∷ []) e ∙ sym y.notes_are; states_are = x.same ∙ sym y.same }

    one_refused : (name : List ℕ) (what : Ask) → RefusesEvent files name what old a m → RefusesEvent files name what old b n → AreSame a b m n
    one_refused name what (inl x) (inl y) = one_may_not name what x y
    one_refused name what (inl x) (inr y) = absurd (let p = x.first in let q = y.free in cc)
    one_refused name what (inr x) (inl y) = absurd (let p = x.free in let q = y.first in cc)
    one_refused name what (inr x) (inr y) = one_no_source name what x y

  -- what begins isn't refused
  begun_or_refused : (files : Files) (name : List ℕ) (what : Ask) (old : Session) (a b : List Note) (m n : Session) → CommandBegins files name what old a m → RefusesEvent files name what old b n → ⊥
  begun_or_refused files name what old a b m n x (inl y) = absurd (let p = x.free in let q = y.first in cc)
  begun_or_refused files name what old a b m n x (inr y) =
      absurd (let e : Ready x.cmd x.copied ≡ Unfit y.cause y.copied = one_source files old.copied what (Ready x.cmd x.copied) (Unfit y.cause y.copied) x.says y.says in cc)

  one_through : (files : Files) (name : List ℕ) (what : Ask) (old : Session) (a b : List Note) (m n : Session) → IsFaultless a → IsFaultless b
      → Continues Completes files name what old a m → Continues Completes files name what old b n → AreSame a b m n
  one_through files name what old a b m n clean_a clean_b x y =
      let first = one_begun files old x.first y.first x.mid y.mid (clean_prefix x.first x.rest a x.joined clean_a) (clean_prefix y.first y.rest b y.joined clean_b) name what x.begun y.begun in
      let hosts : x.host ≡ y.host = same_Some x.host y.host (sym x.number ∙ ap (λ (s : Session). number_of name s.machines) first.states_are ∙ y.number) in
      let mids : x.mid.machines ≡ y.mid.machines = ap (λ (s : Session). s.machines) first.states_are in
      let rest = one_complete y.host y.mid.machines x.rest y.rest m.machines n.machines
      (subst (λ (k : ℕ). Completes k y.mid.machines x.rest m.machines) hosts (subst (λ (s : Machines). Completes x.host s x.rest m.machines) mids x.does)) y.does
      (clean_rest x.first x.rest a x.joined clean_a) (clean_rest y.first y.rest b y.joined clean_b) in
      record {
        notes_are = x.joined ∙ ap₂ (λ (u v : List Note). u ++ v) first.notes_are rest.notes_are ∙ sym y.joined;
        states_are = ap₂ (λ (s : Machines) (k : ℕ). record { machines = s; copied = k }) rest.machines_are (x.copied ∙ ap (λ (s : Session). s.copied) first.states_are ∙ sym y.copied);
      }

  one_steps : (count : ℕ) (name : List ℕ) (old : Session) (a b : List Note) (m n : Session) → IsFaultless a → IsFaultless b
      → StepsBy (λ h. DoesOperations h count) name old a m → StepsBy (λ h. DoesOperations h count) name old b n → AreSame a b m n
  one_steps count name old a b m n clean_a clean_b x y =
      let hosts : x.host ≡ y.host = same_Some x.host y.host (sym x.number ∙ y.number) in
      let run = one_run y.host count old.machines a b m.machines n.machines (subst (λ (k : ℕ). DoesOperations k count old.machines a m.machines) hosts x.does) y.does clean_a clean_b in
      record { notes_are = run.notes_are; states_are = ap₂ (λ (s : Machines) (k : ℕ). record { machines = s; copied = k }) run.machines_are (x.copied ∙ sym y.copied) }

  steps_or_not : (count : ℕ) (name : List ℕ) (old : Session) (a b : List Note) (m n : Session) → StepsBy (λ h. DoesOperations h count) name old a m → MayNotStep name old b n → ⊥
  steps_or_not count name old a b m n x y =
      absurd (let e : call.on_host (number_of name old.machines) (λ h. call.idle_refusal h old.machines) ≡ None =
      ap (λ (o : Option ℕ). call.on_host o (λ h. call.idle_refusal h old.machines)) x.number ∙ x.busy in let q = y.first in cc)

  one_not_step : (name : List ℕ) (old : Session) (a b : List Note) (m n : Session) → MayNotStep name old a m → MayNotStep name old b n → AreSame a b m n
  one_not_step name old a b m n x y =
      let e : x.cause ≡ y.cause = same_Some x.cause y.cause (sym x.first ∙ y.first) in
      record { notes_are = x.notes_are ∙ ap (λ (c : Refusal). Rattle.fam_journal.specs.Notes.Refused name c ∷ []) e ∙ sym y.notes_are; states_are = x.same ∙ sym y.same }

  one_event : (files : Files) (e : Event) (old : Session) (a b : List Note) (m n : Session) → IsFaultless a → IsFaultless b → DoesEvent files e old a m → DoesEvent files e old b n → AreSame a b m n
  one_event files (event.Begin name what) old a b m n clean_a clean_b (inl x) (inl y) = one_begun files old a b m n clean_a clean_b name what x y
  one_event files (event.Begin name what) old a b m n clean_a clean_b (inl x) (inr y) = absurd (begun_or_refused files name what old a b m n x y)
  one_event files (event.Begin name what) old a b m n clean_a clean_b (inr x) (inl y) = absurd (begun_or_refused files name what old b a n m y x)
  one_event files (event.Begin name what) old a b m n clean_a clean_b (inr x) (inr y) = one_refused files old a b m n clean_a clean_b name what x y
  one_event files (event.Run name what) old a b m n clean_a clean_b (inl x) (inl y) = one_through files name what old a b m n clean_a clean_b x y
  one_event files (event.Run name what) old a b m n clean_a clean_b (inl x) (inr y) = absurd (begun_or_refused files name what old x.first b x.mid n x.begun y)
  one_event files (event.Run name what) old a b m n clean_a clean_b (inr x) (inl y) = absurd (begun_or_refused files name what old y.first a y.mid m y.begun x)
  one_event files (event.Run name what) old a b m n clean_a clean_b (inr x) (inr y) = one_refused files old a b m n clean_a clean_b name what x y
  one_event files (event.Step name count) old a b m n clean_a clean_b (inl x) (inl y) = one_steps count name old a b m n clean_a clean_b x y
  one_event files (event.Step name count) old a b m n clean_a clean_b (inl x) (inr y) = absurd (steps_or_not count name old a b m n x y)
  one_event files (event.Step name count) old a b m n clean_a clean_b (inr x) (inl y) = absurd (steps_or_not count name old b a n m y x)
  one_event files (event.Step name count) old a b m n clean_a clean_b (inr x) (inr y) = one_not_step name old a b m n x y
  one_event files e old a b m n clean_a clean_b x y = one_plain files old a b m n clean_a clean_b _ x y

  -- all events
  pub one_journal : (files : Files) (events : List Event) (old : Session) (a b : List Note) (m n : Session) → IsFaultless a → IsFaultless b
      → Follows files events old a m → Follows files events old b n → AreSame a b m n
  one_journal files [] old a b m n clean_a clean_b x y = record { notes_are = x.0 ∙ sym y.0; states_are = x.1 ∙ sym y.1 }
  one_journal files (e ∷ events) old a b m n clean_a clean_b x y =
      let first = one_event files e old x.1 y.1 x.0 y.0 (clean_prefix x.1 x.2 a x.5 clean_a) (clean_prefix y.1 y.2 b y.5 clean_b) x.3 y.3 in
      let rest = one_journal files events y.0 x.2 y.2 m n (clean_rest x.1 x.2 a x.5 clean_a) (clean_rest y.1 y.2 b y.5 clean_b)
      (subst (λ (s : Session). Follows files events s x.2 m) first.states_are x.4) y.4 in
      record { notes_are = x.5 ∙ ap₂ (λ (u v : List Note). u ++ v) first.notes_are rest.notes_are ∙ sym y.5; states_are = rest.states_are }
