-- The last note of a command of its own, and of directories along a path, is an answer or a refusal; that of a mkfs may say that
-- it is made.
use Prim.Native.Nat.{zero, suc}
use Rattle.std.proofs.Common.{◌≡◌, ◌⊎◌, ℕ, ◌<◌, inl, inr, Bool, true, false, List, [], ◌∷◌, ◌++◌, length, map, Option, Some, None, refl, ap, sym, ◌∙◌, subst, arith}
use Rattle.std.specs.Prelude.{◌||◌, not, slice_get}
use Rattle.std.proofs.lemmas.Bool.{false≢true}
use Rattle.std.proofs.lemmas.List.{append-nil, length-map}
use Rattle.fam_base.specs.declared.cmd.Cmd.{Cmd}
use Rattle.fam_machine.specs.declared.request.MkfsRequest.{MkfsRequest}
use Rattle.fam_journal.specs.declared.event.Ask.{Ask}
use Rattle.fam_journal.specs.declared.event.Event.{Event}
use Rattle.fam_journal.specs.declared.event.Event.TheVariants as event
use Rattle.fam_journal.specs.declared.refusal.Refusal.{Refusal}
use Rattle.fam_journal.specs.declared.refusal.Refusal.TheVariants as why
use Rattle.fam_journal.specs.Calls as call
use Rattle.fam_journal.specs.Events.{mounts}
use Rattle.fam_journal.specs.Calls.{has_name, may_begin, number_of}
use Rattle.fam_journal.specs.Ends.{is_answer_note}
use Rattle.fam_journal.specs.EventShapes.{FollowsShape, StartShape, UnfitNotes}
use Rattle.fam_journal.specs.Shapes.{ActsShape, AtShape, CompletesShape, DirtyShape, ShapeByRefusal, HostActsShape, HostShape, OfHostShape, OfRunning, OfTask, OperationsShape, TaskShape, TaskNote, shapes_after, shapes_behind, made_note, refusal_told, runs_shape, shown_shape, shown_shapes}
use Rattle.fam_journal.specs.Notes.{Note, Host, Made, Start, Answered, Refused}
use Rattle.fam_outcomes.specs.Programs.{ends_command, ends_mkfs, last_passes}
use Rattle.fam_outcomes.specs.Statuses.{last_stops, note_stops}
use Rattle.fam_machine.specs.Mkfs.{asked}
use Rattle.fam_events.proofs.Refusals.{index_below}
use Rattle.fam_journal.proofs.Shapes.Running.{step_runs}

-- A note that stops.

stops_end : (note : Note) → note_stops note ≡ true → ends_command note ≡ true
stops_end (Answered host answer) h = refl
stops_end (Refused name cause) h = refl
stops_end e h = cc

pub stopped_end : (journal : List Note) → last_stops journal ≡ true → last_passes ends_command journal ≡ true
stopped_end [] h = cc
stopped_end (note ∷ []) h = stops_end note h
stopped_end (note ∷ next ∷ notes) h = stopped_end (next ∷ notes) h

-- behind other notes
last_behind : (test : Note → Bool) (first notes : List Note) → last_passes test notes ≡ true → last_passes test (first ++ notes) ≡ true
last_behind test [] notes h = h
last_behind test (x ∷ []) [] h = absurd (false≢true h)
last_behind test (x ∷ []) (note ∷ notes) h = h
last_behind test (x ∷ y ∷ first) notes h = last_behind test (y ∷ first) notes h

-- A command that is run to its answer.

of_runs : (o : Option HostShape) (P : List ℕ → TaskShape → Type 0) → OfRunning o P → runs_shape o ≡ true
of_runs None P x = absurd x
of_runs (Some f) P x = by_task f.task x
  where
    by_task : (t : Option TaskShape) → OfTask t (P f.uuid) → Rattle.std.specs.Prelude.is_some t ≡ true
    by_task None x = absurd x
    by_task (Some t) x = refl

answer_ends : (note : Note) → not (is_answer_note note || false) ≡ false → ends_command note ≡ true
answer_ends (Answered host answer) h = refl
answer_ends e h = cc

operations_end : (h : ℕ) (hosts : List HostShape) (notes : List Note) → runs_shape (slice_get hosts h) ≡ true → OperationsShape h hosts notes
    → runs_shape (slice_get (shapes_behind hosts notes) h) ≡ false → last_passes ends_command notes ≡ true
operations_end h hosts [] runs x done = cc
operations_end h hosts (note ∷ []) runs x done = answer_ends note (sym (step_runs h hosts (note ∷ []) x (omega arith) runs) ∙ done)
operations_end h hosts (note ∷ next ∷ notes) runs x done =
    operations_end h (shapes_after hosts note) (next ∷ notes) (of_runs (slice_get (shapes_after hosts note) h) (λ me t. TaskNote h me t next) x.1.0) x.1 done

begun_runs : (h : ℕ) (cmd : Cmd) (hosts : List HostShape) → h < length hosts → runs_shape (slice_get (shapes_after hosts (Start h cmd)) h) ≡ true
begun_runs h cmd [] below = absurd (omega (arith, below))
begun_runs zero cmd (x ∷ hosts) below = refl
begun_runs (suc h) cmd (x ∷ hosts) below = begun_runs h cmd hosts (omega (arith, below))

started_end : (name : List ℕ) (what : Ask) (lines : ℕ) (hosts : List HostShape) (notes : List Note) → StartShape CompletesShape name what lines hosts notes → last_passes ends_command notes ≡ true
started_end name what lines hosts notes x =
    let below : x.host < length hosts =
    (let found = index_below (has_name name) (map shown_shape hosts) 0 x.host x.number in let same = length-map hosts shown_shape in omega (arith, found, same)) in
    subst (λ (ns : List Note). last_passes ends_command ns ≡ true) (sym x.notes_are)
    (last_behind ends_command (Start x.host x.cmd ∷ []) x.rest
    (operations_end x.host (shapes_after hosts (Start x.host x.cmd)) x.rest (begun_runs x.host x.cmd hosts below) x.follow.operations x.follow.done))

refused_end : (name : List ℕ) (cause : Refusal) (notes : List Note) → notes ≡ Refused name cause ∷ [] → last_passes ends_command notes ≡ true
refused_end name cause notes is = ap (last_passes ends_command) is

run_end : (name : List ℕ) (what : Ask) (lines : ℕ) (hosts : List HostShape) (notes : List Note) (o : Option Refusal)
    → ShapeByRefusal name o notes (UnfitNotes name what notes ⊎ StartShape CompletesShape name what lines hosts notes)
    → last_passes ends_command notes ≡ true
run_end name what lines hosts notes None (inl x) = refused_end name x.why notes x.notes_are
run_end name what lines hosts notes None (inr x) = started_end name what lines hosts notes x
run_end name what lines hosts notes (Some cause) x = refused_end name cause notes x

-- Commands one behind another.

pub runs_end : {A : Type 0} (name : List ℕ) (ask : A → Ask) (first : A) (more : List A) (lines : ℕ) (hosts : List HostShape) (journal : List Note)
    → FollowsShape lines (map (λ x. event.Run name (ask x)) (first ∷ more)) hosts journal → last_passes ends_command journal ≡ true
runs_end name ask first [] lines hosts journal f =
    subst (λ (ns : List Note). last_passes ends_command ns ≡ true) (sym (f.4 ∙ ap (λ (ns : List Note). f.0 ++ ns) f.3 ∙ append-nil f.0))
    (run_end name (ask first) lines hosts f.0 (may_begin name (mounts (ask first)) (shown_shapes lines hosts)) f.2)
runs_end name ask first (next ∷ more) lines hosts journal f =
    subst (λ (ns : List Note). last_passes ends_command ns ≡ true) (sym f.4)
    (last_behind ends_command f.0 f.1 (runs_end name ask next more lines (shapes_behind hosts f.0) f.1 f.3))

-- behind an event of any shape
pub behind_first : (test : Note → Bool) (e : Event) (events : List Event) (lines : ℕ) (hosts : List HostShape) (journal : List Note)
    → ((fs : List HostShape) (notes : List Note) → FollowsShape lines events fs notes → last_passes test notes ≡ true)
    → FollowsShape lines (e ∷ events) hosts journal → last_passes test journal ≡ true
behind_first test e events lines hosts journal ends f =
    subst (λ (ns : List Note). last_passes test ns ≡ true) (sym f.4)
    (last_behind test f.0 f.1 (ends (shapes_behind hosts f.0) f.1 f.3))

-- One note.

only : (test : Note → Bool) (note : Note) (notes : List Note) → notes ≡ note ∷ [] → test note ≡ true → last_passes test notes ≡ true
only test note notes is passes = ap (last_passes test) is ∙ passes

-- a host that is declared stops nothing; one that is refused ends the run
declared_end : (test : Note → Bool) (name uuid : List ℕ) (notes : List Note) (o : Option Refusal)
    → ((cause : Refusal) → test (Refused name cause) ≡ true) → last_stops notes ≡ true → ShapeByRefusal name o notes (notes ≡ Host name uuid ∷ [])
    → last_passes test notes ≡ true
declared_end test name uuid notes None refused stops x = absurd (false≢true (sym (ap last_stops x) ∙ stops))
declared_end test name uuid notes (Some cause) refused stops x = only test (Refused name cause) notes x (refused cause)

pub host_end : (test : Note → Bool) (name uuid : List ℕ) (lines : ℕ) (journal : List Note) → ((cause : Refusal) → test (Refused name cause) ≡ true)
    → last_stops journal ≡ true → FollowsShape lines (event.Host name uuid ∷ []) [] journal → last_passes test journal ≡ true
host_end test name uuid lines journal refused stops f =
    let alone : journal ≡ f.0 = f.4 ∙ ap (λ (ns : List Note). f.0 ++ ns) f.3 ∙ append-nil f.0 in
    subst (λ (ns : List Note). last_passes test ns ≡ true) (sym alone)
    (declared_end test name uuid f.0 (refusal_told (call.Declares name uuid) lines []) refused (subst (λ (ns : List Note). last_stops ns ≡ true) alone stops) f.2)

-- a file system is made by a host that doesn't halt, or there is a cause why not
module _ (name : List ℕ) (request : MkfsRequest) (lines : ℕ) (unhalted : request.halt ≡ None) where
  acts_end : (h : ℕ) (hosts : List HostShape) (notes : List Note) (o : Option HostShape)
      → OfHostShape o (λ host. ActsShape (call.Makes name request) h host lines hosts notes) → last_passes ends_mkfs notes ≡ true
  acts_end h hosts notes None x = absurd x
  acts_end h hosts notes (Some host) (inl x) = only ends_mkfs (Made h (asked request host.uuid lines)) notes
      (x ∙ ap (λ (halt : Option ℕ). made_note halt h (asked request host.uuid lines) ∷ []) unhalted) refl
  acts_end h hosts notes (Some host) (inr x) = only ends_mkfs (Refused name (why.HasSuper x.fs)) notes x.notes_are refl

  at_end : (hosts : List HostShape) (notes : List Note) (o : Option ℕ) → AtShape o hosts (λ h host. ActsShape (call.Makes name request) h host lines hosts notes) → last_passes ends_mkfs notes ≡ true
  at_end hosts notes None x = absurd x
  at_end hosts notes (Some h) x = acts_end h hosts notes (slice_get hosts h) x

  making_end : (hosts : List HostShape) (notes : List Note) (o : Option Refusal)
      → ShapeByRefusal name o notes (HostActsShape (call.Makes name request) lines hosts notes ⊎ DirtyShape name lines hosts notes)
      → last_passes ends_mkfs notes ≡ true
  making_end hosts notes None (inl x) = at_end hosts notes (number_of name (shown_shapes lines hosts)) x
  making_end hosts notes None (inr x) = only ends_mkfs (Refused name (why.Dirty (record { 0 = x.dirty }))) notes x.notes_are refl
  making_end hosts notes (Some cause) x = only ends_mkfs (Refused name cause) notes x refl

  pub mkfs_end : (hosts : List HostShape) (journal : List Note)
      → FollowsShape lines (event.Mkfs name request ∷ []) hosts journal
      → last_passes ends_mkfs journal ≡ true
  mkfs_end hosts journal f =
      let alone : journal ≡ f.0 = f.4 ∙ ap (λ (ns : List Note). f.0 ++ ns) f.3 ∙ append-nil f.0 in
      subst (λ (ns : List Note). last_passes ends_mkfs ns ≡ true) (sym alone) (making_end hosts f.0 (refusal_told (call.Makes name request) lines hosts) f.2)
