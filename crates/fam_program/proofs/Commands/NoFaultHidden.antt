-- What ends a run early hides no fault of the media.
use Rattle.std.proofs.Common.{◌≡◌, inl, inr, ℕ, Bool, true, false, List, [], ◌∷◌, ◌++◌, Option, Some, None, Err, refl, ap, sym, ◌∙◌, subst, arith}
use Rattle.std.specs.Prelude.{not, slice_get}
use Rattle.std.specs.List.{list_any}
use Rattle.std.proofs.lemmas.List.{append-nil}
use Rattle.fam_media.specs.States.{ShelfChange}
use Rattle.fam_journal.specs.declared.event.Event.{Event}
use Rattle.fam_journal.specs.declared.event.Event.TheVariants as event
use Rattle.fam_journal.specs.declared.refusal.Refusal.{Refusal}
use Rattle.fam_journal.specs.declared.refusal.Refusal.TheVariants as why
use Rattle.fam_journal.specs.Ends.{IsFaultless, cause_faults, faults_of, is_answer_note, note_faults}
use Rattle.fam_journal.specs.EventShapes.{EventPartShape}
use Rattle.fam_journal.specs.Shapes.{HostShape, OfRunning, OfTask, OperationsShape, TaskShape, TaskNote, shapes_after, shapes_behind, shapes_of, runs_shape}
use Rattle.fam_journal.specs.Notes.{Note, Host, Start, Answered, Refused, MediaFault}
use Rattle.fam_outcomes.specs.Programs.{last_passes, without_last}
use Rattle.fam_outcomes.specs.Statuses.{note_stops}
use Rattle.fam_journal.proofs.Runs.Unique.{faults_both}
use Rattle.fam_events.specs.Happens.{EventSays, ShapeOfPart}
use Rattle.fam_events.specs.declared.fault.EventFault.{EventFault}
use Rattle.fam_events.specs.declared.fault.EventFault.TheVariants as fault
use Rattle.fam_journal.proofs.Shapes.Running.{note_runs}
use Rattle.fam_program.specs.Far.{Base, Now}
use Rattle.fam_program.specs.Unprinted.{OnlyLastStops, HidesNoFault, IsShotEvent}
use Rattle.fam_program.specs.Shots.{is_short}
use Rattle.fam_program.proofs.Runs.GoesOn.{next_of}
use Rattle.fam_program.proofs.Runs.Stops.{of_none, or_parts}

-- A note that tells no fault.

-- one that stops no run
go_faults : (note : Note) → note_stops note ≡ false → note_faults note ≡ 0
go_faults (Answered host (MediaFault line)) is = absurd cc
go_faults (Refused name cause) is = absurd cc
go_faults e is = refl

-- one for whose line memory is wanted
long_cause : (cause : Refusal) → is_short (Refused [] cause) ≡ false → cause_faults cause ≡ 0
long_cause (why.MediaFault at) is = absurd cc
long_cause e is = refl

long_faults : (note : Note) → is_short note ≡ false → note_faults note ≡ 0
long_faults (Answered host (MediaFault line)) is = absurd cc
long_faults (Refused name cause) is = long_cause cause is
long_faults e is = refl

-- one of a command that isn't its answer
quiet_faults : (h : ℕ) (o : Option HostShape) (note : Note) → OfRunning o (λ me t. TaskNote h me t note) → is_answer_note note ≡ false → note_faults note ≡ 0
quiet_faults h o (Answered host answer) x is = absurd cc
quiet_faults h o (Refused name cause) x is = absurd (of_none o x)
quiet_faults h o e x is = refl

-- Notes that tell none.

all_faultless : (notes : List Note) → list_any note_stops notes ≡ false → IsFaultless notes
all_faultless [] is = refl
all_faultless (note ∷ notes) is =
    let parts = or_parts (note_stops note) (list_any note_stops notes) is in
    let first = go_faults note parts.0 in
    let rest = all_faultless notes parts.1 in
    omega (arith, first, rest)

-- those of a run whose last line wants memory
pub long_faultless : (journal : List Note) → OnlyLastStops journal → last_passes is_short journal ≡ false → IsFaultless journal
long_faultless [] goes long = refl
long_faultless (note ∷ []) goes long = let only = long_faults note long in omega (arith, only)
long_faultless (note ∷ next ∷ notes) goes long =
    let parts = or_parts (note_stops note) (list_any note_stops (without_last (next ∷ notes))) goes in
    let first = go_faults note parts.0 in
    let rest = long_faultless (next ∷ notes) parts.1 long in
    omega (arith, first, rest)

-- and those of a command that runs on

running_of : (o : Option HostShape) (P : List ℕ → TaskShape → Type 0) → OfRunning o P → runs_shape o ≡ true
running_of None P x = absurd x
running_of (Some f) P x = by_task f.task x
  where
    by_task : (t : Option TaskShape) → OfTask t (P f.uuid) → Rattle.std.specs.Prelude.is_some t ≡ true
    by_task None x = absurd x
    by_task (Some t) x = refl

-- which runs before them too
runs_before : (h : ℕ) (hosts : List HostShape) (notes : List Note) → OperationsShape h hosts notes → runs_shape (slice_get (shapes_behind hosts notes) h) ≡ true → runs_shape (slice_get hosts h) ≡ true
runs_before h hosts [] x runs = runs
runs_before h hosts (note ∷ notes) x runs = running_of (slice_get hosts h) (λ me t. TaskNote h me t note) x.0

not_true : (t : Bool) → not t ≡ true → t ≡ false
not_true true e = sym e
not_true false e = refl

running_faultless : (h : ℕ) (hosts : List HostShape) (notes : List Note) → OperationsShape h hosts notes → runs_shape (slice_get (shapes_behind hosts notes) h) ≡ true → IsFaultless notes
running_faultless h hosts [] x runs = refl
running_faultless h hosts (note ∷ notes) x runs =
    let before = running_of (slice_get hosts h) (λ me t. TaskNote h me t note) x.0 in
    let behind = runs_before h (shapes_after hosts note) notes x.1 runs in
    let quiet = not_true (is_answer_note note) (sym (note_runs h hosts note x.0 before) ∙ behind) in
    let first = quiet_faults h (slice_get hosts h) note x.0 quiet in
    let rest = running_faultless h (shapes_after hosts note) notes x.1 runs in
    omega (arith, first, rest)

-- A part of an event.

part_faultless : (e : Event) → IsShotEvent e → (lines : ℕ) (hosts : List HostShape) (notes : List Note) → EventPartShape e lines hosts notes → IsFaultless notes
part_faultless (event.Run name what) is lines hosts notes x =
    let rest = running_faultless x.host (shapes_after hosts (Start x.host x.cmd)) x.rest x.follow.operations x.follow.runs in
    let all : IsFaultless (Start x.host x.cmd ∷ x.rest) = omega (arith, rest) in
    ap faults_of x.notes_are ∙ all
part_faultless (event.Step name count) is lines hosts notes x = absurd is
part_faultless (event.Finish name) is lines hosts notes x = absurd is
part_faultless e is lines hosts notes x = absurd x

cut_faultless : (e : Event) → IsShotEvent e → (lines : ℕ) (hosts : List HostShape) (notes : List Note) → ShapeOfPart e lines hosts notes → IsFaultless notes
cut_faultless e is lines hosts notes (inl none) = ap faults_of none
cut_faultless e is lines hosts notes (inr x) = part_faultless e is lines hosts notes x

-- An event that ends the run, where no note before it stops it.
pub fault_hides : (b : Base) (n m : Now) (e : Event) → IsShotEvent e → (shelf : ShelfChange) (x : EventFault)
    → list_any note_stops n.world.journal ≡ false → EventSays e shelf (next_of b n m) (Err x) → HidesNoFault x m.world.journal
fault_hides b n m e is shelf fault.MkfsFailed goes says = tt
fault_hides b n m e is shelf (fault.SourceEnded end) goes says =
    let same : m.world.journal ≡ n.world.journal = says.0.adds.joined ∙ ap (λ (ns : List Note). n.world.journal ++ ns) says.0.adds.shape.none ∙ append-nil n.world.journal in
    subst IsFaultless (sym same) (all_faultless n.world.journal goes)
fault_hides b n m e is shelf fault.OutOfMemory goes says =
    let before = all_faultless n.world.journal goes in
    let part = cut_faultless e is b.lines (shapes_of n.world.journal) says.adds.notes says.adds.shape in
    let sum = faults_both n.world.journal says.adds.notes in
    let all : IsFaultless (n.world.journal ++ says.adds.notes) = omega (arith, before, part, sum) in
    subst IsFaultless (sym says.adds.joined) all
