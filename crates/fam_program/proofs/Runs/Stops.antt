-- Notes of events of which the last one alone may stop a run.
use Rattle.std.proofs.Common.{◌≡◌, ◌⊎◌, ℕ, inl, inr, Bool, true, false, List, [], ◌∷◌, ◌++◌, Option, Some, None, option_map, refl, ap, sym, ◌∙◌, subst}
use Rattle.std.specs.Prelude.{◌||◌, slice_get}
use Rattle.std.specs.List.{list_any}
use Rattle.std.proofs.lemmas.List.{append-nil}
use Rattle.fam_base.specs.declared.cmd.Cmd.{Cmd}
use Rattle.fam_machine.specs.declared.request.MkfsRequest.{MkfsRequest}
use Rattle.fam_journal.specs.declared.event.Ask.{Ask}
use Rattle.fam_journal.specs.declared.event.Event.{Event}
use Rattle.fam_journal.specs.declared.event.Event.TheVariants as event
use Rattle.fam_journal.specs.declared.refusal.Refusal.{Refusal}
use Rattle.fam_journal.specs.declared.refusal.Refusal.TheVariants as why
use Rattle.fam_journal.specs.Calls as call
use Rattle.fam_journal.specs.Events.{mounts}
use Rattle.fam_journal.specs.Calls.{may_begin, number_of}
use Rattle.fam_journal.specs.EventShapes.{EventBreaksShape, EventShape, EventPartShape, StartShape, UnfitNotes}
use Rattle.fam_journal.specs.Shapes.{ActsShape, AnswerShape, AtShape, CompletesShape, DirtyShape, ShapeByRefusal, HostActsShape, HostShape, OfHostShape, OfRunning, OfTask, OperationsShape, UnfinishedShape, TaskShape, TaskNote, shapes_after, keeps_behind, made_note, refusal_told, shown_shapes}
use Rattle.fam_journal.specs.Members.{changed_at}
use Rattle.fam_journal.specs.Notes.{Answer, Note, Host, Start, Answered, Refused}
use Rattle.fam_outcomes.specs.Programs.{without_last}
use Rattle.fam_outcomes.specs.Statuses.{last_stops, note_stops}
use Rattle.fam_journal.proofs.Calls.Members.{changed_here}
use Rattle.fam_events.specs.Happens.{ShapeOfPart}
use Rattle.fam_machine.specs.Mkfs.{asked}
use Rattle.fam_program.specs.Unprinted.{OnlyLastStops, IsShotEvent}

-- One note.

alone : (note : Note) (notes : List Note) → notes ≡ note ∷ [] → OnlyLastStops notes
alone note notes is = ap (λ (ns : List Note). list_any note_stops (without_last ns)) is

-- Notes of a command.

-- a host without a command runs none
of_idle : (answer : Answer) (o : Option HostShape) (P : List ℕ → TaskShape → Type 0) → OfRunning (option_map (λ (f : HostShape). record f { task = None; keeps = keeps_behind answer f.keeps }) o) P → ⊥
of_idle answer None P x = x
of_idle answer (Some f) P x = x

of_here : (o : Option HostShape) (P : List ℕ → TaskShape → Type 0) (host h : ℕ) → OfRunning o (λ me t. (host ≡ h) × P me t) → host ≡ h
of_here None P host h x = absurd x
of_here (Some f) P host h x = by_task f.task x
  where
    by_task : (t : Option TaskShape) → OfTask t (λ t. (host ≡ h) × P f.uuid t) → host ≡ h
    by_task None x = absurd x
    by_task (Some t) x = x.0

pub of_none : (o : Option HostShape) → OfRunning o (λ me t. ⊥) → ⊥
of_none None x = x
of_none (Some f) x = by_task f.task x
  where
    by_task : (t : Option TaskShape) → OfTask t (λ t. ⊥) → ⊥
    by_task None x = x
    by_task (Some t) x = x

-- behind its answer nothing comes
not_answered : (answer : Answer) (h host : ℕ) (hosts : List HostShape) (P : List ℕ → TaskShape → Type 0) → host ≡ h
    → OfRunning (slice_get (changed_at host (λ (f : HostShape). record f { task = None; keeps = keeps_behind answer f.keeps }) hosts) h) P → ⊥
not_answered answer h host hosts P same x =
    of_idle answer (slice_get hosts h) P
    (subst (λ (o : Option HostShape). OfRunning o P) (changed_here h (λ (f : HostShape). record f { task = None; keeps = keeps_behind answer f.keeps }) hosts)
    (subst (λ (k : ℕ). OfRunning (slice_get (changed_at k (λ (f : HostShape). record f { task = None; keeps = keeps_behind answer f.keeps }) hosts) h) P) same x))

-- a note behind which another one comes doesn't stop
goes_behind : (h : ℕ) (hosts : List HostShape) (note next : Note) → OfRunning (slice_get hosts h) (λ me t. TaskNote h me t note)
    → OfRunning (slice_get (shapes_after hosts note) h) (λ me t. TaskNote h me t next) → note_stops note ≡ false
goes_behind h hosts (Answered host answer) next x y =
    absurd (not_answered answer h host hosts (λ me t. TaskNote h me t next) (of_here (slice_get hosts h) (λ me t. AnswerShape me t.cmd t.stage answer) host h x) y)
goes_behind h hosts (Refused name cause) next x y = absurd (of_none (slice_get hosts h) x)
goes_behind h hosts e next x y = refl

operations_go : (h : ℕ) (hosts : List HostShape) (notes : List Note) → OperationsShape h hosts notes → OnlyLastStops notes
operations_go h hosts [] x = refl
operations_go h hosts (note ∷ []) x = refl
operations_go h hosts (note ∷ next ∷ notes) x =
    ap (λ (t : Bool). t || list_any note_stops (without_last (next ∷ notes))) (goes_behind h hosts note next x.0 x.1.0)
    ∙ operations_go h (shapes_after hosts note) (next ∷ notes) x.1

-- behind the note that it starts
behind_start : (host : ℕ) (cmd : Cmd) (rest : List Note) → OnlyLastStops rest → OnlyLastStops (Start host cmd ∷ rest)
behind_start host cmd [] goes = refl
behind_start host cmd (note ∷ rest) goes = goes

module _ (name : List ℕ) (what : Ask) (lines : ℕ) (hosts : List HostShape) (notes : List Note) where
  started : (Q : ℕ → List HostShape → List Note → Type 0) → ((h : ℕ) (fs : List HostShape) (ns : List Note) → Q h fs ns → OperationsShape h fs ns)
      → StartShape Q name what lines hosts notes → OnlyLastStops notes
  started Q operations x =
      subst OnlyLastStops (sym x.notes_are)
      (behind_start x.host x.cmd x.rest (operations_go x.host (shapes_after hosts (Start x.host x.cmd)) x.rest (operations x.host (shapes_after hosts (Start x.host x.cmd)) x.rest x.follow)))

  begun : (o : Option Refusal) → ShapeByRefusal name o notes (UnfitNotes name what notes ⊎ StartShape CompletesShape name what lines hosts notes) → OnlyLastStops notes
  begun None (inl x) = alone (Refused name x.why) notes x.notes_are
  begun None (inr x) = started CompletesShape (λ h fs ns y. y.operations) x
  begun (Some cause) x = alone (Refused name cause) notes x

declared : (name uuid : List ℕ) (notes : List Note) (o : Option Refusal) → ShapeByRefusal name o notes (notes ≡ Host name uuid ∷ []) → OnlyLastStops notes
declared name uuid notes None x = alone (Host name uuid) notes x
declared name uuid notes (Some cause) x = alone (Refused name cause) notes x

-- a file system is made or not: of either there is one note
module _ (name : List ℕ) (request : MkfsRequest) (lines : ℕ) (hosts : List HostShape) (notes : List Note) where
  acts : (h : ℕ) (o : Option HostShape) → OfHostShape o (λ host. ActsShape (call.Makes name request) h host lines hosts notes) → OnlyLastStops notes
  acts h None x = absurd x
  acts h (Some host) (inl x) = alone (made_note request.halt h (asked request host.uuid lines)) notes x
  acts h (Some host) (inr x) = alone (Refused name (why.HasSuper x.fs)) notes x.notes_are

  acts_at : (o : Option ℕ) → AtShape o hosts (λ h host. ActsShape (call.Makes name request) h host lines hosts notes) → OnlyLastStops notes
  acts_at None x = absurd x
  acts_at (Some h) x = acts h (slice_get hosts h) x

  made : (o : Option Refusal) → ShapeByRefusal name o notes (HostActsShape (call.Makes name request) lines hosts notes ⊎ DirtyShape name lines hosts notes) → OnlyLastStops notes
  made None (inl x) = acts_at (number_of name (shown_shapes lines hosts)) x
  made None (inr x) = alone (Refused name (why.Dirty (record { 0 = x.dirty }))) notes x.notes_are
  made (Some cause) x = alone (Refused name cause) notes x

-- an event that is done
pub step_goes : (e : Event) → IsShotEvent e → (lines : ℕ) (hosts : List HostShape) (notes : List Note) → EventShape e lines hosts notes → OnlyLastStops notes
step_goes (event.Host name uuid) is lines hosts notes x = declared name uuid notes (refusal_told (call.Declares name uuid) lines hosts) x
step_goes (event.Mkfs name request) is lines hosts notes x =
    made name request lines hosts notes
    (refusal_told (call.Makes name request) lines hosts) x
step_goes (event.Run name what) is lines hosts notes x = begun name what lines hosts notes (may_begin name (mounts what) (shown_shapes lines hosts)) x
step_goes e is lines hosts notes x = absurd is

-- a part of an event
part_goes : (e : Event) → IsShotEvent e → (lines : ℕ) (hosts : List HostShape) (notes : List Note) → EventPartShape e lines hosts notes → OnlyLastStops notes
part_goes (event.Run name what) is lines hosts notes x = started name what lines hosts notes UnfinishedShape (λ h fs ns y. y.operations) x
part_goes (event.Step name count) is lines hosts notes x = absurd is
part_goes (event.Finish name) is lines hosts notes x = absurd is
part_goes e is lines hosts notes x = absurd x

pub cut_goes : (e : Event) → IsShotEvent e → (lines : ℕ) (hosts : List HostShape) (notes : List Note) → ShapeOfPart e lines hosts notes → OnlyLastStops notes
cut_goes e is lines hosts notes (inl none) = ap (λ (ns : List Note). list_any note_stops (without_last ns)) none
cut_goes e is lines hosts notes (inr x) = part_goes e is lines hosts notes x

-- Notes behind others, none of which stops.

pub or_parts : (a b : Bool) → (a || b) ≡ false → (a ≡ false) × (b ≡ false)
or_parts true b h = (h, cc)
or_parts false b h = (refl, h)

both_parts : (a b : Bool) → a ≡ false → b ≡ false → (a || b) ≡ false
both_parts a b x y = ap (λ (t : Bool). t || b) x ∙ y

-- where none stops, none but the last one does
pub all_go : (notes : List Note) → list_any note_stops notes ≡ false → OnlyLastStops notes
all_go [] h = refl
all_go (note ∷ []) h = refl
all_go (note ∷ next ∷ notes) h =
    let parts = or_parts (note_stops note) (list_any note_stops (next ∷ notes)) h in
    both_parts (note_stops note) (list_any note_stops (without_last (next ∷ notes))) parts.0 (all_go (next ∷ notes) parts.1)

more_go : (first : List Note) (note : Note) (notes : List Note) → list_any note_stops first ≡ false → OnlyLastStops (note ∷ notes) → OnlyLastStops (first ++ note ∷ notes)
more_go [] note notes h goes = goes
more_go (x ∷ []) note notes h goes =
    both_parts (note_stops x) (list_any note_stops (without_last (note ∷ notes))) (or_parts (note_stops x) false h).0 goes
more_go (x ∷ y ∷ first) note notes h goes =
    let parts = or_parts (note_stops x) (list_any note_stops (y ∷ first)) h in
    both_parts (note_stops x) (list_any note_stops (without_last ((y ∷ first) ++ note ∷ notes))) parts.0 (more_go (y ∷ first) note notes parts.1 goes)

pub go_behind : (first notes : List Note) → list_any note_stops first ≡ false → OnlyLastStops notes → OnlyLastStops (first ++ notes)
go_behind first [] h goes = subst OnlyLastStops (sym (append-nil first)) (all_go first h)
go_behind first (note ∷ notes) h goes = more_go first note notes h goes

-- and where the last one doesn't stop, none does
pub none_stops : (notes : List Note) → OnlyLastStops notes → last_stops notes ≡ false → list_any note_stops notes ≡ false
none_stops [] goes last = refl
none_stops (note ∷ []) goes last = both_parts (note_stops note) false last refl
none_stops (note ∷ next ∷ notes) goes last =
    let parts = or_parts (note_stops note) (list_any note_stops (without_last (next ∷ notes))) goes in
    both_parts (note_stops note) (list_any note_stops (next ∷ notes)) parts.0 (none_stops (next ∷ notes) parts.1 last)

-- a mkfs in which the media failed has one note
pub breaks_goes : (e : Event) (lines : ℕ) (hosts : List HostShape) (notes : List Note) → EventBreaksShape e lines hosts notes → OnlyLastStops notes
breaks_goes (event.Mkfs name request) lines hosts notes x = alone (Refused name (why.MediaFault (record { 0 = x.1.0 }))) notes x.1.1
breaks_goes e lines hosts notes x = absurd x
