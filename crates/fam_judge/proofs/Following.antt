-- Journals that follow events have the form of the tables, where commands are sound and answers stand at their places.
use Rattle.std.proofs.Common.{◌≡◌, ◌⊎◌, ◌≤◌, inl, inr, ℕ, List, [], ◌∷◌, ◌++◌, length, Option, Some, None, refl, ap, sym, ◌∙◌, subst, arith}
use Rattle.std.specs.Prelude.{slice_get}
use Rattle.fam_base.specs.declared.cmd.Cmd.{Cmd}
use Rattle.fam_machine.specs.declared.request.MkfsRequest.{MkfsRequest}
use Rattle.fam_machine.specs.HostMoves.{Evict, Fetch, Leak, Move}
use Rattle.fam_journal.specs.declared.event.Ask.{Ask}
use Rattle.fam_journal.specs.declared.event.Event.{Event}
use Rattle.fam_journal.specs.declared.event.Event.TheVariants as event
use Rattle.fam_journal.specs.declared.refusal.Refusal.{Refusal}
use Rattle.fam_journal.specs.Calls as call
use Rattle.fam_journal.specs.Calls.{Call, asked_name, has_name, idle_refusal, may_begin, number_of, on_host}
use Rattle.fam_journal.specs.Events.{mounts}
use Rattle.fam_journal.specs.EventShapes.{EventShape, FollowsShape, NoMore, StartShape, StepsShape, UnfitNotes}
use Rattle.fam_journal.specs.Laws.{AreSound, IsValidEvent}
use Rattle.fam_journal.specs.Notes.{Note, Host, Start, Mark, Found, Writes, Answered, Stop, Halt, Umount, Refused}
use Rattle.fam_journal.specs.Shapes.{ActsShape, AtShape, CompletesShape, DirtyShape, DoesShape, FreeShape, HostActsShape, HostShape, OfHostShape, OfRunning, OfTask, OperationsShape, ShapeByRefusal, TaskNote, TaskShape, refusal_told, shapes_after, shapes_behind, shown_shape, shown_shapes}
use Rattle.fam_judge.specs.Formed.{AreFormed, HavePlaces, AreSoundNotes}
use Rattle.fam_judge.proofs.Forming.{task_formed}
use Rattle.fam_judge.proofs.Members.{place_kept}

-- Names: a host that changes keeps its own.

started_number : (lines : ℕ) (name : List ℕ) (h : ℕ) (cmd : Cmd) (hosts : List HostShape)
    → number_of name (shown_shapes lines (shapes_after hosts (Start h cmd))) ≡ number_of name (shown_shapes lines hosts)
started_number lines name h cmd hosts = place_kept shown_shape (has_name name) h _ (λ x. refl) hosts 0

task_number : (lines : ℕ) (name : List ℕ) (h : ℕ) (me : List ℕ) (t : TaskShape) (hosts : List HostShape) (note : Note) → TaskNote h me t note
    → number_of name (shown_shapes lines (shapes_after hosts note)) ≡ number_of name (shown_shapes lines hosts)
task_number lines name h me t hosts (Mark host) is = place_kept shown_shape (has_name name) host _ (λ x. refl) hosts 0
task_number lines name h me t hosts (Found host n) is = place_kept shown_shape (has_name name) host _ (λ x. refl) hosts 0
task_number lines name h me t hosts (Writes host seq entry) is = place_kept shown_shape (has_name name) host _ (λ x. refl) hosts 0
task_number lines name h me t hosts (Answered host answer) is = place_kept shown_shape (has_name name) host _ (λ x. refl) hosts 0
task_number lines name h me t hosts note is = absurd is

-- Notes of a running command.

-- the host runs a command, which may give the note next
pub record RunsNote (h : ℕ) (hosts : List HostShape) (note : Note) : Type 0 where
  pub host : HostShape
  pub declared : slice_get hosts h ≡ Some host
  pub task : TaskShape
  pub runs : host.task ≡ Some task
  pub is : TaskNote h host.uuid task note

task_runs : (h : ℕ) (hosts : List HostShape) (note : Note) (host : HostShape) → slice_get hosts h ≡ Some host → (k : Option TaskShape) → host.task ≡ k
    → OfTask k (λ t. TaskNote h host.uuid t note) → RunsNote h hosts note
task_runs h hosts note host declared None runs is = absurd is
task_runs h hosts note host declared (Some t) runs is = record { host = host; declared = declared; task = t; runs = runs; is = is }

-- so it is of a note that may come next
pub note_runs : (h : ℕ) (hosts : List HostShape) (note : Note) (o : Option HostShape) → slice_get hosts h ≡ o → OfRunning o (λ me t. TaskNote h me t note)
    → RunsNote h hosts note
note_runs h hosts note None declared is = absurd is
note_runs h hosts note (Some host) declared is = task_runs h hosts note host declared host.task refl is

-- one behind another
pub operations_formed : (lines : ℕ) (name : List ℕ) (h : ℕ) (notes : List Note) (hosts : List HostShape) → number_of name (shown_shapes lines hosts) ≡ Some h
    → OperationsShape h hosts notes → HavePlaces hosts notes → AreFormed lines hosts notes
operations_formed lines name h [] hosts number is placed = tt
operations_formed lines name h (note ∷ notes) hosts number is placed =
    let run = note_runs h hosts note (slice_get hosts h) refl is.0 in (
      task_formed lines hosts name h run.host run.task number run.declared run.runs note run.is placed.0,
      operations_formed lines name h notes (shapes_after hosts note) (task_number lines name h run.host.uuid run.task hosts note run.is ∙ number) is.1 placed.1,
    )

-- At most one note.

few_one : (note : Note) (notes : List Note) → notes ≡ note ∷ [] → length notes ≤ 1
few_one note notes are = subst (λ (l : List Note). length l ≤ 1) (sym are) (omega arith)

few_none : (notes : List Note) → notes ≡ [] → length notes ≤ 1
few_none notes are = subst (λ (l : List Note). length l ≤ 1) (sym are) (omega arith)

few_by : (name : List ℕ) (o : Option Refusal) (notes : List Note) (free : Type 0) → (free → length notes ≤ 1) → ShapeByRefusal name o notes free → length notes ≤ 1
few_by name (Some why) notes free each is = few_one (Refused name why) notes is
few_by name None notes free each is = each is

few_of : (o : Option HostShape) (P : HostShape → Type 0) (notes : List Note) → ((host : HostShape) → P host → length notes ≤ 1) → OfHostShape o P → length notes ≤ 1
few_of None P notes each is = absurd is
few_of (Some host) P notes each is = each host is

few_at : (o : Option ℕ) (hosts : List HostShape) (P : ℕ → HostShape → Type 0) (notes : List Note) → ((h : ℕ) (host : HostShape) → P h host → length notes ≤ 1)
    → AtShape o hosts P → length notes ≤ 1
few_at None hosts P notes each is = absurd is
few_at (Some h) hosts P notes each is = few_of (slice_get hosts h) (P h) notes (each h) is

few_does : (lines : ℕ) (hosts : List HostShape) (notes : List Note) (c : Call) → (FreeShape c lines hosts notes → length notes ≤ 1) → DoesShape c lines hosts notes
    → length notes ≤ 1
few_does lines hosts notes c each is = few_by (asked_name c) (refusal_told c lines hosts) notes (FreeShape c lines hosts notes) each is

few_acting : (lines : ℕ) (hosts : List HostShape) (notes : List Note) (c : Call) → ((h : ℕ) (host : HostShape) → ActsShape c h host lines hosts notes → length notes ≤ 1)
    → HostActsShape c lines hosts notes → length notes ≤ 1
few_acting lines hosts notes c each is = few_at (number_of (asked_name c) (shown_shapes lines hosts)) hosts (λ h host. ActsShape c h host lines hosts notes) notes each is

few_made : (lines : ℕ) (hosts : List HostShape) (notes : List Note) (name : List ℕ) (request : MkfsRequest)
    → HostActsShape (call.Makes name request) lines hosts notes ⊎ DirtyShape name lines hosts notes → length notes ≤ 1
few_made lines hosts notes name request (inl acts) = few_acting lines hosts notes (call.Makes name request) made acts
  where
    made : (h : ℕ) (host : HostShape) → ActsShape (call.Makes name request) h host lines hosts notes → length notes ≤ 1
    made h host (inl are) = few_one _ notes are
    made h host (inr stands) = few_one _ notes stands.notes_are
few_made lines hosts notes name request (inr dirty) = few_one _ notes dirty.notes_are

few_moved : (lines : ℕ) (hosts : List HostShape) (notes : List Note) (name : List ℕ) (line : ℕ) (move : Move)
    → DoesShape (call.Moves name line move) lines hosts notes → length notes ≤ 1
few_moved lines hosts notes name line move is = few_does lines hosts notes (call.Moves name line move) (few_acting lines hosts notes (call.Moves name line move) moved) is
  where
    moved : (h : ℕ) (host : HostShape) → ActsShape (call.Moves name line move) h host lines hosts notes → length notes ≤ 1
    moved h host (inl none) = few_none notes none
    moved h host (inr fault) = few_one _ notes fault

few_begun : (lines : ℕ) (hosts : List HostShape) (notes : List Note) (name : List ℕ) (what : Ask)
    → UnfitNotes name what notes ⊎ StartShape NoMore name what lines hosts notes → length notes ≤ 1
few_begun lines hosts notes name what (inl unfit) = few_one _ notes unfit.notes_are
few_begun lines hosts notes name what (inr start) =
    few_one (Start start.host start.cmd) notes (start.notes_are ∙ ap (λ (l : List Note). Start start.host start.cmd ∷ l) start.follow)

-- Events.

module _ (lines : ℕ) where
  -- an event that gives at most one note gives it alone
  alone : (hosts : List HostShape) (e : Event) (notes : List Note) → IsValidEvent e → EventShape e lines hosts notes → length notes ≤ 1
      → AreSoundNotes notes → HavePlaces hosts notes → AreFormed lines hosts notes
  alone hosts e [] valid shape few sound placed = tt
  alone hosts e (note ∷ []) valid shape few sound placed =
      (record { event = e; valid = valid; shape = shape; sound = sound.0; placed = placed.0 }, tt)
  alone hosts e (note ∷ next ∷ notes) valid shape few sound placed = absurd (omega arith)

  -- a command begins where it may, and notes of its operations follow
  pub started : (Q : ℕ → List HostShape → List Note → Type 0)
      → ((h : ℕ) (hosts : List HostShape) (notes : List Note) → Q h hosts notes → OperationsShape h hosts notes)
      → (hosts : List HostShape) (name : List ℕ) (what : Ask) (notes : List Note) → may_begin name (mounts what) (shown_shapes lines hosts) ≡ None
      → (start : StartShape Q name what lines hosts notes) → AreSoundNotes notes → HavePlaces hosts notes → AreFormed lines hosts notes
  started Q operate hosts name what notes free start sound placed =
      let first : Note = Start start.host start.cmd in
      let begins : StartShape NoMore name what lines hosts (first ∷ []) =
      record { host = start.host; number = start.number; cmd = start.cmd; asked = start.asked; rest = []; notes_are = refl; follow = refl } in
      let sounds : AreSoundNotes (first ∷ start.rest) = subst AreSoundNotes start.notes_are sound in
      let places : HavePlaces hosts (first ∷ start.rest) = subst (HavePlaces hosts) start.notes_are placed in
      subst (λ (l : List Note). AreFormed lines hosts l) (sym start.notes_are) (
        record {
          event = event.Begin name what;
          valid = tt;
          shape = subst (λ (o : Option Refusal). ShapeByRefusal name o (first ∷ []) (UnfitNotes name what (first ∷ []) ⊎ StartShape NoMore name what lines hosts (first ∷ [])))
              (sym free) (inr begins);
          sound = sounds.0;
          placed = tt;
        },
        operations_formed lines name start.host start.rest (shapes_after hosts first) (started_number lines name start.host start.cmd hosts ∙ start.number)
            (operate start.host (shapes_after hosts first) start.rest start.follow) places.1,
      )

  run_by : (hosts : List HostShape) (name : List ℕ) (what : Ask) (notes : List Note) (o : Option Refusal) → may_begin name (mounts what) (shown_shapes lines hosts) ≡ o
      → EventShape (event.Run name what) lines hosts notes → ShapeByRefusal name o notes (UnfitNotes name what notes ⊎ StartShape CompletesShape name what lines hosts notes)
      → AreSoundNotes notes → HavePlaces hosts notes → AreFormed lines hosts notes
  run_by hosts name what notes (Some why) e whole is sound placed = alone hosts (event.Run name what) notes tt whole (few_one (Refused name why) notes is) sound placed
  run_by hosts name what notes None e whole (inl unfit) sound placed = alone hosts (event.Run name what) notes tt whole (few_one _ notes unfit.notes_are) sound placed
  run_by hosts name what notes None e whole (inr start) sound placed =
      started CompletesShape (λ h hosts notes complete. complete.operations) hosts name what notes e start sound placed

  step_by : (hosts : List HostShape) (name : List ℕ) (count : ℕ) (notes : List Note) (o : Option Refusal) → EventShape (event.Step name count) lines hosts notes
      → ShapeByRefusal name o notes (StepsShape count name lines hosts notes) → AreSoundNotes notes → HavePlaces hosts notes → AreFormed lines hosts notes
  step_by hosts name count notes (Some why) whole is sound placed = alone hosts (event.Step name count) notes tt whole (few_one (Refused name why) notes is) sound placed
  step_by hosts name count notes None whole is sound placed = operations_formed lines name is.host notes hosts is.number is.operations placed

  finish_of : (hosts : List HostShape) (name : List ℕ) (notes : List Note) (h : ℕ) (o : Option HostShape) → number_of name (shown_shapes lines hosts) ≡ Some h
      → OfHostShape o (λ host. ActsShape (call.Finishes name) h host lines hosts notes) → HavePlaces hosts notes → AreFormed lines hosts notes
  finish_of hosts name notes h None number is placed = absurd is
  finish_of hosts name notes h (Some host) number is placed = operations_formed lines name h notes hosts number is.operations placed

  finish_at : (hosts : List HostShape) (name : List ℕ) (notes : List Note) (o : Option ℕ) → number_of name (shown_shapes lines hosts) ≡ o
      → AtShape o hosts (λ h host. ActsShape (call.Finishes name) h host lines hosts notes) → HavePlaces hosts notes → AreFormed lines hosts notes
  finish_at hosts name notes None number is placed = absurd is
  finish_at hosts name notes (Some h) number is placed = finish_of hosts name notes h (slice_get hosts h) number is placed

  finish_by : (hosts : List HostShape) (name : List ℕ) (notes : List Note) (o : Option Refusal) → EventShape (event.Finish name) lines hosts notes
      → ShapeByRefusal name o notes (HostActsShape (call.Finishes name) lines hosts notes) → AreSoundNotes notes → HavePlaces hosts notes → AreFormed lines hosts notes
  finish_by hosts name notes (Some why) whole is sound placed = alone hosts (event.Finish name) notes tt whole (few_one (Refused name why) notes is) sound placed
  finish_by hosts name notes None whole is sound placed = finish_at hosts name notes (number_of name (shown_shapes lines hosts)) refl is placed

  -- what one event adds
  pub event_formed : (hosts : List HostShape) (e : Event) (notes : List Note) → IsValidEvent e → EventShape e lines hosts notes
      → AreSoundNotes notes → HavePlaces hosts notes → AreFormed lines hosts notes
  event_formed hosts (event.Host name uuid) notes valid is sound placed =
      alone hosts (event.Host name uuid) notes valid is (few_does lines hosts notes (call.Declares name uuid) (few_one (Host name uuid) notes) is) sound placed
  event_formed hosts (event.Mkfs name request) notes valid is sound placed =
      alone hosts (event.Mkfs name request) notes valid is
      (few_does lines hosts notes (call.Makes name request) (few_made lines hosts notes name request) is) sound placed
  event_formed hosts (event.Begin name what) notes valid is sound placed =
      alone hosts (event.Begin name what) notes valid is
      (few_by name (may_begin name (mounts what) (shown_shapes lines hosts)) notes (UnfitNotes name what notes ⊎ StartShape NoMore name what lines hosts notes)
      (few_begun lines hosts notes name what) is)
      sound placed
  event_formed hosts (event.Run name what) notes valid is sound placed =
      run_by hosts name what notes (may_begin name (mounts what) (shown_shapes lines hosts)) refl is is sound placed
  event_formed hosts (event.Step name count) notes valid is sound placed =
      step_by hosts name count notes (on_host (number_of name (shown_shapes lines hosts)) (λ h. idle_refusal h (shown_shapes lines hosts))) is is sound placed
  event_formed hosts (event.Finish name) notes valid is sound placed =
      finish_by hosts name notes (refusal_told (call.Finishes name) lines hosts) is is sound placed
  event_formed hosts (event.Stop name) notes valid is sound placed =
      alone hosts (event.Stop name) notes valid is
      (few_does lines hosts notes (call.Stops name) (few_acting lines hosts notes (call.Stops name) (λ h host are. few_one (Stop h) notes are)) is) sound placed
  event_formed hosts (event.Halt name) notes valid is sound placed =
      alone hosts (event.Halt name) notes valid is
      (few_does lines hosts notes (call.Halts name) (few_acting lines hosts notes (call.Halts name) (λ h host are. few_one (Halt h) notes are)) is) sound placed
  event_formed hosts (event.Umount name) notes valid is sound placed =
      alone hosts (event.Umount name) notes valid is
      (few_does lines hosts notes (call.Umounts name) (few_acting lines hosts notes (call.Umounts name) (λ h host are. few_one (Umount h) notes are)) is) sound placed
  event_formed hosts (event.Evict name line) notes valid is sound placed =
      alone hosts (event.Evict name line) notes valid is (few_moved lines hosts notes name line.0 Evict is) sound placed
  event_formed hosts (event.Leak name line mask) notes valid is sound placed =
      alone hosts (event.Leak name line mask) notes valid is (few_moved lines hosts notes name line.0 (Leak mask.0) is) sound placed
  event_formed hosts (event.Fetch name line mask) notes valid is sound placed =
      alone hosts (event.Fetch name line mask) notes valid is (few_moved lines hosts notes name line.0 (Fetch mask.0) is) sound placed

  -- Journals.

  -- notes behind others
  pub formed_both : (hosts : List HostShape) (a b : List Note) → AreFormed lines hosts a → AreFormed lines (shapes_behind hosts a) b → AreFormed lines hosts (a ++ b)
  formed_both hosts [] b first more = more
  formed_both hosts (note ∷ a) b first more = (first.0, formed_both (shapes_after hosts note) a b first.1 more)

  -- and of both parts
  pub sound_parts : (a b : List Note) → AreSoundNotes (a ++ b) → AreSoundNotes a × AreSoundNotes b
  sound_parts [] b sound = (tt, sound)
  sound_parts (note ∷ a) b sound = let more = sound_parts a b sound.1 in ((sound.0, more.0), more.1)

  -- the second part by the hosts behind the first one
  pub placed_parts : (hosts : List HostShape) (a b : List Note) → HavePlaces hosts (a ++ b) → HavePlaces hosts a × HavePlaces (shapes_behind hosts a) b
  placed_parts hosts [] b placed = (tt, placed)
  placed_parts hosts (note ∷ a) b placed = let more = placed_parts (shapes_after hosts note) a b placed.1 in ((placed.0, more.0), more.1)

  -- by each event's own notes
  pub follows_formed : (events : List Event) (hosts : List HostShape) (journal : List Note) → AreSound events → FollowsShape lines events hosts journal
      → AreSoundNotes journal → HavePlaces hosts journal → AreFormed lines hosts journal
  follows_formed [] hosts journal valid is sound placed = subst (λ (l : List Note). AreFormed lines hosts l) (sym is) tt
  follows_formed (e ∷ events) hosts journal valid (first, rest, head, tail, joined) sound placed =
      let sounds = sound_parts first rest (subst AreSoundNotes joined sound) in
      let places = placed_parts hosts first rest (subst (HavePlaces hosts) joined placed) in
      subst (λ (l : List Note). AreFormed lines hosts l) (sym joined)
      (formed_both hosts first rest (event_formed hosts e first valid.0 head sounds.0 places.0) (follows_formed events (shapes_behind hosts first) rest valid.1 tail sounds.1 places.1))
