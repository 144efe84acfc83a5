-- Whether a host's task runs: as the notes tell it, as the world's refusals do, and as the machine has it.
use Prim.Native.Nat.{zero, suc}
use Rattle.std.proofs.Common.{◌≡◌, ℕ, ◌≤◌, Bool, true, false, List, [], ◌∷◌, length, map, Option, Some, None, refl, ap, sym, ◌∙◌, subst, arith}
use Rattle.std.specs.Prelude.{is_some, not, option_map, slice_get}
use Rattle.std.specs.List.{list_any}
use Rattle.fam_base.specs.Image.{Image}
use Rattle.fam_journal.specs.declared.refusal.Refusal.TheVariants as why
use Rattle.fam_journal.specs.Calls as call
use Rattle.fam_journal.specs.Calls.{busy_at, idle_refusal, is_busy_host, on_host, refusal_of, when}
use Rattle.fam_journal.specs.Ends.{is_answer_note}
use Rattle.fam_commands.specs.Appends.{HasWish}
use Rattle.fam_journal.specs.Shapes.{AnswerShape, Begun, CommandStage, EntryShape, HostShape, Marked, Met, Named, IsShaped, OfRunning, OfTask, OperationsShape, TaskShape, TaskNote, shapes_after, shapes_behind, shapes_of, keeps_behind, runs_shape, shown_shape, shown_shapes, shown_running, with_stage}
use Rattle.fam_journal.specs.Kept.{Held}
use Rattle.fam_journal.specs.Machines.{Machines}
use Rattle.fam_journal.specs.Members.{changed_at}
use Rattle.fam_journal.specs.Notes.{Answer, Note, Mark, Found, Writes, Answered}
use Rattle.fam_journal.specs.View.{WorldStands, WorldView}
use Rattle.fam_journal.specs.ByWorld.{number_in, refusal_in, shown_state}
use Rattle.fam_journal.proofs.Calls.Members.{changed_here}
use Rattle.fam_journal.proofs.Shapes.ShapeLaws.{state_shaped}
use Rattle.fam_journal.proofs.Shapes.Operations.{runs_same}
use Rattle.fam_journal.proofs.Shapes.Views.{number_shaped, refusal_shaped}

-- what is shown of hosts
shown_runs : (t : Option TaskShape) → is_some (shown_running t) ≡ is_some t
shown_runs None = refl
shown_runs (Some t) = refl

busy_shown : (hosts : List HostShape) (h : ℕ) → is_busy_host (slice_get (map shown_shape hosts) h) ≡ runs_shape (slice_get hosts h)
busy_shown [] h = refl
busy_shown (f ∷ hosts) zero = shown_runs f.task
busy_shown (f ∷ hosts) (suc h) = busy_shown hosts h

not_back : (t : Bool) → when (not t) why.Idle ≡ None → t ≡ true
not_back true e = refl
not_back false e = absurd cc

module _ (lines : ℕ) (world : WorldView) (shaped : IsShaped world) (name : List ℕ) where
  abbrev shapes : List HostShape
  shapes = shapes_of world.journal

  abbrev shown : Machines
  shown = shown_shapes lines shapes

  first_is : (h : ℕ) → number_in name world ≡ Some h → refusal_in (call.Steps name) world lines ≡ when (not (runs_shape (slice_get shapes h))) why.Idle
  unfolding refusal_of
  first_is h number =
      refusal_shaped lines world shaped (call.Steps name) tt
      ∙ ap (λ (o : Option ℕ). on_host o (λ h. idle_refusal h shown)) (sym (number_shaped lines world shaped name) ∙ number)
      ∙ ap (λ (t : Bool). when (not t) why.Idle) (busy_shown shapes h)

  -- a host that runs isn't refused
  pub runs_free : (h : ℕ) → number_in name world ≡ Some h → runs_shape (slice_get shapes h) ≡ true → refusal_in (call.Steps name) world lines ≡ None
  runs_free h number runs = first_is h number ∙ ap (λ (t : Bool). when (not t) why.Idle) runs

  -- and one that isn't refused is declared and runs
  pub free_runs : refusal_in (call.Steps name) world lines ≡ None → (h : ℕ) × (number_in name world ≡ Some h) × (runs_shape (slice_get shapes h) ≡ true)
  unfolding refusal_of
  free_runs free = by_number (number_in name world) refl
    where
      none_first : number_in name world ≡ None → refusal_in (call.Steps name) world lines ≡ Some why.NoHost
      none_first none = ap (λ (o : Option ℕ). on_host o (λ h. idle_refusal h (shown_state world lines))) none

      by_number : (o : Option ℕ) → number_in name world ≡ o → (h : ℕ) × (number_in name world ≡ Some h) × (runs_shape (slice_get shapes h) ≡ true)
      by_number None is = absurd (let both : None ≡ Some why.NoHost = sym free ∙ none_first is in cc)
      by_number (Some h) is = (h, is, not_back (runs_shape (slice_get shapes h)) (sym (first_is h is) ∙ free))

-- a finish is refused as a step is
pub finish_as_step : (name : List ℕ) (world : WorldView) (lines : ℕ) → refusal_in (call.Finishes name) world lines ≡ refusal_in (call.Steps name) world lines
unfolding refusal_of
finish_as_step name world lines = refl

-- on the machine
pub busy_is : (start : Image) (state : Machines) (world : WorldView) → Held start state world state.memory → IsShaped world → (h : ℕ)
    → busy_at h state ≡ runs_shape (slice_get (shapes_of world.journal) h)
busy_is start state world held shaped h =
    let stands : WorldStands (length state.memory) state world = subst (λ (n : ℕ). WorldStands n state world) (sym held.kept.held.lines) held.stands in
    let f = state_shaped state world stands shaped in
    runs_same (length state.memory) h state.hosts (shapes_of world.journal) f.shaped

-- Notes of one operation.

staged_runs : (h : ℕ) (hosts : List HostShape) (stage : CommandStage) → runs_shape (slice_get (changed_at h (with_stage stage) hosts) h) ≡ runs_shape (slice_get hosts h)
staged_runs h hosts stage = ap runs_shape (changed_here h (with_stage stage) hosts) ∙ by_host (slice_get hosts h)
  where
    by_task : (t : Option TaskShape) → is_some (option_map (λ (t : TaskShape). record t { stage = stage }) t) ≡ is_some t
    by_task None = refl
    by_task (Some t) = refl

    by_host : (o : Option HostShape) → runs_shape (option_map (with_stage stage) o) ≡ runs_shape o
    by_host None = refl
    by_host (Some f) = by_task f.task

over_runs : (answer : Answer) (h : ℕ) (hosts : List HostShape)
    → runs_shape (slice_get (changed_at h (λ (f : HostShape). record f { task = None; keeps = keeps_behind answer f.keeps }) hosts) h) ≡ false
over_runs answer h hosts = ap runs_shape (changed_here h (λ (f : HostShape). record f { task = None; keeps = keeps_behind answer f.keeps }) hosts) ∙ by_host (slice_get hosts h)
  where
    by_host : (o : Option HostShape) → runs_shape (option_map (λ (f : HostShape). record f { task = None; keeps = keeps_behind answer f.keeps }) o) ≡ false
    by_host None = refl
    by_host (Some f) = refl

of_none : (o : Option HostShape) → OfRunning o (λ me t. ⊥) → ⊥
of_none None x = x
of_none (Some f) x = by_task f.task x
  where
    by_task : (t : Option TaskShape) → OfTask t (λ t. ⊥) → ⊥
    by_task None x = x
    by_task (Some t) x = x

of_answer : (o : Option HostShape) (P : List ℕ → TaskShape → Type 0) (host h : ℕ) → OfRunning o (λ me t. (host ≡ h) × P me t) → host ≡ h
of_answer None P host h x = absurd x
of_answer (Some f) P host h x = by_task f.task x
  where
    by_task : (t : Option TaskShape) → OfTask t (λ t. (host ≡ h) × P f.uuid t) → host ≡ h
    by_task None x = absurd x
    by_task (Some t) x = x.0

of_three : (o : Option HostShape) (P Q : TaskShape → Type 0) (host h : ℕ) → OfRunning o (λ me t. (host ≡ h) × P t × Q t) → host ≡ h
of_three None P Q host h x = absurd x
of_three (Some f) P Q host h x = by_task f.task x
  where
    by_task : (t : Option TaskShape) → OfTask t (λ t. (host ≡ h) × P t × Q t) → host ≡ h
    by_task None x = absurd x
    by_task (Some t) x = x.0

staged_on : (host h : ℕ) (hosts : List HostShape) (stage : CommandStage) → host ≡ h → runs_shape (slice_get hosts h) ≡ true → runs_shape (slice_get (changed_at host (with_stage stage) hosts) h) ≡ true
staged_on host h hosts stage same runs =
    ap (λ (k : ℕ). runs_shape (slice_get (changed_at k (with_stage stage) hosts) h)) same ∙ staged_runs h hosts stage ∙ runs

-- it runs on behind a note that is no answer
pub note_runs : (h : ℕ) (hosts : List HostShape) (note : Note) → OfRunning (slice_get hosts h) (λ me t. TaskNote h me t note)
    → runs_shape (slice_get hosts h) ≡ true → runs_shape (slice_get (shapes_after hosts note) h) ≡ not (is_answer_note note)
note_runs h hosts (Mark host) x runs = staged_on host h hosts Marked (of_answer (slice_get hosts h) (λ me t. t.stage ≡ Begun) host h x) runs
note_runs h hosts (Found host n) x runs = staged_on host h hosts (Met n) (of_three (slice_get hosts h) (λ t. HasWish t.cmd) (λ t. t.stage ≡ Marked) host h x) runs
note_runs h hosts (Writes host seq entry) x runs = staged_on host h hosts (Named seq) (of_three (slice_get hosts h) (λ t. EntryShape t.cmd entry) (λ t. t.stage ≡ Met seq) host h x) runs
note_runs h hosts (Answered host answer) x runs =
    ap (λ (k : ℕ). runs_shape (slice_get (changed_at k (λ (f : HostShape). record f { task = None; keeps = keeps_behind answer f.keeps }) hosts) h))
    (of_answer (slice_get hosts h) (λ me t. AnswerShape me t.cmd t.stage answer) host h x) ∙ over_runs answer h hosts
note_runs h hosts other x runs = absurd (of_none (slice_get hosts h) x)

or_false : (t : Bool) → Rattle.std.specs.Prelude.◌||◌ t false ≡ t
or_false true = refl
or_false false = refl

-- the task runs on unless it answered
pub step_runs : (h : ℕ) (hosts : List HostShape) (notes : List Note) → OperationsShape h hosts notes → length notes ≤ 1
    → runs_shape (slice_get hosts h) ≡ true → runs_shape (slice_get (shapes_behind hosts notes) h) ≡ not (list_any is_answer_note notes)
step_runs h hosts [] x short runs = runs
step_runs h hosts (note ∷ []) x short runs = note_runs h hosts note x.0 runs ∙ ap not (sym (or_false (is_answer_note note)))
step_runs h hosts (note ∷ next ∷ notes) x short runs = absurd (omega (arith, short))
