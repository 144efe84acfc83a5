-- Operations of a host's task one behind another, and what they come to where they end in its answer or memory runs out.
use Prim.Native.Nat.{zero, suc}
use Rattle.std.proofs.Common.{◌≡◌, ℕ, ◌<◌, ◌≤◌, ◌+◌, inl, inr, set, Bool, true, false, List, [], ◌∷◌, length, map, Option, Some, None, refl, ap, ap₂, sym, ◌∙◌, subst, arith}
use Rattle.std.specs.Prelude.{slice_get, is_some, not, drop, if◌then◌else◌}
use Rattle.std.proofs.lemmas.Option.{same_Some}
use Rattle.std.proofs.lemmas.List.{append-nil, length-append}
use Rattle.fam_base.specs.Image.{Image}
use Rattle.fam_base.specs.PathOrder.{path_eq}
use Rattle.fam_media.specs.Outside.{IfModelled}
use Rattle.fam_media.specs.States.{MediaChange, media_change}
use Rattle.fam_commands.specs.Task.{Task}
use Rattle.fam_journal.specs.declared.refusal.Refusal.{Refusal}
use Rattle.fam_journal.specs.declared.refusal.Refusal.TheVariants as why
use Rattle.fam_journal.specs.Calls as call
use Rattle.fam_journal.specs.Calls.{Acts, ByRefusal, Does, busy_at, has_name, is_busy_host, number_of, on_host, refusal_of, when}
use Rattle.fam_journal.specs.CallRecords.{Answers, CallShape, CallKeeps, FinishOutOfMemory, MediaCall, IsUnstoredAt, heading, refusal_noted}
use Rattle.fam_journal.specs.Shapes.{ActsShape, AtShape, ShapeByRefusal, FreeShape, HostShape, HostShaped, IsShaped, OfHostShape, OperationsShape, TaskShape, TaskShaped, shapes_behind, shapes_of, runs_shape}
use Rattle.fam_journal.specs.Kept.{Held}
use Rattle.fam_journal.specs.Machines.{HostState, Machines, Operation, TaskState}
use Rattle.fam_journal.specs.Members.{index_from}
use Rattle.fam_journal.specs.Notes.{Note, Refused}
use Rattle.fam_journal.specs.View.{HostStandsAt, HostView, TaskStands, WorldView}
use Rattle.fam_journal.specs.ByWorld.{busy_in, number_in, refusal_in, shown_host, shown_task}
use Rattle.fam_journal.proofs.Calls.Cases.{by_host}
use Rattle.fam_journal.proofs.Calls.Members.{changed_at_member}
use Rattle.fam_journal.proofs.Calls.Shown.{number_shown}
use Rattle.fam_journal.proofs.Growth.{adds_both, adds_none, behind_same, count_same, none_refused, operations_more}
use Rattle.fam_journal.proofs.Shapes.Operations.{operations_both, shapes_both}
use Rattle.fam_journal.proofs.Shapes.Pairs.{pairs_at}
use Rattle.fam_journal.proofs.Shapes.Running.{step_runs}
use Rattle.fam_journal.proofs.Shapes.Views.{number_shaped, refusal_shaped}
use Rattle.fam_world.specs.Counted.{Iterated, WorldStanding, WorldStep, none, more}
use Rattle.fam_world.specs.Finishes.{SoFar}
use Rattle.fam_world.specs.View.{host_view, views}
use Rattle.fam_world.specs.declared.hosts.Host.{Host}
use Rattle.fam_world.proofs.Answering.{hosted_shape, not_both}
use Rattle.fam_world.proofs.Deciding.{steps_first}
use Rattle.fam_world.proofs.Members.{map_at, map_set}
use Rattle.fam_world.proofs.Rows.{first_refusal, row_kept}

-- names tell numbers
names_same : (name : List ℕ) (xs ys : List HostView) (i : ℕ) → map heading xs ≡ map heading ys → index_from i (has_name name) (map shown_host xs) ≡ index_from i (has_name name) (map shown_host ys)
names_same name [] [] i e = refl
names_same name [] (y ∷ ys) i e = absurd cc
names_same name (x ∷ xs) [] i e = absurd cc
names_same name (x ∷ xs) (y ∷ ys) i e =
    let first : heading x ≡ heading y = same_Some (heading x) (heading y) (ap (λ zs. slice_get zs 0) e) in
    ap₂ (λ (t : Bool) (o : Option ℕ). if t then Some i else o) (ap (λ p. path_eq p.0 name) first) (names_same name xs ys (i + 1) (ap (λ zs. drop 1 zs) e))

pub number_same : (name : List ℕ) (a b : WorldView) → map heading a.hosts ≡ map heading b.hosts → number_in name a ≡ number_in name b
number_same name a b e = names_same name a.hosts b.hosts 0 e

-- a call that answered nothing wasn't refused
pub free_of : (c : call.Call) (lines before now : ℕ) (old new : WorldView) → Answers c lines None before now old new → refusal_in c old lines ≡ None
free_of c lines before now old new a = by_first (refusal_in c old lines) refl
  where
    by_first : (o : Option Refusal) → refusal_in c old lines ≡ o → o ≡ None
    by_first None is = refl
    by_first (Some cause) is =
        absurd (let said : None ≡ refusal_noted (Refused (call.asked_name c) cause ∷ []) = a.said ∙ ap refusal_noted (a.refused cause is).0 in cc)

-- a task that isn't idle is busy
busy_of : (t : Bool) → when (not t) why.Idle ≡ None → t ≡ true
busy_of true e = refl
busy_of false e = absurd cc

-- before the first one
first_so_far : (at lines : ℕ) (a : WorldStanding) → SoFar at lines 0 false a a
first_so_far at lines a = record {
  adds = adds_none lines a.media.faults a.world;
  said = refl;
  shape = λ is. tt;
  within = λ is. omega arith;
  runs = λ is runs. runs;
  ran = λ start state told_is held. record { left = state; does = (refl, refl); held = held; told_is = told_is };
}

-- One more.
module _ {name : List ℕ} {at lines count : ℕ} {over : Bool} {a b c : WorldStanding} (far : SoFar at lines count false a b)
    (number : number_in name a.world ≡ Some at) (x : WorldStep name lines over b c) where
  abbrev steps : call.Call
  steps = call.Steps name

  abbrev more_notes : List Note
  more_notes = x.step.answers.answers.adds.notes

  number_now : number_in name b.world ≡ Some at
  number_now = number_same name b.world a.world far.adds.hosts ∙ number

  free_now : refusal_in steps b.world lines ≡ None
  free_now = free_of steps lines b.media.faults c.media.faults b.world c.world x.step.answers.answers

  -- what is told of hosts by now
  shapes_now : shapes_behind (shapes_of a.world.journal) far.adds.notes ≡ shapes_of b.world.journal
  shapes_now = sym (ap shapes_of far.adds.joined ∙ shapes_both [] a.world.journal far.adds.notes)

  -- the shape of one step
  record OneShape (notes : List Note) : Type 0 where
    operations : OperationsShape at (shapes_of b.world.journal) notes
    short : length notes ≤ 1

  one_shape : IsShaped b.world → CallShape steps lines (shapes_of b.world.journal) more_notes → OneShape more_notes
  one_shape is (inr bad) = absurd bad
  one_shape is (inl shape) =
      by_shape (slice_get (shapes_of b.world.journal) at)
      (subst (λ (o : Option ℕ). AtShape o (shapes_of b.world.journal) (λ h f. ActsShape steps h f lines (shapes_of b.world.journal) more_notes))
      (sym (number_shaped lines b.world is name) ∙ number_now)
      (subst (λ (r : Option Refusal). ShapeByRefusal name r more_notes (FreeShape steps lines (shapes_of b.world.journal) more_notes))
      (sym (refusal_shaped lines b.world is steps tt) ∙ free_now) shape))
    where
      by_shape : (o : Option HostShape) → OfHostShape o (λ f. ActsShape steps at f lines (shapes_of b.world.journal) more_notes) → OneShape more_notes
      by_shape None bad = absurd bad
      by_shape (Some f) acts = record { operations = acts.0; short = acts.1 }

  one : IsShaped a.world → OneShape more_notes
  one is = one_shape (far.adds.shaped is) (x.step.answers.answers.shape (far.adds.shaped is))

  -- its row is an operation of its host
  module _ (start : Image) (state : Machines) (held : Held start state b.world state.memory) (lines_are : length state.memory ≡ lines) where
    step_free : refusal_of steps state ≡ None
    step_free = first_refusal start state b.world held steps lines lines_are ∙ free_now

    number_is : number_of name state ≡ Some at
    number_is = number_shown (length start) state b.world name held.stands ∙ number_now

    step_busy : busy_at at state ≡ true
    unfolding refusal_of
    step_busy = busy_of (busy_at at state) (sym (ap (λ (o : Option ℕ). on_host o (λ h. call.idle_refusal h state)) number_is) ∙ step_free)

    step_operation : (notes : List Note) (new : Machines) → Does steps state notes new → Operation at state notes new
    step_operation notes new row =
        by_host steps state new notes (subst (λ (o : Option Refusal). ByRefusal name o notes state new (Acts steps state notes new)) step_free row)
        (λ h host h_is host_is op. subst (λ (k : ℕ). Operation k state notes new) (same_Some h at (sym h_is ∙ number_is)) op)

  pub next_so_far : SoFar at lines (suc count) over a c
  next_so_far =
      let adds = x.step.answers.answers.adds in
      record {
        adds = adds_both lines a.media.faults b.media.faults c.media.faults a.world b.world c.world far.adds adds;
        said = none_refused far.adds.notes more_notes far.said x.step.answers.answers.said;
        shape = λ is. operations_both at (shapes_of a.world.journal) far.adds.notes more_notes (far.shape is)
            (subst (λ (fs : List HostShape). OperationsShape at fs more_notes) (sym shapes_now) (one is).operations);
        within = λ is. let first = far.within is in let last = (one is).short in let sum = length-append far.adds.notes more_notes in omega (arith, first, last, sum);
        runs = λ is runs.
            ap (λ (fs : List HostShape). runs_shape (slice_get fs at)) (ap shapes_of adds.joined ∙ shapes_both [] b.world.journal more_notes)
            ∙ step_runs at (shapes_of b.world.journal) more_notes (one is).operations (one is).short (far.runs is runs)
            ∙ ap not (sym x.step.answers.over_is);
        ran = λ start state told_is held.
            let r = far.ran start state told_is held in
            let d = x.step.keeps start r.left r.told_is r.held in
            let lines_are : length r.left.memory ≡ lines = x.modelled r.left.memory r.told_is in
            let notes_are : d.notes ≡ more_notes = behind_same b.world.journal d.notes more_notes (sym d.joined ∙ adds.joined) in
            let op : Operation at r.left more_notes d.state = subst (λ (n : List Note). Operation at r.left n d.state) notes_are (step_operation start r.left r.held lines_are d.notes d.state d.row) in
            record {
              left = d.state;
              does = operations_more at count state far.adds.notes r.left more_notes d.state r.does (step_busy start r.left r.held lines_are) op;
              held = d.held;
              told_is = d.told_is;
            };
      }

-- all of them
pub so_far : (name : List ℕ) (at lines : ℕ) (a b : WorldStanding) {n : ℕ} → number_in name a.world ≡ Some at → Iterated (WorldStep name lines false) a b n → SoFar at lines n false a b
so_far name at lines a _ number none = first_so_far at lines a
so_far name at lines a b number (more {b = mid} before last) = next_so_far (so_far name at lines a mid number before) number last

-- Ends.

pub member_of : {A : Type 0} (xs : List A) (at : ℕ) → at < length xs → (x : A) × (slice_get xs at ≡ Some x)
member_of [] at below = absurd (omega (arith, below))
member_of (x ∷ xs) zero below = (x, refl)
member_of (x ∷ xs) (suc at) below = member_of xs at (omega (arith, below))

-- a finish is refused as a step is
pub finishes_as_steps : (name : List ℕ) (world : WorldView) (lines : ℕ) (o : Option Refusal) → refusal_in (call.Steps name) world lines ≡ o → refusal_in (call.Finishes name) world lines ≡ o
unfolding refusal_of
finishes_as_steps name world lines o is = is

module _ (name : List ℕ) (at lines : ℕ) {count : ℕ} {over : Bool} {a b : WorldStanding} (far : SoFar at lines count over a b) where
  count_now : length b.world.hosts ≡ length a.world.hosts
  count_now = count_same b.world.hosts a.world.hosts far.adds.hosts

  shapes_then : shapes_behind (shapes_of a.world.journal) far.adds.notes ≡ shapes_of b.world.journal
  shapes_then = sym (ap shapes_of far.adds.joined ∙ shapes_both [] a.world.journal far.adds.notes)

  abbrev media : MediaChange
  media = record { old = a.media; new = b.media }

  module _ (view : HostView) (number : number_in name a.world ≡ Some at) (view_is : slice_get a.world.hosts at ≡ Some view)
      (free : refusal_in (call.Finishes name) a.world lines ≡ None) (modelled : IfModelled a.media.image (λ image. length image ≡ lines)) where
    abbrev c : call.Call
    c = call.Finishes name

    -- the task is over
    module _ (last : HostView) (last_is : slice_get b.world.hosts at ≡ Some last) (none_left : last.task ≡ None) where
      none_runs : (me : List ℕ) (o : Option TaskShape) → TaskShaped me None o → is_some o ≡ false
      none_runs me None is = refl
      none_runs me (Some f) is = absurd is

      shape_done : IsShaped a.world → runs_shape (slice_get (shapes_behind (shapes_of a.world.journal) far.adds.notes) at) ≡ false
      shape_done is =
          let f = pairs_at HostShaped b.world.hosts (shapes_of b.world.journal) at last (far.adds.shaped is) last_is in
          ap (λ (fs : List HostShape). runs_shape (slice_get fs at)) shapes_then ∙ ap runs_shape f.1 ∙ none_runs last.uuid f.0.task
          (subst (λ (o : Option Task). TaskShaped last.uuid o f.0.task) none_left f.2.task)

      idle_now : (lines : ℕ) (o : Option HostState) → HostStandsAt lines o (Some last) → is_busy_host o ≡ false
      idle_now lines None stands = absurd stands
      idle_now lines (Some s) stands = no_task s.task (subst (λ (t : Option Task). TaskStands lines s.task t) none_left stands.task)
        where
          no_task : (t : Option TaskState) → TaskStands lines t None → is_some t ≡ false
          no_task None stands = refl
          no_task (Some t) stands = absurd stands

      finish_keeps : (start : Image) → CallKeeps c start a.media.image b.media.image a.world b.world
      finish_keeps start state told_is held =
          let r = far.ran start state told_is held in
          let done : busy_at at r.left ≡ false = idle_now (length start) (slice_get r.left.hosts at)
          (subst (λ (o : Option HostView). HostStandsAt (length start) (slice_get r.left.hosts at) o) last_is (r.held.stands at)) in
          row_kept start state a.world held c lines (modelled state.memory told_is) at view number free view_is b.world b.media.image far.adds.notes
          r.left (λ x. x) (record { count = count; does = r.does; done = done }) tt r.told_is far.adds.joined r.held.stands

      finish_call : MediaCall c lines None media a.world b.world
      finish_call = record {
        answers = record {
          adds = far.adds;
          said = far.said;
          refused = λ cause is. not_both (refusal_in c a.world lines) cause _ free is;
          free = λ cause first e. absurd cc;
          shape = λ is. hosted_shape c lines a.world tt at view number view_is free far.adds.notes (λ f. record { operations = far.shape is; done = shape_done is }) (λ x. x) is;
        };
        keeps = finish_keeps;
      }

    -- no memory was left, and the task runs on
    module _ (last : HostView) (last_is : slice_get b.world.hosts at ≡ Some last) (runs : is_some last.task ≡ true) where
      some_runs : (me : List ℕ) (t : Option Task) (o : Option TaskShape) → is_some t ≡ true → TaskShaped me t o → is_some o ≡ true
      some_runs me None o runs is = absurd cc
      some_runs me (Some t) None runs is = absurd is
      some_runs me (Some t) (Some f) runs is = refl

      shape_runs : IsShaped a.world → runs_shape (slice_get (shapes_behind (shapes_of a.world.journal) far.adds.notes) at) ≡ true
      shape_runs is =
          let f = pairs_at HostShaped b.world.hosts (shapes_of b.world.journal) at last (far.adds.shaped is) last_is in
          ap (λ (fs : List HostShape). runs_shape (slice_get fs at)) shapes_then ∙ ap runs_shape f.1 ∙ some_runs last.uuid last.task f.0.task runs f.2.task

      busy_now : (lines : ℕ) (o : Option HostState) → HostStandsAt lines o (Some last) → is_busy_host o ≡ true
      busy_now lines None stands = absurd stands
      busy_now lines (Some s) stands = has_task s.task last.task runs stands.task
        where
          has_task : (s : Option TaskState) (t : Option Task) → is_some t ≡ true → TaskStands lines s t → is_some s ≡ true
          has_task s None runs stands = absurd cc
          has_task None (Some t) runs stands = absurd stands
          has_task (Some s) (Some t) runs stands = refl

      runs_in : busy_in at b.world ≡ true
      runs_in = ap is_busy_host (map_at shown_host b.world.hosts at last last_is) ∙ shown_busy last.task ∙ runs
        where
          shown_busy : (o : Option Task) → is_some (shown_task o) ≡ is_some o
          shown_busy None = refl
          shown_busy (Some t) = refl

      finish_wants : busy_in at a.world ≡ true → (IsUnstoredAt at a.world → IfModelled a.media.image (λ image. b.media.image ≡ Some image)) → FinishOutOfMemory name lines media a.world b.world
      finish_wants before same = record {
        adds = far.adds;
        shape = λ is. inr record { host = at; number = sym (number_shaped lines a.world is name) ∙ number; part = record { operations = far.shape is; runs = shape_runs is } };
        parts = λ start state told_is held.
            let r = far.ran start state told_is held in
            let busy : busy_at at r.left ≡ true = busy_now (length start) (slice_get r.left.hosts at)
            (subst (λ (o : Option HostView). HostStandsAt (length start) (slice_get r.left.hosts at) o) last_is (r.held.stands at)) in
            record {
              state = r.left;
              notes = far.adds.notes;
              row = inl record { host = at; number = number_shown (length start) state a.world name held.stands ∙ number; does = record { count = count; does = r.does; runs = busy } };
              told_is = r.told_is;
              joined = far.adds.joined;
              held = r.held;
            };
        runs = λ h is. subst (λ (k : ℕ). busy_in k b.world ≡ busy_in k a.world) (same_Some at h (sym number ∙ is)) (runs_in ∙ sym before);
        same = λ h is. subst (λ (k : ℕ). IsUnstoredAt k a.world → IfModelled a.media.image (λ image. b.media.image ≡ Some image)) (same_Some at h (sym number ∙ is)) same;
      }

  -- From what the call knows.
  module _ (number : number_in name a.world ≡ Some at) (free : refusal_in (call.Steps name) a.world lines ≡ None) (within : at < length a.world.hosts)
      (modelled : IfModelled a.media.image (λ image. length image ≡ lines)) where
    abbrev first : (view : HostView) × (slice_get a.world.hosts at ≡ Some view)
    first = member_of a.world.hosts at within

    abbrev final : (view : HostView) × (slice_get b.world.hosts at ≡ Some view)
    final = member_of b.world.hosts at (subst (λ (n : ℕ). at < n) (sym count_now) within)

    pub finish_done : ((view : HostView) → slice_get b.world.hosts at ≡ Some view → view.task ≡ None) → MediaCall (call.Finishes name) lines None media a.world b.world
    finish_done none_left = finish_call first.0 number first.1 (finishes_as_steps name a.world lines None free) modelled final.0 final.1 (none_left final.0 final.1)

    pub finish_lacks : ((view : HostView) → slice_get b.world.hosts at ≡ Some view → is_some view.task ≡ true)
        → (IsUnstoredAt at a.world → IfModelled a.media.image (λ image. b.media.image ≡ Some image))
        → FinishOutOfMemory name lines media a.world b.world
    finish_lacks runs same =
        let before : busy_in at a.world ≡ true = busy_of (busy_in at a.world) (sym (steps_first a.world.hosts a.world.journal name lines (Some at) number) ∙ free) in
        finish_wants first.0 number first.1 (finishes_as_steps name a.world lines None free) modelled final.0 final.1 (runs final.0 final.1) before same

-- not even for the note of a refusal
pub finish_nothing : (name : List ℕ) (lines : ℕ) (told : Option Image) (faults : ℕ) (old : WorldView) → FinishOutOfMemory name lines (media_change told faults told faults) old old
finish_nothing name lines told faults old = record {
  adds = adds_none lines faults old;
  shape = λ is. inl refl;
  parts = λ start state told_is held. record { state = state; notes = []; row = inr (refl, refl); told_is = told_is; joined = sym (append-nil old.journal); held = held };
  runs = λ h is. refl;
  same = λ h is unstored. λ image told_is. told_is;
}

-- a host that was written
pub view_set : (items : List Host) (at : ℕ) (x y : Host) → slice_get items at ≡ Some x → slice_get (views (set items at y)) at ≡ Some (host_view y)
view_set items at x y is =
    ap (λ (vs : List HostView). slice_get vs at) (map_set host_view (λ v. host_view y) items at y x is refl)
    ∙ changed_at_member at (λ v. host_view y) (views items) (host_view x) (map_at host_view items at x is)
