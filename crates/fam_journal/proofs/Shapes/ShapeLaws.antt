-- The laws of shapes, from what stands below.
use Prim.Native.Nat.{suc}
use Rattle.std.proofs.Common.{◌≡◌, inl, inr, ℕ, List, [], ◌∷◌, length, Option, Some, None, refl, ap, sym, ◌∙◌, subst}
use Rattle.std.specs.Prelude.{slice_get, is_some}
use Rattle.fam_base.specs.Image.{Image}
use Rattle.fam_media.specs.Files.{Files}
use Rattle.fam_commands.specs.Kept.{IsKept, Kept}
use Rattle.fam_commands.specs.Task.{Task}
use Rattle.fam_journal.specs.declared.event.Event.{Event}
use Rattle.fam_journal.specs.Calls as call
use Rattle.fam_journal.specs.Calls.{AtNumber, CutCall, Call, CutsAt, Does, OnHost, number_of, asked_name}
use Rattle.fam_journal.specs.CallRecords.{DoesPart}
use Rattle.fam_journal.specs.Ends.{Ending, EventsDone}
use Rattle.fam_journal.specs.EventShapes.{EndsShape, FollowsShape}
use Rattle.fam_journal.specs.Events.{Session, first_session}
use Rattle.fam_journal.specs.Follows.{Follows}
use Rattle.fam_journal.specs.Shapes.{AreShaped, BreaksShape, DoesShape, HostShape, HostShaped, IsShaped, IsTaskShape, Pairs, PartShape, StateShaped, StateTaskShaped, TaskShape, TaskShaped, shapes_behind, shapes_of}
use Rattle.fam_journal.specs.Machines.{HostState, Machines, TaskState}
use Rattle.fam_journal.specs.Notes.{Note}
use Rattle.fam_journal.specs.View.{HostStands, HostView, HostStandsAt, TaskStands, WorldStands, WorldView}
use Rattle.fam_journal.proofs.Shapes.EventRows.{ends_shape, follows_shape}
use Rattle.fam_journal.proofs.Shapes.Rows.{breaks_shape, does_shape, number_told, unfinished_shape}

-- A state that a world stands for, whose hosts are what its journal tells.

task_shaped : (lines : ℕ) (mine own : List ℕ) → mine ≡ own → (s : Option TaskState) (t : Option Task) (f : Option TaskShape) → TaskStands lines s t
    → TaskShaped own t f → StateTaskShaped lines mine s f
task_shaped lines mine own e None None None stands is = tt
task_shaped lines mine own e None None (Some f) stands is = absurd is
task_shaped lines mine own e None (Some t) f stands is = absurd stands
task_shaped lines mine own e (Some s) None f stands is = absurd stands
task_shaped lines mine own e (Some s) (Some t) None stands is = absurd is
task_shaped lines mine own e (Some s) (Some t) (Some f) stands is = record { task = t; stands = stands; is = subst (λ (me : List ℕ). IsTaskShape me t f) (sym e) is }

host_shaped : (lines : ℕ) (state : HostState) (view : HostView) (shape : HostShape) → HostStands lines state view → HostShaped view shape → StateShaped lines state shape
host_shaped lines state view shape stands is = record {
  name = is.name ∙ sym stands.name;
  uuid = is.uuid ∙ sym stands.uuid;
  task = task_shaped lines state.uuid view.uuid stands.uuid state.task view.task shape.task stands.task is.task;
  keeps = is.keeps ∙ ap (λ (k : Option Kept). is_some k) (sym stands.kept);
  joined = subst IsKept (sym stands.kept) stands.joined;
}

all_shaped : (lines : ℕ) (states : List HostState) (views : List HostView) (shapes : List HostShape)
    → ((h : ℕ) → HostStandsAt lines (slice_get states h) (slice_get views h)) → Pairs HostShaped views shapes
    → Pairs (StateShaped lines) states shapes
all_shaped lines [] [] [] stands all = tt
all_shaped lines [] [] (f ∷ shapes) stands all = absurd all
all_shaped lines [] (v ∷ views) shapes stands all = absurd (stands 0)
all_shaped lines (s ∷ states) [] shapes stands all = absurd (stands 0)
all_shaped lines (s ∷ states) (v ∷ views) [] stands all = absurd all
all_shaped lines (s ∷ states) (v ∷ views) (f ∷ shapes) stands all = (host_shaped lines s v f (stands 0) all.0, all_shaped lines states views shapes (λ h. stands (suc h)) all.1)

pub state_shaped : (state : Machines) (world : WorldView) → WorldStands (length state.memory) state world → IsShaped world → AreShaped (length state.memory) state (shapes_of world.journal)
state_shaped state world stands is = record { lines_are = refl; shaped = all_shaped (length state.memory) state.hosts world.hosts (shapes_of world.journal) stands is }

-- Calls.

module _ (lines : ℕ) (state left : Machines) (hosts : List HostShape) (notes : List Note) (shaped : AreShaped lines state hosts) where
  pub row_shape : (c : Call) → Does c state notes left → DoesShape c lines hosts notes × AreShaped lines left (shapes_behind hosts notes)
  row_shape c x = let r = does_shape lines state hosts shaped notes left c x in (r.shape, r.next)

  no_cut : (c : Call) → ((h : ℕ) (host : HostState) → CutsAt c h host state notes left → ⊥) → (o : Option ℕ) → AtNumber o state (λ h host. CutsAt c h host state notes left) → ⊥
  no_cut c none None x = x
  no_cut c none (Some h) x = at_host (slice_get state.hosts h) x
    where
      at_host : (o : Option HostState) → OnHost o (λ host. CutsAt c h host state notes left) → ⊥
      at_host None x = x
      at_host (Some host) x = none h host x

  pub cut_shape : (c : Call) → CutCall c state notes left → BreaksShape c lines hosts notes
  cut_shape (call.Makes name request) x = breaks_shape lines state hosts shaped notes left name request x
  cut_shape c x = absurd (no_cut c (λ h host z. z) (number_of (asked_name c) state) x.1)

  pub part_shape : (c : Call) → DoesPart c state notes left → PartShape c lines hosts notes
  part_shape (call.Finishes name) (inl x) =
      inr record { host = x.host; number = sym (number_told lines state hosts shaped name) ∙ x.number; part = (unfinished_shape lines state hosts shaped x.host notes left x.does).shape }
  part_shape (call.Finishes name) (inr x) = inl x.0
  part_shape e x = x.0

-- Runs.

module _ (files : Files) (events : List Event) (image : Image) (journal : List Note) (last : Session) where
  first_shaped : AreShaped (length image) (first_session image).machines []
  first_shaped = record { lines_are = refl; shaped = tt }

  pub run_shape : Follows files events (first_session image) journal last → FollowsShape (length image) events [] journal
  run_shape x = (follows_shape (length image) files events (first_session image) [] first_shaped journal last x).shape

  pub end_shape : (ending : Ending) → EventsDone ending files events (first_session image) journal last → EndsShape ending (length image) events [] journal
  end_shape ending x = ends_shape (length image) files events (first_session image) [] first_shaped journal last ending x
