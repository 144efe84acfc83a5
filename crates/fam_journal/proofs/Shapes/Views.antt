-- What an operation of a world's own task adds has the shape of a step, whatever word it gave; and the world's hosts are what
-- its journal tells again.
use Rattle.std.proofs.Common.{◌≡◌, ℕ, ◌≤◌, List, [], ◌∷◌, ◌++◌, length, map, Option, Some, None, refl, sym, ◌∙◌, ap, ap₂, subst, arith}
use Rattle.std.specs.Prelude.{slice_get, is_some, option_map}
use Rattle.fam_base.specs.declared.cmd.Cmd.{Cmd}
use Rattle.fam_machine.specs.Caches.{Cache}
use Rattle.fam_commands.specs.Keeping.{kept_after}
use Rattle.fam_commands.specs.Stands.{note_of, task_after, turn_given}
use Rattle.fam_commands.specs.Task.{Task}
use Rattle.fam_commands.specs.Turns.{Turn, Goes, Marks, Finds, Writes, Ends}
use Rattle.fam_commands.specs.Appends.{HasWish}
use Rattle.fam_rules.specs.Reply.{Reply}
use Rattle.fam_journal.specs.declared.refusal.Refusal.{Refusal}
use Rattle.fam_journal.specs.Calls as call
use Rattle.fam_journal.specs.Calls.{Call, number_of, refusal_of}
use Rattle.fam_journal.specs.Shapes.{AtShape, DoesShape, EntryShape, ShapeByRefusal, FreeShape, HostShape, HostShaped, IsShaped, IsTaskShape, Marked, Met, Named, OfHostShape, OfRunning, OfTask, OperationsShape, Pairs, ReplyShape, CommandStage, TaskShape, TaskShaped, TaskNote, ActsShape, shapes_behind, shapes_of, keeps_behind, shown_shape, shown_shapes, shown_running, stage_of, with_stage}
use Rattle.fam_journal.specs.Machines.{notes_of}
use Rattle.fam_journal.specs.Members.{changed_at}
use Rattle.fam_journal.specs.Notes as note
use Rattle.fam_journal.specs.Notes.{Note}
use Rattle.fam_journal.specs.View.{HostView, WorldView}
use Rattle.fam_journal.specs.ByWorld.{number_in, refusal_in, shown_host, shown_state, shown_task}
use Rattle.fam_journal.proofs.Shapes.Operations.{shapes_both, keeps_some, keeps_turned, shown_keeps}
use Rattle.fam_journal.proofs.Faces.{IsNoMake, face, number_same, refusal_looks}
use Rattle.fam_journal.proofs.Shapes.Pairs.{pairs_at, pairs_changed, pairs_moved}
use Rattle.fam_journal.proofs.Shapes.Tasks.{IsNext, TurnShape, turn_shape}

-- Refusals.

view_looks : (me : List ℕ) (t : Option Task) (f : Option TaskShape) → TaskShaped me t f → is_some (shown_task t) ≡ is_some (shown_running f)
view_looks me None None is = refl
view_looks me None (Some f) is = absurd is
view_looks me (Some t) None is = absurd is
view_looks me (Some t) (Some f) is = refl

face_looks : (v : HostView) (f : HostShape) → HostShaped v f → face (shown_host v) ≡ face (shown_shape f)
face_looks v f is = let busy = view_looks v.uuid v.task f.task is.task in let keeps = shown_keeps f.keeps in cc

-- the world's hosts show what its journal tells of them
pub views_look : (views : List HostView) (shapes : List HostShape) → Pairs HostShaped views shapes → map face (map shown_host views) ≡ map face (map shown_shape shapes)
views_look [] [] all = refl
views_look [] (f ∷ shapes) all = absurd all
views_look (v ∷ views) [] all = absurd all
views_look (v ∷ views) (f ∷ shapes) all = ap₂ (λ f fs. f ∷ fs) (face_looks v f all.0) (views_look views shapes all.1)

module _ (lines : ℕ) (world : WorldView) (is : IsShaped world) where
  -- the first refusal that the world has is the one that its journal tells
  pub refusal_shaped : (c : Call) → IsNoMake c → refusal_in c world lines ≡ refusal_of c (shown_shapes lines (shapes_of world.journal))
  refusal_shaped c other = refusal_looks (shown_state world lines) (shown_shapes lines (shapes_of world.journal)) (views_look world.hosts (shapes_of world.journal) is) refl c other

  pub number_shaped : (name : List ℕ) → number_of name (shown_state world lines) ≡ number_of name (shown_shapes lines (shapes_of world.journal))
  number_shaped name = number_same (shown_state world lines) (shown_shapes lines (shapes_of world.journal)) (views_look world.hosts (shapes_of world.journal) is) name

-- One operation.

module _ (world : WorldView) (is : IsShaped world) (h : ℕ) (view : HostView) (view_is : slice_get world.hosts h ≡ Some view) (t : Task) (runs : view.task ≡ Some t) (word : ℕ) (cache : Cache) where
  abbrev shapes : List HostShape
  shapes = shapes_of world.journal

  abbrev after : Turn → HostView → HostView
  after z v = record v { cache = cache; task = task_after z; kept = kept_after z t v.kept }

  module _ (f : HostShape) (f_is : slice_get shapes h ≡ Some f) (host : HostShaped view f) (g : TaskShape) (g_is : f.task ≡ Some g) (at : IsTaskShape view.uuid t g) where
    running : (note : Note) → TaskNote h f.uuid g note → OfRunning (slice_get shapes h) (λ me t. TaskNote h me t note)
    running note p =
        subst (λ (o : Option HostShape). OfRunning o (λ me t. TaskNote h me t note)) (sym f_is)
        (subst (λ (o : Option TaskShape). OfTask o (λ t. TaskNote h f.uuid t note)) (sym g_is) p)

    reply_shape : (given : Reply) → ReplyShape t.me t.cmd (stage_of t) given → ReplyShape f.uuid g.cmd g.stage given
    reply_shape given shape =
        subst (λ (me : List ℕ). ReplyShape me g.cmd g.stage given) (at.me_is ∙ sym host.uuid)
        (subst (λ (c : Cmd). ReplyShape t.me c g.stage given) (sym at.cmd)
        (subst (λ (s : CommandStage). ReplyShape t.me t.cmd s given) (sym at.stage) shape))

    keeps_told : (z : Turn) → keeps_turned z f.keeps ≡ is_some (kept_after z t view.kept)
    keeps_told z = ap (keeps_turned z) host.keeps ∙ sym (keeps_some z t view.kept)

    goes_on : (n : Task) (stage : CommandStage) → IsNext t.me t.cmd stage n → IsTaskShape view.uuid n (record { cmd = g.cmd; stage = stage })
    goes_on n stage next = record { cmd = at.cmd ∙ sym next.cmd_is; me_is = next.me_is ∙ at.me_is; stage = sym next.stage_is }

    staged : (z : Turn) (n : Task) (stage : CommandStage) → task_after z ≡ Some n → IsNext t.me t.cmd stage n
        → f.keeps ≡ is_some (kept_after z t view.kept)
        → Pairs HostShaped (changed_at h (after z) world.hosts) (changed_at h (with_stage stage) shapes)
    staged z n stage goes next told =
        pairs_changed HostShaped world.hosts shapes h view f (after z) (with_stage stage) is view_is f_is
        record {
          name = host.name;
          uuid = host.uuid;
          task = subst (λ (o : Option Task). TaskShaped view.uuid o (with_stage stage f).task) (sym goes)
              (subst (λ (o : Option TaskShape). TaskShaped view.uuid (Some n) (option_map (λ (y : TaskShape). record y { stage = stage }) o)) (sym g_is) (goes_on n stage next));
          keeps = told;
        }

    turned : (z : Turn) → TurnShape t.me t.cmd (stage_of t) z → OperationsShape h shapes (notes_of h (note_of z))
        × Pairs HostShaped (changed_at h (after z) world.hosts) (shapes_behind shapes (notes_of h (note_of z)))
    turned (Goes n) next = (
      tt,
      pairs_moved HostShaped world.hosts shapes h view f (after (Goes n)) is view_is f_is
          record {
            name = host.name;
            uuid = host.uuid;
            task = subst (λ (o : Option TaskShape). TaskShaped view.uuid (Some n) o)
                (sym (g_is ∙ ap (λ (s : CommandStage). Some (record { cmd = g.cmd; stage = s })) at.stage)) (goes_on n (stage_of t) next);
            keeps = keeps_told (Goes n);
          },
    )
    turned (Marks n) next = ((running (note.Mark h) (refl, at.stage ∙ next.0), tt), staged (Marks n) n Marked refl next.1 (keeps_told (Marks n)))
    turned (Finds k n) next = ((running (note.Found h k) (refl, subst HasWish (sym at.cmd) next.0, at.stage ∙ next.1), tt), staged (Finds k n) n (Met k) refl next.2 (keeps_told (Finds k n)))
    turned (Writes seq entry n) next = (
      (running (note.Writes h seq entry) (refl, subst (λ (c : Cmd). EntryShape c entry) (sym at.cmd) next.0, at.stage ∙ next.1), tt),
      staged (Writes seq entry n) n (Named seq) refl next.2 (keeps_told (Writes seq entry n)),
    )
    turned (Ends given) next = (
      (running (note.Answered h (note.Replied given)) (refl, reply_shape given next), tt),
      pairs_changed HostShaped world.hosts shapes h view f (after (Ends given))
          (λ z. record z { task = None; keeps = keeps_behind (note.Replied given) z.keeps }) is view_is f_is
          record { name = host.name; uuid = host.uuid; task = tt; keeps = keeps_told (Ends given) },
    )

  by_task : (f : HostShape) → slice_get shapes h ≡ Some f → HostShaped view f → (p : Option TaskShape) → f.task ≡ p → TaskShaped view.uuid (Some t) p
      → OperationsShape h shapes (notes_of h (note_of (turn_given t word))) × Pairs HostShaped (changed_at h (after (turn_given t word)) world.hosts)
      (shapes_behind shapes (notes_of h (note_of (turn_given t word))))
  by_task f f_is host None e at = absurd at
  by_task f f_is host (Some g) e at = turned f f_is host g e at (turn_given t word) (turn_shape t word)

  found : (f : HostShape) × (slice_get shapes h ≡ Some f) × HostShaped view f
  found = pairs_at HostShaped world.hosts shapes h view is view_is

  both : OperationsShape h shapes (notes_of h (note_of (turn_given t word))) × Pairs HostShaped (changed_at h (after (turn_given t word)) world.hosts)
      (shapes_behind shapes (notes_of h (note_of (turn_given t word))))
  both = by_task found.0 found.1 found.2 found.0.task refl (subst (λ (o : Option Task). TaskShaped view.uuid o found.0.task) runs found.2.task)

  short : (n : _) → length (notes_of h (note_of n)) ≤ 1
  short (Goes n) = omega arith
  short e = omega arith

  -- the world again
  pub world_shaped : IsShaped (record {
    hosts =
        changed_at h (λ v. record v { cache = cache; task = task_after (turn_given t word); kept = kept_after (turn_given t word) t v.kept })
        world.hosts;
    journal = world.journal ++ notes_of h (note_of (turn_given t word));
  })
  world_shaped =
      subst (λ (z : List HostShape). Pairs HostShaped (changed_at h (after (turn_given t word)) world.hosts) z) (sym (shapes_both [] world.journal (notes_of h (note_of (turn_given t word))))) both.1

  -- the notes
  pub step_shaped : (lines : ℕ) (name : List ℕ) → number_in name world ≡ Some h → refusal_in (call.Steps name) world lines ≡ None
      → DoesShape (call.Steps name) lines shapes (notes_of h (note_of (turn_given t word)))
  step_shaped lines name number free =
      let notes = notes_of h (note_of (turn_given t word)) in
      subst (λ (o : Option Refusal). ShapeByRefusal name o notes (FreeShape (call.Steps name) lines shapes notes)) (sym (sym (refusal_shaped lines world is (call.Steps name) tt) ∙ free))
      (subst (λ (o : Option ℕ). AtShape o shapes (λ h f. ActsShape (call.Steps name) h f lines shapes notes)) (sym (sym (number_shaped lines world is name) ∙ number))
      (subst (λ (o : Option HostShape). OfHostShape o (λ f. ActsShape (call.Steps name) h f lines shapes notes)) (sym found.1) (both.0, short (turn_given t word))))
