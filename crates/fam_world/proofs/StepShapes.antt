-- The shape of a media fault in a step.
use Rattle.std.proofs.Common.{◌≡◌, ℕ, List, [], ◌∷◌, Option, Some, None, refl, sym, ◌∙◌, subst, arith}
use Rattle.std.specs.Prelude.{slice_get}
use Rattle.fam_commands.specs.Task.{Task}
use Rattle.fam_journal.specs.declared.refusal.Refusal.{Refusal}
use Rattle.fam_journal.specs.Calls as call
use Rattle.fam_journal.specs.Shapes.{ActsShape, AtShape, DoesShape, ShapeByRefusal, FreeShape, HostShape, HostShaped, IsShaped, OfHostShape, OfRunning, OfTask, OperationsShape, TaskShape, TaskShaped, TaskNote, shapes_of}
use Rattle.fam_journal.specs.Notes.{Answered, MediaFault, Note}
use Rattle.fam_journal.specs.View.{HostView, WorldView}
use Rattle.fam_journal.specs.ByWorld.{number_in, refusal_in}
use Rattle.fam_journal.proofs.Shapes.Pairs.{pairs_at}
use Rattle.fam_journal.proofs.Shapes.Views.{number_shaped, refusal_shaped}

module _ (name : List ℕ) (at lines : ℕ) (old : WorldView) (view : HostView) (t : Task) (number : number_in name old ≡ Some at)
    (free : refusal_in (call.Steps name) old lines ≡ None) (view_is : slice_get old.hosts at ≡ Some view) (runs : view.task ≡ Some t) (line : ℕ)
    (is : IsShaped old) where
  abbrev shapes : List HostShape
  shapes = shapes_of old.journal

  abbrev notes : List Note
  notes = Answered at (MediaFault line) ∷ []

  found : (f : HostShape) × (slice_get shapes at ≡ Some f) × HostShaped view f
  found = pairs_at HostShaped old.hosts shapes at view is view_is

  by_task : (f : HostShape) → slice_get shapes at ≡ Some f → (p : Option TaskShape) → f.task ≡ p → TaskShaped view.uuid (Some t) p
      → OfRunning (slice_get shapes at) (λ me g. TaskNote at me g (Answered at (MediaFault line)))
  by_task f f_is None e shaped = absurd shaped
  by_task f f_is (Some g) e shaped =
      subst (λ (o : Option HostShape). OfRunning o (λ me g. TaskNote at me g (Answered at (MediaFault line)))) (sym f_is)
      (subst (λ (o : Option TaskShape). OfTask o (λ g. TaskNote at f.uuid g (Answered at (MediaFault line)))) (sym e) (refl, tt))

  pub fault_operations : OperationsShape at shapes notes
  fault_operations = (by_task found.0 found.1 found.0.task refl (subst (λ (o : Option Task). TaskShaped view.uuid o found.0.task) runs found.2.task), tt)

  pub fault_shaped_step : DoesShape (call.Steps name) lines shapes notes
  fault_shaped_step =
      subst (λ (o : Option Refusal). ShapeByRefusal name o notes (FreeShape (call.Steps name) lines shapes notes)) (sym (sym (refusal_shaped lines old is (call.Steps name) tt) ∙ free))
      (subst (λ (o : Option ℕ). AtShape o shapes (λ h f. ActsShape (call.Steps name) h f lines shapes notes)) (sym (sym (number_shaped lines old is name) ∙ number))
      (subst (λ (o : Option HostShape). OfHostShape o (λ f. ActsShape (call.Steps name) at f lines shapes notes)) (sym found.1) (fault_operations, omega arith)))
