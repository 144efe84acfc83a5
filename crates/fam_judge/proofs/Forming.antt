-- What a running command gives next has the form of the tables.
use Rattle.std.proofs.Common.{◌≡◌, ℕ, Bool, true, List, [], ◌∷◌, Option, Some, None, ap, sym, ◌∙◌, subst, arith}
use Rattle.std.specs.Prelude.{slice_get, is_some, not, option_map}
use Rattle.std.proofs.lemmas.Option.{slice_get-map}
use Rattle.fam_journal.specs.declared.refusal.Refusal.{Refusal}
use Rattle.fam_journal.specs.declared.refusal.Refusal.TheVariants as why
use Rattle.fam_journal.specs.declared.event.Event.TheVariants as event
use Rattle.fam_journal.specs.Calls.{busy_at, idle_refusal, is_busy_host, number_of, on_host, when}
use Rattle.fam_journal.specs.EventShapes.{StepsShape}
use Rattle.fam_journal.specs.Notes.{Note, Mark, Found, Writes, Answered}
use Rattle.fam_journal.specs.Shapes.{HostShape, OfRunning, OfTask, OperationsShape, ShapeByRefusal, TaskNote, TaskShape, shown_running, shown_shape, shown_shapes}
use Rattle.fam_judge.specs.Formed.{IsFormedNote, HasPlace, IsSoundNote}

-- a running command begins no other
task_sound : (h : ℕ) (me : List ℕ) (t : TaskShape) (note : Note) → TaskNote h me t note → IsSoundNote note
task_sound h me t (Mark host) is = tt
task_sound h me t (Found host n) is = tt
task_sound h me t (Writes host seq entry) is = tt
task_sound h me t (Answered host answer) is = tt
task_sound h me t note is = absurd is

module _ (lines : ℕ) (hosts : List HostShape) (name : List ℕ) (h : ℕ) (host : HostShape) (t : TaskShape)
    (number : number_of name (shown_shapes lines hosts) ≡ Some h) (declared : slice_get hosts h ≡ Some host) (runs : host.task ≡ Some t) where
  busy : busy_at h (shown_shapes lines hosts) ≡ true
  busy =
      ap is_busy_host (slice_get-map shown_shape hosts h ∙ ap (option_map shown_shape) declared)
      ∙ ap (λ (o : Option TaskShape). is_some (shown_running o)) runs

  none : on_host (number_of name (shown_shapes lines hosts)) (λ k. idle_refusal k (shown_shapes lines hosts)) ≡ None
  none =
      ap (λ (o : Option ℕ). on_host o (λ k. idle_refusal k (shown_shapes lines hosts))) number
      ∙ ap (λ (b : Bool). when (not b) why.Idle) busy

  module _ (note : Note) (is : TaskNote h host.uuid t note) (placed : HasPlace hosts note) where
    operations : OperationsShape h hosts (note ∷ [])
    operations = (
      subst (λ (o : Option HostShape). OfRunning o (λ me u. TaskNote h me u note)) (sym declared)
          (subst (λ (o : Option TaskShape). OfTask o (λ u. TaskNote h host.uuid u note)) (sym runs) is),
      tt,
    )

    steps : StepsShape 1 name lines hosts (note ∷ [])
    steps = record { host = h; number = number; operations = operations; within = omega arith }

    -- a step gives the note
    pub task_formed : IsFormedNote lines hosts note
    task_formed = record {
      event = event.Step name 1;
      valid = tt;
      shape = subst (λ (o : Option Refusal). ShapeByRefusal name o (note ∷ []) (StepsShape 1 name lines hosts (note ∷ []))) (sym none) steps;
      sound = task_sound h host.uuid t note is;
      placed = placed;
    }
