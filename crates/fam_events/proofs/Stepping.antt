-- Operations of a host's task, one behind another, as an event of steps.
use Prim.Native.Nat.{zero, suc}
use Rattle.std.proofs.Common.{◌≡◌, ◌⊎◌, ℕ, ◌≤◌, inl, inr, Bool, true, false, List, [], ◌∷◌, ◌++◌, length, Option, Some, None, refl, ap, sym, ◌∙◌, subst, arith}
use Rattle.std.specs.Prelude.{not, slice_get}
use Rattle.std.proofs.lemmas.Option.{same_Some}
use Rattle.fam_base.specs.Image.{Image}
use Rattle.fam_media.specs.Outside.{IfModelled}
use Rattle.fam_media.specs.States.{media_change}
use Rattle.fam_journal.specs.declared.event.Event.TheVariants.{Step}
use Rattle.fam_journal.specs.declared.refusal.Refusal.{Refusal}
use Rattle.fam_journal.specs.Calls as call
use Rattle.fam_journal.specs.Calls.{Acts, ByRefusal, Does, DoesOperations, busy_at, idle_refusal, number_of, on_host, refusal_of}
use Rattle.fam_journal.specs.CallRecords.{FitsMedia, StepCall}
use Rattle.fam_journal.specs.EventShapes.{EventShape, StepsShape}
use Rattle.fam_journal.specs.Shapes.{ShapeByRefusal, HostShape, IsShaped, shapes_behind, shapes_of, runs_shape, shown_shapes}
use Rattle.fam_journal.specs.Kept.{Held}
use Rattle.fam_journal.specs.Machines.{Machines}
use Rattle.fam_journal.specs.Names.{AreNamed}
use Rattle.fam_journal.specs.Notes.{Note, Refused}
use Rattle.fam_journal.specs.View.{WorldView}
use Rattle.fam_journal.specs.ByWorld.{number_in, refusal_in}
use Rattle.fam_journal.proofs.Calls.Shown.{number_shown}
use Rattle.fam_journal.proofs.Growth.{count_same}
use Rattle.fam_journal.proofs.Shapes.Operations.{shapes_both}
use Rattle.fam_journal.proofs.Shapes.Running.{busy_is, free_runs}
use Rattle.fam_journal.proofs.Shapes.Views.{number_shaped, refusal_shaped}
use Rattle.fam_world.specs.Counted.{WorldStanding}
use Rattle.fam_world.specs.Finishes.{SoFar}
use Rattle.fam_world.proofs.Rows.{first_refusal}
use Rattle.fam_events.specs.WorldChange.{WorldChange, session}
use Rattle.fam_events.specs.Happens.{EventDone, EventPart, ShapeOfPart, IsPart}
use Rattle.fam_events.specs.Steps.{IsStill}
use Rattle.fam_events.proofs.OverMedia.{added}
use Rattle.fam_events.proofs.WithoutMedia.{still_adds, still_keeps}

-- operations of an idle host are none
pub operations_idle : (h k limit : ℕ) (old : Machines) (notes : List Note) (mid : Machines) → k ≤ limit → DoesOperations h k old notes mid
    → busy_at h mid ≡ false → DoesOperations h limit old notes mid
operations_idle h zero zero old notes mid within does idle = does
operations_idle h zero (suc limit) old notes mid within does idle = inl (subst (λ (m : Machines). busy_at h m ≡ false) does.1 idle, does.0, does.1)
operations_idle h (suc k) zero old notes mid within does idle = absurd (omega (arith, within))
operations_idle h (suc k) (suc limit) old notes mid within (inl x) idle = inl x
operations_idle h (suc k) (suc limit) old notes mid within (inr x) idle = inr (x.0, x.1, x.2, x.3, x.4, operations_idle h k limit x.1 x.3 mid (omega (arith, within)) x.5 idle, x.6)

-- a step from a world to the next
abbrev pub next_of : WorldChange → WorldView → Option Image → ℕ → WorldChange
next_of a new told faults = record a { new = new; media = record { old = a.media.old; new = record { image = told; faults = faults } } }

module _ (name : List ℕ) (a : WorldChange) (shaped : IsShaped a.old) (fits : FitsMedia a.lines a.old.hosts) where
  abbrev shapes : List HostShape
  shapes = shapes_of a.old.journal

  -- before and behind them
  abbrev pub first_standing : WorldStanding
  first_standing = record { world = a.old; media = a.media.old }

  abbrev pub last_standing : WorldStanding
  last_standing = record { world = a.new; media = a.media.new }

  -- so many operations of a host that had a task
  module _ (at count : ℕ) (over : Bool) (number : number_in name a.old ≡ Some at) (free : refusal_in (call.Steps name) a.old a.lines ≡ None)
      (s : SoFar at a.lines count over first_standing last_standing) (modelled : IfModelled a.media.old.image (λ image. length image ≡ a.lines)) where
    abbrev notes : List Note
    notes = s.adds.notes

    shapes_last : shapes_of a.new.journal ≡ shapes_behind shapes notes
    shapes_last = ap shapes_of s.adds.joined ∙ shapes_both [] a.old.journal notes

    runs_last : runs_shape (slice_get (shapes_of a.new.journal) at) ≡ not over
    runs_last =
        let r = free_runs a.lines a.old shaped name free in
        s.runs shaped (subst (λ (h : ℕ). runs_shape (slice_get shapes h) ≡ true) (same_Some r.0 at (sym r.1 ∙ number)) r.2)

    number_told : number_of name (shown_shapes a.lines shapes) ≡ Some at
    number_told = sym (number_shaped a.lines a.old shaped name) ∙ number

    steps_shape : (limit : ℕ) → count ≤ limit → StepsShape limit name a.lines shapes notes
    steps_shape limit most = record { host = at; number = number_told; operations = s.shape shaped; within = let few = s.within shaped in omega (arith, few, most) }

    -- on the machine
    busy_last : (start : Image) (last : Machines) → Held start last a.new last.memory → busy_at at last ≡ not over
    busy_last start last held = busy_is start last a.new held (s.adds.shaped shaped) at ∙ runs_last

    told_free : on_host (number_of name (shown_shapes a.lines shapes)) (λ h. idle_refusal h (shown_shapes a.lines shapes)) ≡ None
    unfolding refusal_of
    told_free = sym (refusal_shaped a.lines a.old shaped (call.Steps name) tt) ∙ free

    module _ (start : Image) (state : Machines) (told_is : a.media.old.image ≡ Some state.memory) (held : Held start state a.old state.memory) where
      number_is : number_of name state ≡ Some at
      number_is = number_shown (length start) state a.old name held.stands ∙ number

      not_idle : idle_refusal at state ≡ None
      unfolding refusal_of
      not_idle =
          sym (ap (λ (o : Option ℕ). on_host o (λ h. idle_refusal h state)) number_is)
          ∙ first_refusal start state a.old held (call.Steps name) a.lines (modelled state.memory told_is)
          ∙ free

    -- memory ran out behind these, and the task runs on
    pub part_event : (limit : ℕ) → count ≤ limit → over ≡ false → EventPart (Step name limit) a
    part_event limit most on = record {
      adds = added (call.Steps name) a shaped fits (ShapeOfPart (Step name limit)) s.adds
          (inr (
            record {
              host = at;
              number = number_told;
              part =
                  record {
                    operations = s.shape shaped;
                    runs = ap (λ (fs : List HostShape). runs_shape (slice_get fs at)) (sym shapes_last) ∙ runs_last
                        ∙ ap not on;
                  };
            },
            (steps_shape limit most).within,
          ));
      keeps = λ start files state files_are told_is held.
          let r = s.ran start state told_is held in
          record {
            comes = record {
              last = session r.left a.copied;
              notes = notes;
              does = inr record {
                host = at;
                number = number_is start state told_is held;
                busy = not_idle start state told_is held;
                does = record { does = record { count = count; does = r.does; runs = busy_last start r.left r.held ∙ ap not on }; within = most };
                copied = refl;
              };
              told_is = r.told_is;
              joined = s.adds.joined;
            };
            held = r.held;
          };
    }

    -- as many as were wanted, or fewer up to the answer
    pub done_event : (limit : ℕ) → count ≤ limit → (count ≡ limit) ⊎ (over ≡ true) → a.copied_now ≡ a.copied → EventDone (Step name limit) a
    done_event limit most whole copied = record {
      adds = added (call.Steps name) a shaped fits (EventShape (Step name limit)) s.adds
          (subst (λ (o : Option Refusal). ShapeByRefusal name o notes (StepsShape limit name a.lines shapes notes)) (sym told_free) (steps_shape limit most));
      keeps = λ start files state files_are told_is held.
          let r = s.ran start state told_is held in
          record {
            comes = record {
              last = session r.left a.copied;
              notes = notes;
              does = (
                inl record {
                  host = at;
                  number = number_is start state told_is held;
                  busy = not_idle start state told_is held;
                  does =
                      all_of state r.left r.does (λ is. busy_last start r.left r.held ∙ ap not is);
                  copied = refl;
                },
                sym copied,
              );
              told_is = r.told_is;
              joined = s.adds.joined;
            };
            held = r.held;
          };
    }
      where
        all_by : (state left : Machines) → DoesOperations at count state notes left → (over ≡ true → busy_at at left ≡ false)
            → (count ≡ limit) ⊎ (over ≡ true) → DoesOperations at limit state notes left
        all_by state left does idle (inl same) = subst (λ (n : ℕ). DoesOperations at n state notes left) same does
        all_by state left does idle (inr is) = operations_idle at count limit state notes left most does (idle is)

        all_of : (state left : Machines) → DoesOperations at count state notes left → (over ≡ true → busy_at at left ≡ false) → DoesOperations at limit state notes left
        all_of state left does idle = all_by state left does idle whole

  -- no memory was left for the first one
  pub none_done : (limit : ℕ) → IsStill a → EventPart (Step name limit) a
  none_done limit still = record {
    adds = still_adds a still (ShapeOfPart (Step name limit)) shaped fits (inl refl);
    keeps = still_keeps a still (IsPart (Step name limit)) (λ files start state files_are told_is held. inl (refl, refl));
  }

  -- it was refused at once
  module _ (cause : Refusal) (new : WorldView) (told : Option Image) (faults : ℕ) (still : IsStill a)
      (w : StepCall name a.lines (Some cause) false (media_change a.media.new.image a.media.new.faults told faults) a.new new)
      (modelled : IfModelled a.media.old.image (λ image. length image ≡ a.lines)) (limit : ℕ) where
    first_cause : (own : Refusal) × (refusal_in (call.Steps name) a.new a.lines ≡ Some own)
    first_cause = go (refusal_in (call.Steps name) a.new a.lines) refl
      where
        go : (o : Option Refusal) → refusal_in (call.Steps name) a.new a.lines ≡ o → (own : Refusal) × (refusal_in (call.Steps name) a.new a.lines ≡ Some own)
        go None is = absurd (w.answers.answers.free cause is refl)
        go (Some own) is = (own, is)

    abbrev own : Refusal
    own = first_cause.0

    old_first : refusal_in (call.Steps name) a.old a.lines ≡ Some own
    old_first = subst (λ (z : WorldView). refusal_in (call.Steps name) z a.lines ≡ Some own) still.world first_cause.1

    told_first : on_host (number_of name (shown_shapes a.lines shapes)) (λ h. idle_refusal h (shown_shapes a.lines shapes)) ≡ Some own
    unfolding refusal_of
    told_first = sym (refusal_shaped a.lines a.old shaped (call.Steps name) tt) ∙ old_first

    abbrev b : WorldChange
    b = next_of a new told faults

    refused_row : (state : Machines) (notes : List Note) (left : Machines) → refusal_of (call.Steps name) state ≡ Some own
        → Does (call.Steps name) state notes left → (notes ≡ Refused name own ∷ []) × (left ≡ state)
    refused_row state notes left is row = subst (λ (o : Option Refusal). ByRefusal name o notes state left (Acts (call.Steps name) state notes left)) is row

    state_first : (state : Machines) → refusal_of (call.Steps name) state ≡ Some own → on_host (number_of name state) (λ h. idle_refusal h state) ≡ Some own
    unfolding refusal_of
    state_first state is = is

    pub refused_event : a.copied_now ≡ a.copied → EventDone (Step name limit) b
    refused_event copied =
        let adds = w.answers.answers.adds in
        let notes_are = (w.answers.answers.refused own first_cause.1).0 in
        record {
          adds = record {
            notes = adds.notes;
            joined = adds.joined ∙ ap (λ (z : WorldView). z.journal ++ adds.notes) still.world;
            named = subst (λ (n : ℕ). AreNamed n adds.notes) (count_same new.hosts a.new.hosts adds.hosts ∙ ap (λ (z : WorldView). length z.hosts) still.world) adds.named;
            counted = let same = still.count in let x = adds.counted in omega (arith, x, same);
            later = let same = still.count in let x = adds.later in omega (arith, x, same);
            fits = adds.fits (subst (λ (z : WorldView). FitsMedia a.lines z.hosts) (sym still.world) fits);
            shaped = adds.shaped (subst IsShaped (sym still.world) shaped);
            shape = subst (λ (o : Option Refusal). ShapeByRefusal name o adds.notes (StepsShape limit name a.lines shapes adds.notes)) (sym told_first) notes_are;
          };
          keeps = λ start files state files_are told_is held.
              let here : Held start state a.new state.memory = subst (λ (z : WorldView). Held start state z state.memory) (sym still.world) held in
              let d = w.keeps start state (still.media ∙ told_is) here in
              let is : refusal_of (call.Steps name) state ≡ Some own = first_refusal start state a.old held (call.Steps name) a.lines (modelled state.memory told_is) ∙ old_first in
              let r = refused_row state d.notes d.state is d.row in
              record {
                comes = record {
                  last = session d.state a.copied;
                  notes = d.notes;
                  does = (inr record { cause = own; first = state_first state is; notes_are = r.0; same = ap (λ (m : Machines). session m a.copied) r.1 }, sym copied);
                  told_is = d.told_is;
                  joined = d.joined ∙ ap (λ (z : WorldView). z.journal ++ d.notes) still.world;
                };
                held = d.held;
              };
        }
