-- A call that takes no media, as a part of an event.
use Rattle.std.proofs.Common.{◌≡◌, ℕ, inl, inr, List, [], ◌++◌, length, Option, Some, None, Result, Ok, Err, refl, ap, sym, ◌∙◌, subst, arith}
use Rattle.std.specs.Prelude.{IsErrOf}
use Rattle.std.proofs.lemmas.List.{append-nil}
use Rattle.fam_base.specs.Image.{Image}
use Rattle.fam_media.specs.Files.{Files}
use Rattle.fam_media.specs.Outside.{IfModelled}
use Rattle.fam_journal.specs.declared.refusal.Refusal.{Refusal}
use Rattle.fam_journal.specs.Calls as call
use Rattle.fam_journal.specs.Calls.{Call, Does}
use Rattle.fam_journal.specs.CallRecords.{DoesPart, DoesRow, FitsMedia, IsSoundCall, WorldCall}
use Rattle.fam_journal.specs.Shapes.{DoesShape, HostShape, IsShaped, PartShape, shapes_of}
use Rattle.fam_journal.specs.Kept.{Held}
use Rattle.fam_journal.specs.Machines.{Machines}
use Rattle.fam_journal.specs.Notes.{Note}
use Rattle.fam_journal.specs.View.{WorldStands, WorldView}
use Rattle.fam_journal.specs.ByWorld.{TakesNoMedia, world_after}
use Rattle.fam_journal.proofs.JournalLaws.{kept_on}
use Rattle.fam_journal.proofs.Calls.WorldRows.{row_done}
use Rattle.fam_journal.proofs.Shapes.WithoutMedia.{solo_shape}
use Rattle.fam_world.specs.Answers.{IfAnswered}
use Rattle.fam_world.specs.declared.fault.WorldFault.{WorldFault}
use Rattle.fam_world.specs.declared.fault.WorldFault.TheVariants as fault
use Rattle.fam_journal.proofs.Growth.{behind_same}
use Rattle.fam_world.proofs.Fits.{world_fits}
use Rattle.fam_events.specs.WorldChange.{AddsShape, WorldChange, ComesHeld, Told, asking, session, still}
use Rattle.fam_events.specs.Calls.{CallDone, CallPart, CallSays, CallsPart, outcome}
use Rattle.fam_events.specs.Steps.{IsStill}
use Rattle.fam_events.proofs.Refusals.{hosts_notes}

-- it is done
module _ (c : Call) (lines : ℕ) (answered : Option Refusal) (old new : WorldView) (w : WorldCall c lines answered old new) (takes : TakesNoMedia c lines old) where
  pub quiet_row : IsSoundCall c → (start : Image) (state : Machines) → Held start state old state.memory → length state.memory ≡ lines → DoesRow start (Some state.memory) (Does c state) old new
  quiet_row sound start state held lines_are =
      let stands : WorldStands (length state.memory) state old = subst (λ (n : ℕ). WorldStands n state old) (sym held.kept.held.lines) held.stands in
      let x = row_done state old stands c (subst (λ (n : ℕ). TakesNoMedia c n old) (sym lines_are) takes) in
      let same : world_after c (length state.memory) old ≡ new = ap (λ (n : ℕ). world_after c n old) lines_are ∙ sym w.after in
      let joined : new.journal ≡ old.journal ++ x.notes = sym (ap (λ (z : WorldView). z.journal) same) ∙ x.joined in
      let here : WorldStands (length start) x.left new = subst (λ (z : WorldView). WorldStands (length start) x.left z) same
      (subst (λ (n : ℕ). WorldStands n x.left (world_after c (length state.memory) old)) held.kept.held.lines x.stands) in
      record {
        state = x.left;
        notes = x.notes;
        row = x.row;
        told_is = ap Some (sym x.memory);
        joined = joined;
        held = kept_on start state x.left old new c x.notes held sound x.row here joined;
      }

  pub quiet_adds : IsShaped old → FitsMedia lines old.hosts → (told : Option Image) (faults : ℕ) (files : Option Files) (copied copied_now : ℕ)
      → AddsShape (DoesShape c) (asking lines old new told faults files copied copied_now)
  quiet_adds shaped fits told faults files copied copied_now =
      let x = solo_shape lines old shaped c takes in
      let n = hosts_notes lines old c takes in
      let same : n.notes ≡ x.notes = behind_same old.journal n.notes x.notes (sym n.joined ∙ x.joined) in
      record {
        notes = n.notes;
        joined = ap (λ (z : WorldView). z.journal) w.after ∙ n.joined;
        named = n.named;
        counted = let none = n.faultless in omega (arith, none);
        later = omega arith;
        fits = subst (λ (z : WorldView). FitsMedia lines z.hosts) (sym w.after) (world_fits c lines old fits);
        shaped = subst IsShaped (sym w.after) x.shaped;
        shape = subst (λ (z : List Note). DoesShape c lines (shapes_of old.journal) z) (sym same) x.shape;
      }

-- nothing is done

pub nothing_shape : (c : Call) (lines : ℕ) (hosts : List HostShape) → PartShape c lines hosts []
nothing_shape (call.Finishes name) lines hosts = inl refl
nothing_shape other lines hosts = refl

pub nothing_part : (c : Call) (state : Machines) → DoesPart c state [] state
nothing_part (call.Finishes name) state = inr (refl, refl)
nothing_part other state = (refl, refl)

module _ (a : WorldChange) (still : IsStill a) where
  same_journal : a.new.journal ≡ a.old.journal ++ []
  same_journal = ap (λ (z : WorldView). z.journal) still.world ∙ sym (append-nil a.old.journal)

  pub still_adds : (shape : ℕ → List HostShape → List Note → Type 0) → IsShaped a.old → FitsMedia a.lines a.old.hosts → shape a.lines (shapes_of a.old.journal) [] → AddsShape shape a
  still_adds shape shaped fits is = record {
    notes = [];
    joined = same_journal;
    named = tt;
    counted = let same = still.count in omega (arith, same);
    later = let same = still.count in omega (arith, same);
    fits = subst (λ (z : WorldView). FitsMedia a.lines z.hosts) (sym still.world) fits;
    shaped = subst IsShaped (sym still.world) shaped;
    shape = is;
  }

  pub still_keeps : (P : Files → Rattle.fam_journal.specs.Events.Session → List Note → Rattle.fam_journal.specs.Events.Session → Type 0)
      → ((files : Files) (start : Image) (state : Machines) → a.files ≡ Some files → a.media.old.image ≡ Some state.memory
      → Held start state a.old state.memory → P files (session state a.copied) [] (session state a.copied))
      → Told (λ files start. ComesHeld (P files) start) a
  still_keeps P each start files state files_are told_is held = record {
    comes = record {
      last = session state a.copied;
      notes = [];
      does = each files start state files_are told_is held;
      told_is = still.media ∙ told_is;
      joined = same_journal;
    };
    held = subst (λ (z : WorldView). Held start state z state.memory) (sym still.world) held;
  }

  pub still_part : (c : Call) → IsShaped a.old → FitsMedia a.lines a.old.hosts → CallPart c a
  still_part c shaped fits = record {
    adds = still_adds (PartShape c) shaped fits (nothing_shape c a.lines (shapes_of a.old.journal));
    keeps = still_keeps (λ files. CallsPart c) (λ files start state files_are told_is held. (nothing_part c state, refl));
  }

-- a call with its answer
module _ (c : Call) (lines : ℕ) (old new : WorldView) (sound : IsSoundCall c) (takes : TakesNoMedia c lines old) (shaped : IsShaped old) (fits : FitsMedia lines old.hosts)
    (told : Option Image) (faults : ℕ) (files : Option Files) (copied : ℕ) (modelled : IfModelled told (λ image. length image ≡ lines)) where
  quiet_done : (answered : Option Refusal) → WorldCall c lines answered old new → CallDone c (still lines old new told faults files copied)
  quiet_done answered w = record {
    adds = quiet_adds c lines answered old new w takes shaped fits told faults files copied copied;
    keeps = λ start files state files_are told_is held.
        let d = quiet_row c lines answered old new w takes sound start state held (modelled state.memory told_is) in
        record {
          comes = record { last = session d.state copied; notes = d.notes; does = (d.row, refl); told_is = told_is ∙ d.told_is; joined = d.joined };
          held = d.held;
        };
  }

  pub quiet_says : (called : Result (Unit {0}) WorldFault) → IfAnswered called (λ answered. WorldCall c lines answered old new)
      → (IsErrOf called fault.OutOfMemory → new ≡ old) → CallSays c (still lines old new told faults files copied) (outcome called)
  quiet_says (Ok x) w undone = quiet_done None w
  quiet_says (Err (fault.Refused cause)) w undone = quiet_done (Some cause) w
  quiet_says (Err fault.OutOfMemory) w undone = still_part (still lines old new told faults files copied) (record { world = undone refl; media = refl; count = refl }) c shaped fits
