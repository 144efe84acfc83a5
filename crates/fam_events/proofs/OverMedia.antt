-- A call over a media, as a part of an event.
use Rattle.std.proofs.Common.{◌≡◌, ◌*◌, ℕ, inl, inr, List, [], ◌∷◌, length, Option, Some, None, Result, Ok, Err, refl, ap, sym, ◌∙◌, subst}
use Rattle.std.specs.Prelude.{⊤, IsErrOf, slice_get, option_map}
use Rattle.std.proofs.lemmas.Option.{same_Some}
use Rattle.fam_base.specs.declared.entry.Params.{Params}
use Rattle.fam_base.specs.declared.line.LineNo.{LineNo}
use Rattle.fam_format.specs.Stop.{or_else}
use Rattle.fam_machine.specs.Mkfs as early
use Rattle.fam_machine.specs.Mkfs.{EarlyRefusal, early_refusal}
use Rattle.fam_rules.specs.Place.{line_bytes}
use Rattle.fam_journal.specs.Members.{index_of}
use Rattle.fam_base.specs.Image.{Image}
use Rattle.fam_machine.specs.declared.request.MkfsRequest.{MkfsRequest}
use Rattle.fam_journal.specs.declared.refusal.Refusal.{Refusal}
use Rattle.fam_journal.specs.declared.refusal.Refusal.TheVariants as why
use Rattle.fam_journal.specs.Calls as call
use Rattle.fam_journal.specs.Calls.{Call, busy_refusal, cause_of, is_engaged, number_of, on_host}
use Rattle.fam_journal.specs.CallRecords.{Adds, Answers, CallShape, CallKeeps, CallBreaks, CallParts, FinishOutOfMemory, FitsMedia, MakeCall, MediaCall, refusal_noted}
use Rattle.fam_journal.specs.Ends.{CutCallReads, cause_faults}
use Rattle.fam_journal.specs.Shapes.{ActsShape, AtShape, BreaksShape, DoesShape, ShapeByRefusal, FreeShape, HostShape, IsShaped, OfHostShape, PartShape, shapes_of, made_note, makes_told, refusal_told, shown_shapes}
use Rattle.fam_journal.specs.Names.{AreNamed}
use Rattle.fam_journal.specs.Notes.{Note}
use Rattle.fam_journal.proofs.Faces.{IsNoMake}
use Rattle.fam_journal.proofs.Growth.{count_same}
use Rattle.fam_world.specs.Answers.{IfAnswered}
use Rattle.fam_world.specs.declared.fault.WorldFault.{WorldFault}
use Rattle.fam_world.specs.declared.fault.WorldFault.TheVariants as fault
use Rattle.fam_events.specs.WorldChange.{AddsShape, WorldChange, ComesBroken, ComesHeld, Told, session}
use Rattle.fam_events.specs.Calls.{CallDone, CallPart, CallSays, CallsBreak, CallsPart, broken_by, make_outcome, outcome}
use Rattle.fam_events.specs.Steps.{IsStill}
use Rattle.fam_events.proofs.WithoutMedia.{still_part}

-- nothing but a mkfs is cut by a media fault
no_break : (c : Call) (lines : ℕ) (hosts : List HostShape) (notes : List Note) → IsNoMake c → BreaksShape c lines hosts notes → DoesShape c lines hosts notes
no_break (call.Makes name request) lines hosts notes other is = absurd other
no_break rest lines hosts notes other is = absurd is

module _ (c : Call) (a : WorldChange) (shaped : IsShaped a.old) (fits : FitsMedia a.lines a.old.hosts) where
  -- notes that are added, of a shape
  pub added : (shape : ℕ → List HostShape → List Note → Type 0) (adds : Adds a.lines a.media.old.faults a.media.new.faults a.old a.new)
      → shape a.lines (shapes_of a.old.journal) adds.notes → AddsShape shape a
  added shape adds is = record {
    notes = adds.notes;
    joined = adds.joined;
    named = subst (λ (n : ℕ). AreNamed n adds.notes) (count_same a.new.hosts a.old.hosts adds.hosts) adds.named;
    counted = adds.counted;
    later = adds.later;
    fits = adds.fits fits;
    shaped = adds.shaped shaped;
    shape = is;
  }

  -- it did its row, on every media
  pub answers_shape : IsNoMake c → (answered : Option Refusal) (x : Answers c a.lines answered a.media.old.faults a.media.new.faults a.old a.new) → AddsShape (DoesShape c) a
  answers_shape whole answered x = added (DoesShape c) x.adds (by_shape (x.shape shaped))
    where
      by_shape : CallShape c a.lines (shapes_of a.old.journal) x.adds.notes → DoesShape c a.lines (shapes_of a.old.journal) x.adds.notes
      by_shape (inl is) = is
      by_shape (inr none) = no_break c a.lines (shapes_of a.old.journal) x.adds.notes whole none

  module _ (same : a.copied_now ≡ a.copied) where
    -- and where the image is modelled
    pub row_kept : ((start : Image) → CallKeeps c start a.media.old.image a.media.new.image a.old a.new) → Told (λ files start. ComesHeld (Rattle.fam_journal.specs.Events.Calls c) start) a
    row_kept keeps start files state files_are told_is held =
        let d = keeps start state told_is held in
        record {
          comes = record { last = session d.state a.copied; notes = d.notes; does = (d.row, refl); told_is = d.told_is; joined = d.joined };
          held = d.held;
        }

    pub part_kept : ((start : Image) → CallParts c start a.media.old.image a.media.new.image a.old a.new) → Told (λ files start. ComesHeld (CallsPart c) start) a
    part_kept keeps start files state files_are told_is held =
        let d = keeps start state told_is held in
        record {
          comes = record { last = session d.state a.copied; notes = d.notes; does = (d.row, refl); told_is = d.told_is; joined = d.joined };
          held = d.held;
        }

    pub broken_kept : ((start : Image) → CallBreaks c start a.media.old.image a.media.new.image a.old a.new)
        → Told (λ files start. ComesBroken (CallsBreak c) (λ old. CutCallReads c old.machines) start) a
    broken_kept keeps start files state files_are told_is held =
        let d = keeps start state told_is held in
        record {
          comes = record { last = session d.state a.copied; notes = d.notes; does = (d.row, refl); told_is = d.told_is; joined = d.joined };
          legal = d.legal;
          reads = d.reads;
        }

    pub call_done : IsNoMake c → (answered : Option Refusal) → MediaCall c a.lines answered a.media a.old a.new → CallDone c a
    call_done whole answered x = record { adds = answers_shape whole answered x.answers; keeps = row_kept x.keeps }

    pub media_says : IsNoMake c → (called : Result (Unit {0}) WorldFault) → IfAnswered called (λ answered. MediaCall c a.lines answered a.media a.old a.new)
        → (IsErrOf called fault.OutOfMemory → CallPart c a) → CallSays c a (outcome called)
    media_says whole (Ok x) w part = call_done whole None w
    media_says whole (Err (fault.Refused cause)) w part = call_done whole (Some cause) w
    media_says whole (Err fault.OutOfMemory) w part = part refl

-- a finish that found no memory
pub finish_part : (name : List ℕ) (a : WorldChange) → IsShaped a.old → FitsMedia a.lines a.old.hosts → a.copied_now ≡ a.copied
    → FinishOutOfMemory name a.lines a.media a.old a.new → CallPart (call.Finishes name) a
finish_part name a shaped fits same x = record {
  adds = added (call.Finishes name) a shaped fits (PartShape (call.Finishes name)) x.adds (x.shape shaped);
  keeps = part_kept (call.Finishes name) a shaped fits same x.parts;
}

-- A mkfs.

abbrev IfFaultless : Option Refusal → Type 0
IfFaultless None = ⊤
IfFaultless (Some cause) = cause_faults cause ≡ 0

clean_or : (a b : Option Refusal) → IfFaultless a → IfFaultless b → IfFaultless (or_else a b)
clean_or None b x y = y
clean_or (Some cause) b x y = x

clean_early : (o : Option EarlyRefusal) → IfFaultless (option_map cause_of o)
clean_early None = tt
clean_early (Some (early.BadGeometry unit log)) = refl
clean_early (Some (early.TooSmall needed have)) = refl

clean_busy : (o : Option ℕ) → IfFaultless (busy_refusal o)
clean_busy None = tt
clean_busy (Some h) = refl

clean_on : (o : Option ℕ) (f : ℕ → Option Refusal) → ((h : ℕ) → IfFaultless (f h)) → IfFaultless (on_host o f)
clean_on None f each = refl
clean_on (Some h) f each = each h

-- what a media fault isn't
no_fault : (o : Option Refusal) (at : LineNo) → IfFaultless o → o ≡ Some (why.MediaFault at) → ⊥
no_fault None at clean is = absurd cc
no_fault (Some cause) at clean is = absurd (let same : cause ≡ why.MediaFault at = same_Some cause (why.MediaFault at) is in let one : 1 ≡ 0 = ap cause_faults (sym same) ∙ clean in cc)

module _ (name : List ℕ) (request : MkfsRequest) (a : WorldChange) (shaped : IsShaped a.old) (fits : FitsMedia a.lines a.old.hosts) (same : a.copied_now ≡ a.copied) where
  abbrev c : Call
  c = call.Makes name request

  abbrev shapes : List HostShape
  shapes = shapes_of a.old.journal

  -- the numbers, or a host with a task: no fault
  told_clean : IfFaultless (refusal_told c a.lines shapes)
  told_clean =
      let early = early_refusal request.unit request.log (line_bytes * length (shown_shapes a.lines shapes).memory) in
      let busy = index_of is_engaged (shown_shapes a.lines shapes).hosts in
      clean_on (number_of name (shown_shapes a.lines shapes)) (λ h. makes_told request.unit request.log (shown_shapes a.lines shapes))
      (λ h. clean_or (option_map cause_of early) (busy_refusal busy) (clean_early early) (clean_busy busy))

  -- what is noted of one that goes on is no refusal
  made_told : (halt : Option ℕ) (h : ℕ) (p : Params) → refusal_noted (made_note halt h p ∷ []) ≡ None
  made_told None h p = refl
  made_told (Some k) h p = refl

  -- a fault is no row of its own
  by_acts : (notes : List Note) (at : LineNo) (h : ℕ) (f : HostShape) → ActsShape c h f a.lines shapes notes → refusal_noted notes ≡ Some (why.MediaFault at) → ⊥
  by_acts notes at h f (inl made) said =
      absurd (let none : None ≡ Some (why.MediaFault at) = sym (made_told request.halt h (early.asked request f.uuid a.lines))
      ∙ ap refusal_noted (sym made) ∙ said in cc)
  by_acts notes at h f (inr x) said = absurd (let other : Some (why.HasSuper x.fs) ≡ Some (why.MediaFault at) = ap refusal_noted (sym x.notes_are) ∙ said in cc)

  by_host : (notes : List Note) (at : LineNo) (h : ℕ) (o : Option HostShape) → OfHostShape o (λ f. ActsShape c h f a.lines shapes notes) → refusal_noted notes ≡ Some (why.MediaFault at) → ⊥
  by_host notes at h None x said = x
  by_host notes at h (Some f) x said = by_acts notes at h f x said

  by_number : (notes : List Note) (at : LineNo) (o : Option ℕ) → AtShape o shapes (λ h f. ActsShape c h f a.lines shapes notes) → refusal_noted notes ≡ Some (why.MediaFault at) → ⊥
  by_number notes at None x said = x
  by_number notes at (Some h) x said = by_host notes at h (slice_get shapes h) x said

  by_free : (notes : List Note) (at : LineNo) → FreeShape c a.lines shapes notes → refusal_noted notes ≡ Some (why.MediaFault at) → ⊥
  by_free notes at (inl x) said = by_number notes at (number_of name (shown_shapes a.lines shapes)) x said
  by_free notes at (inr x) said = absurd (let other : Some (why.Dirty (record { 0 = x.dirty })) ≡ Some (why.MediaFault at) = ap refusal_noted (sym x.notes_are) ∙ said in cc)

  by_refusal : (notes : List Note) (at : LineNo) (o : Option Refusal) → IfFaultless o → ShapeByRefusal name o notes (FreeShape c a.lines shapes notes)
      → refusal_noted notes ≡ Some (why.MediaFault at) → ⊥
  by_refusal notes at None clean x said = by_free notes at x said
  by_refusal notes at (Some cause) clean x said = no_fault (Some cause) at clean (ap refusal_noted (sym x) ∙ said)

  -- a fault that is answered cuts it
  broken_shape : (at : LineNo) (notes : List Note) → CallShape c a.lines shapes notes → Some (why.MediaFault at) ≡ refusal_noted notes → BreaksShape c a.lines shapes notes
  broken_shape at notes (inr x) said = x
  broken_shape at notes (inl x) said = absurd (by_refusal notes at (refusal_told c a.lines shapes) told_clean x (sym said))

  -- and another answer doesn't
  whole_shape : (answered : Option Refusal) (notes : List Note) → IfFaultless answered → CallShape c a.lines shapes notes → answered ≡ refusal_noted notes → DoesShape c a.lines shapes notes
  whole_shape answered notes clean (inl x) said = x
  whole_shape answered notes clean (inr x) said = absurd (no_fault answered (record { 0 = x.1.0 }) clean (said ∙ ap refusal_noted x.1.1))

  make_done : (answered : Option Refusal) → IfFaultless answered → Answers c a.lines answered a.media.old.faults a.media.new.faults a.old a.new
      → ((start : Image) → CallKeeps c start a.media.old.image a.media.new.image a.old a.new) → CallDone c a
  make_done answered clean x keeps = record {
    adds = added c a shaped fits (DoesShape c) x.adds (whole_shape answered x.adds.notes clean (x.shape shaped) x.said);
    keeps = row_kept c a shaped fits same keeps;
  }

  abbrev Made : Option Refusal → Type 0
  Made answered = MakeCall c a.lines answered a.media a.old a.new

  refused_says : (cause : Refusal) → Made (Some cause) → CallSays c a (broken_by cause)
  refused_says (why.MediaFault at) w = record {
    adds = added c a shaped fits (BreaksShape c) w.answers.adds (broken_shape at w.answers.adds.notes (w.answers.shape shaped) w.answers.said);
    keeps = broken_kept c a shaped fits same w.leaves;
  }
  refused_says other w = make_done (Some other) refl w.answers w.leaves

  pub make_says : (called : Result (Unit {0}) WorldFault) → IfAnswered called Made → (IsErrOf called fault.OutOfMemory → IsStill a) → CallSays c a (make_outcome called)
  make_says (Ok x) w still = make_done None tt w.answers w.leaves
  make_says (Err (fault.Refused cause)) w still = refused_says cause w
  make_says (Err fault.OutOfMemory) w still = still_part a (still refl) c shaped fits
