-- Telling a host to begin what it is asked for.
use Rattle.std.proofs.Common.{◌≡◌, ℕ, inl, inr, Bool, true, false, List, [], ◌∷◌, length, map, Option, Some, None, Result, Ok, Err, refl, ap, sym, ◌∙◌, subst}
use Rattle.std.specs.Prelude.{IfErr, IfOk, OnErr, option_map, slice_get}
use Rattle.fam_base.specs.declared.cmd.Cmd.{Cmd}
use Rattle.fam_base.specs.declared.cmd.Cmd.TheVariants.{Logplay, Mount}
use Rattle.fam_commands.specs.Classes.{is_mount}
use Rattle.fam_base.specs.Image.{Image}
use Rattle.fam_media.specs.Files.{Files}
use Rattle.fam_media.specs.Outside.{IfModelled}
use Rattle.fam_media.specs.States.{ShelfChange}
use Rattle.fam_protocol.specs.Tasks.{IsCommand}
use Rattle.fam_sources.specs.declared.sourced.SourceEnd.{SourceEnd}
use Rattle.fam_sources.specs.declared.sourced.Sourced.{Sourced as Came}
use Rattle.fam_sources.specs.declared.sourced.Sourced.TheVariants as came_of
use Rattle.fam_sources.specs.Sourced.{IsEnded, HoldsSource, IsSourced, IsUnfit, HasEndCause}
use Rattle.fam_journal.specs.declared.event.Ask.{Ask}
use Rattle.fam_journal.specs.declared.event.Ask.TheVariants as ask
use Rattle.fam_journal.specs.declared.event.Event.TheVariants.{Begin}
use Rattle.fam_journal.specs.declared.refusal.Refusal.{Refusal}
use Rattle.fam_journal.specs.declared.refusal.Refusal.TheVariants as why
use Rattle.fam_journal.specs.Calls as call
use Rattle.fam_journal.specs.Calls.{Does, IsOfSource, may_begin, number_of, refusal_of}
use Rattle.fam_journal.specs.CallRecords.{FitsMedia, WorldCall, heading}
use Rattle.fam_journal.specs.EventShapes.{UnfitShape}
use Rattle.fam_journal.specs.Events.{event_source, mounts, named_source, source_of}
use Rattle.fam_journal.specs.Shapes as shape
use Rattle.fam_journal.specs.Shapes.{AtShape, DoesShape, ShapeByRefusal, FreeShape, HostShape, IsShaped, OfHostShape, shapes_behind, shapes_of, runs_shape, shown_shapes}
use Rattle.fam_journal.specs.Kept.{Held}
use Rattle.fam_journal.specs.Machines.{Machines}
use Rattle.fam_journal.specs.Notes.{Note, Refused, Start}
use Rattle.fam_journal.specs.View.{HostView, WorldView}
use Rattle.fam_journal.specs.ByWorld.{acted_by, number_in, refusal_in, with_host}
use Rattle.fam_journal.proofs.Calls.Members.{changed_here}
use Rattle.fam_journal.proofs.Shapes.EventRows.{mounts_asked}
use Rattle.fam_journal.proofs.Shapes.Operations.{shapes_both}
use Rattle.fam_journal.proofs.Shapes.Views.{number_shaped, refusal_shaped}
use Rattle.fam_world.proofs.Finishing.{number_same}
use Rattle.fam_world.proofs.Members.{map_kept}
use Rattle.fam_world.proofs.Rows.{first_refusal}
use Rattle.fam_events.specs.WorldChange.{AddsShape, WorldChange, asking, session}
use Rattle.fam_events.specs.declared.asks.Asked.{Asked}
use Rattle.fam_events.specs.declared.fault.EventFault.{EventFault}
use Rattle.fam_events.specs.declared.fault.EventFault.TheVariants as fault
use Rattle.fam_events.specs.Begins.{AskBegun, AskRefused, AskSays, AskUndone, Nothing, RefusedShape}
use Rattle.fam_events.specs.Happens.{EventEnded, IsToSource, SourceShape}
use Rattle.fam_journal.proofs.Growth.{count_same}
use Rattle.fam_events.proofs.WithoutMedia.{quiet_adds, quiet_row, still_adds, still_keeps}
use Rattle.fam_journal.proofs.Shapes.Running.{finish_as_step, runs_free}

-- a cause of a source
of_source : (what : Ask) (cause : Refusal) → UnfitShape what cause → IsOfSource cause
of_source what (why.NoFile name) is = tt
of_source what (why.CopyLimit sum) is = tt
of_source what (why.BadListing at) is = tt
of_source what other is = absurd is

-- the notes of a call that refuses
refuses_shape : (name : List ℕ) (cause : Refusal) (lines : ℕ) (hosts : List HostShape) (notes : List Note) → DoesShape (call.Refuses name cause) lines hosts notes → notes ≡ Refused name cause ∷ []
unfolding refusal_of
refuses_shape name cause lines hosts notes shape = shape.0

refuses_row : (name : List ℕ) (cause : Refusal) (old new : Machines) (notes : List Note) → Does (call.Refuses name cause) old notes new → (notes ≡ Refused name cause ∷ []) × (new ≡ old)
unfolding refusal_of
refuses_row name cause old new notes row = (row.0, row.1)

-- a mount, or another command
abbrev pub some_cmd : Bool → Cmd
some_cmd true = Mount
some_cmd false = Logplay

pub some_mounts : (mount : Bool) → is_mount (some_cmd mount) ≡ mount
some_mounts true = refl
some_mounts false = refl

-- a mount has no source
source_plain : (what : Ask) (source : List ℕ) → source_of what ≡ Some source → mounts what ≡ false
source_plain (ask.Plain own) source is = absurd cc
source_plain (ask.Cp from path attr stripe) source is = refl
source_plain (ask.VerifySource path from) source is = refl
source_plain (ask.Check from) source is = refl

-- whether a command may begin hangs on its host, and on whether it is a mount
begins_as : (name : List ℕ) (cmd : Cmd) (m : Machines) → refusal_of (call.Begins name cmd) m ≡ may_begin name (is_mount cmd) m
unfolding refusal_of
begins_as name cmd m = refl

module _ (name : List ℕ) (what : Ask) (lines : ℕ) (old : WorldView) (shaped : IsShaped old) (fits : FitsMedia lines old.hosts) (told : Option Image)
    (modelled : IfModelled told (λ image. length image ≡ lines)) (faults : ℕ) (files : Option Files) (copied : ℕ) where
  abbrev shapes : List HostShape
  shapes = shapes_of old.journal

  abbrev first : Option Refusal
  first = refusal_in (call.Begins name (some_cmd (mounts what))) old lines

  some_as : (m : Machines) → refusal_of (call.Begins name (some_cmd (mounts what))) m ≡ may_begin name (mounts what) m
  some_as m = begins_as name (some_cmd (mounts what)) m ∙ ap (λ (mount : Bool). may_begin name mount m) (some_mounts (mounts what))

  told_first : may_begin name (mounts what) (shown_shapes lines shapes) ≡ first
  told_first = sym (refusal_shaped lines old shaped (call.Begins name (some_cmd (mounts what))) tt ∙ some_as (shown_shapes lines shapes))

  state_first : (start : Image) (state : Machines) → Held start state old state.memory → length state.memory ≡ lines → may_begin name (mounts what) state ≡ first
  state_first start state held lines_are = sym (some_as state) ∙ first_refusal start state old held (call.Begins name (some_cmd (mounts what))) lines lines_are

  -- no memory was left
  pub undone : (now : ℕ) → AskUndone (asking lines old old told faults files copied now)
  undone now = record {
    adds = still_adds (asking lines old old told faults files copied now) record { world = refl; media = refl; count = refl } (λ lines hosts notes. notes ≡ []) shaped fits refl;
    keeps = still_keeps (asking lines old old told faults files copied now) record { world = refl; media = refl; count = refl } (λ files. Nothing)
        (λ files_now start state files_are told_is held. (refl, refl));
  }

  -- nothing may begin there
  pub may_not : (new : WorldView) (cause : Refusal) → first ≡ Some cause → WorldCall (call.Refuses name cause) lines None old new
      → AskRefused name what (asking lines old new told faults files copied copied)
  may_not new cause is w = record {
    adds = of_shape (quiet_adds (call.Refuses name cause) lines None old new w (inr (some_cmd (mounts what), is)) shaped fits told faults files copied copied);
    keeps = λ start files_now state files_are told_is held.
        let d = quiet_row (call.Refuses name cause) lines None old new w (inr (some_cmd (mounts what), is)) tt start state held (modelled state.memory told_is) in
        let r = refuses_row name cause state d.state d.notes d.row in
        record {
          comes = record {
            last = session d.state copied;
            notes = d.notes;
            does = (inl record { cause = cause; first = state_first start state held (modelled state.memory told_is) ∙ is; notes_are = r.0; same = ap (λ (m : Machines). session m copied) r.1 }, refl);
            told_is = told_is ∙ d.told_is;
            joined = d.joined;
          };
          held = d.held;
        };
  }
    where
      of_shape : AddsShape (DoesShape (call.Refuses name cause)) (asking lines old new told faults files copied copied)
          → AddsShape (RefusedShape name what) (asking lines old new told faults files copied copied)
      of_shape x = record {
        notes = x.notes;
        joined = x.joined;
        named = x.named;
        counted = x.counted;
        later = x.later;
        fits = x.fits;
        shaped = x.shaped;
        shape = subst (λ (o : Option Refusal). ShapeByRefusal name o x.notes (Rattle.fam_journal.specs.EventShapes.UnfitNotes name what x.notes))
            (sym (told_first ∙ is)) (refuses_shape name cause lines shapes x.notes x.shape);
      }

  module _ (free : first ≡ None) where
    -- the source makes no command
    pub unfit : (new : WorldView) (cause : Refusal) (change : ShelfChange) (now : ℕ) → change.old.files ≡ files → IsUnfit change copied what now cause
        → WorldCall (call.Refuses name cause) lines None old new → AskRefused name what (asking lines old new told faults files copied now)
    unfit new cause change now same u w = record {
      adds = of_shape (quiet_adds (call.Refuses name cause) lines None old new w (inl (of_source what cause u.shape)) shaped fits told faults files copied now);
      keeps = λ start files_now state files_are told_is held.
          let d = quiet_row (call.Refuses name cause) lines None old new w (inl (of_source what cause u.shape)) tt start state held (modelled state.memory told_is) in
          record {
            comes = record {
              last = session d.state now;
              notes = d.notes;
              does = (
                inr record {
                  free = state_first start state held (modelled state.memory told_is) ∙ free;
                  cause = cause;
                  copied = now;
                  says = u.says files_now (same ∙ files_are);
                  does = d.row;
                  copied_is = refl;
                },
                refl,
              );
              told_is = told_is ∙ d.told_is;
              joined = d.joined;
            };
            held = d.held;
          };
    }
      where
        of_shape : AddsShape (DoesShape (call.Refuses name cause)) (asking lines old new told faults files copied now)
            → AddsShape (RefusedShape name what) (asking lines old new told faults files copied now)
        of_shape x = record {
          notes = x.notes;
          joined = x.joined;
          named = x.named;
          counted = x.counted;
          later = x.later;
          fits = x.fits;
          shaped = x.shaped;
          shape = subst (λ (o : Option Refusal). ShapeByRefusal name o x.notes (Rattle.fam_journal.specs.EventShapes.UnfitNotes name what x.notes)) (sym (told_first ∙ free))
              record { why = cause; unfit = u.shape; notes_are = refuses_shape name cause lines shapes x.notes x.shape };
        }

    -- the reading of its source ended early
    pub ended : (end : SourceEnd) (change : ShelfChange) → change.old.files ≡ files → IsEnded change copied what end
        → EventEnded (Begin name what) end (asking lines old old told faults files copied copied) × HasEndCause change end
    ended end change same e = (
      record {
        adds = still_adds (asking lines old old told faults files copied copied) record { world = refl; media = refl; count = refl } (SourceShape (Begin name what)) shaped fits
            record {
              none = refl;
              host = name;
              source = e.name;
              reads = reads;
              free =
                  ap (λ (mount : Bool). may_begin name mount (shown_shapes lines shapes)) (sym (source_plain what e.name e.source)) ∙ told_first
                  ∙ free;
            };
        keeps = still_keeps (asking lines old old told faults files copied copied) record { world = refl; media = refl; count = refl } (IsToSource (Begin name what) end)
            (λ files_now start state files_are told_is held. (
              record {
                host = name;
                source = e.name;
                reads = reads;
                free = ap (λ (mount : Bool). may_begin name mount state) (sym (source_plain what e.name e.source)) ∙ state_first start state held (modelled state.memory told_is) ∙ free;
                ends = e.short files_now (same ∙ files_are);
              },
              refl,
              refl,
            ));
      },
      e.cause,
    )
      where
        reads : event_source (Begin name what) ≡ Some (name, e.name)
        reads = ap (λ (o : Option (List ℕ)). named_source name o) e.source

    -- the command begins
    module _ (cmd : Cmd) (fits_words : IsCommand cmd) (new : WorldView) (change : ShelfChange) (now : ℕ) (same : change.old.files ≡ files)
        (ready : HoldsSource change copied what now cmd) (w : WorldCall (call.Begins name cmd) lines None old new) where
      abbrev a : WorldChange
      a = asking lines old new told faults files copied now

      own_first : may_begin name (is_mount cmd) (shown_shapes lines shapes) ≡ None
      own_first = ap (λ (mount : Bool). may_begin name mount (shown_shapes lines shapes)) (sym (mounts_asked what cmd ready.shape)) ∙ told_first ∙ free

      record Placed (notes : List Note) : Type 0 where
        host : ℕ
        number : number_of name (shown_shapes lines shapes) ≡ Some host
        shape : HostShape
        shape_is : slice_get shapes host ≡ Some shape
        notes_are : notes ≡ Start host cmd ∷ []

      placed : (notes : List Note) → DoesShape (call.Begins name cmd) lines shapes notes → Placed notes
      unfolding refusal_of
      placed notes shape = by_number (number_of name (shown_shapes lines shapes)) refl
          (subst (λ (o : Option Refusal). ShapeByRefusal name o notes (FreeShape (call.Begins name cmd) lines shapes notes)) own_first shape)
        where
          by_host : (h : ℕ) → number_of name (shown_shapes lines shapes) ≡ Some h → (o : Option HostShape) → slice_get shapes h ≡ o → OfHostShape o (λ f. notes ≡ Start h cmd ∷ []) → Placed notes
          by_host h number None is x = absurd x
          by_host h number (Some f) is x = record { host = h; number = number; shape = f; shape_is = is; notes_are = x }

          by_number : (o : Option ℕ) → number_of name (shown_shapes lines shapes) ≡ o → AtShape o shapes (λ h f. notes ≡ Start h cmd ∷ []) → Placed notes
          by_number None is x = absurd x
          by_number (Some h) is x = by_host h is (slice_get shapes h) refl x

      x : AddsShape (DoesShape (call.Begins name cmd)) a
      x = quiet_adds (call.Begins name cmd) lines None old new w tt shaped fits told faults files copied now

      p : Placed x.notes
      p = placed x.notes x.shape

      -- hosts keep their names
      headings : map heading new.hosts ≡ map heading old.hosts
      headings =
          ap (λ (z : WorldView). map heading z.hosts) w.after
          ∙ ap (λ (o : Option Refusal). map heading (acted_by o (call.Begins name cmd) lines old).hosts) (sym w.said)
          ∙ by_number (number_in name old) _ _
        where
          by_number : (o : Option ℕ) (task : HostView → _) (note : ℕ → Note) → map heading (with_host o (λ v. record v { task = task v }) note old).hosts ≡ map heading old.hosts
          by_number None task note = refl
          by_number (Some h) task note = map_kept heading (λ v. record v { task = task v }) (λ v. refl) h old.hosts

      number_kept : number_in name new ≡ number_in name old
      number_kept = number_same name new old headings

      abbrev starts : HostShape → HostShape
      starts host = record host { task = Some (record { cmd = cmd; stage = shape.Begun }) }

      runs : runs_shape (slice_get (shapes_of new.journal) p.host) ≡ true
      runs =
          ap (λ (j : List Note). runs_shape (slice_get (shapes_of j) p.host)) x.joined
          ∙ ap (λ (fs : List HostShape). runs_shape (slice_get fs p.host)) (shapes_both [] old.journal x.notes)
          ∙ ap (λ (ns : List Note). runs_shape (slice_get (shapes_behind shapes ns) p.host)) p.notes_are
          ∙ ap runs_shape (changed_here p.host starts shapes)
          ∙ ap (λ (o : Option HostShape). runs_shape (option_map starts o)) p.shape_is

      pub begun : AskBegun name what a
      begun = record {
        adds = record {
          notes = x.notes;
          joined = x.joined;
          named = x.named;
          counted = x.counted;
          later = x.later;
          fits = x.fits;
          shaped = x.shaped;
          shape = record {
            free = told_first ∙ free;
            starts = record { host = p.host; number = p.number; cmd = cmd; asked = ready.shape; rest = []; notes_are = p.notes_are; follow = refl };
          };
        };
        keeps = λ start files_now state files_are told_is held.
            let d = quiet_row (call.Begins name cmd) lines None old new w tt fits_words start state held (modelled state.memory told_is) in
            record {
              comes = record {
                last = session d.state now;
                notes = d.notes;
                does = (
                  record {
                    free = state_first start state held (modelled state.memory told_is) ∙ free;
                    cmd = cmd;
                    copied = now;
                    says = ready.says files_now (same ∙ files_are);
                    fits = fits_words;
                    does = d.row;
                    copied_is = refl;
                  },
                  refl,
                );
                told_is = told_is ∙ d.told_is;
                joined = d.joined;
              };
              held = d.held;
            };
        number = number_kept;
        count_is = count_same new.hosts old.hosts headings;
        runs = finish_as_step name new lines ∙ runs_free lines new x.shaped name p.host (number_kept ∙ number_shaped lines old shaped name ∙ p.number) runs;
      }

-- a call that refuses or begins, or finds no memory
pub asked_as : (name : List ℕ) (what : Ask) (shelf : ShelfChange) (a : WorldChange) (r : Result Asked EventFault) (W X : Type 0) (want : Asked)
    → IfOk r (λ asked. (asked ≡ want) × W) → IfErr r (λ f. f ≡ fault.OutOfMemory) → OnErr r X
    → (W → AskSays name what shelf a (Ok want)) → (X → AskUndone a) → AskSays name what shelf a r
asked_as name what shelf b (Ok asked) W X want done err undone if_done if_not = subst (λ (z : Asked). AskSays name what shelf b (Ok z)) (sym done.0) (if_done done.1)
asked_as name what shelf b (Err f) W X want done err undone if_done if_not = subst (λ (z : EventFault). AskSays name what shelf b (Err z)) (sym err) (if_not undone)

-- what a source comes to, where its value was moved
pub ready_of : (change : ShelfChange) (copied : ℕ) (what : Ask) (now : ℕ) (came : Came) (cmd moved : Cmd) → came ≡ came_of.Ready cmd → moved ≡ cmd
    → IsSourced change copied what now came → HoldsSource change copied what now moved
ready_of change copied what now came cmd moved is same says =
    subst (λ (z : Cmd). HoldsSource change copied what now z) (sym same) (subst (λ (z : Came). IsSourced change copied what now z) is says)

pub unfit_of : (change : ShelfChange) (copied : ℕ) (what : Ask) (now : ℕ) (came : Came) (cause moved : Refusal) → came ≡ came_of.Unfit cause
    → moved ≡ cause → IsSourced change copied what now came → IsUnfit change copied what now moved
unfit_of change copied what now came cause moved is same says =
    subst (λ (z : Refusal). IsUnfit change copied what now z) (sym same) (subst (λ (z : Came). IsSourced change copied what now z) is says)
