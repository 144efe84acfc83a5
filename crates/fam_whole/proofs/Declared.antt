-- One host that is declared, and nothing else: which refusals it meets, and what a journal behind it shows.
use Prim.Native.Nat.{zero, suc}
use Rattle.std.proofs.Common.{◌≡◌, ℕ, ◌*◌, Bool, true, false, List, [], ◌∷◌, ◌++◌, length, take, Option, Some, None, refl, ap, sym, ◌∙◌, subst}
use Rattle.std.specs.Prelude.{if◌then◌else◌, option_map, slice_get}
use Rattle.std.specs.FinMap as finmap
use Rattle.std.specs.Cmp.Lexicographic.{pointwise_decides}
use Rattle.std.proofs.lemmas.Bool.Decides.{Decides-eqb}
use Rattle.std.proofs.lemmas.List.{append-nil}
use Rattle.std.proofs.lemmas.Option.{same_Some}
use Rattle.fam_base.specs.Image.{Image}
use Rattle.fam_machine.specs.declared.request.MkfsRequest.{MkfsRequest}
use Rattle.fam_format.specs.Params.{IsUuid}
use Rattle.fam_format.specs.Stop.{or_else}
use Rattle.fam_machine.specs.Mkfs.{early_refusal}
use Rattle.fam_media.specs.Files.{Files}
use Rattle.fam_rules.specs.Place.{line_bytes}
use Rattle.fam_journal.specs.declared.event.Event.{Event}
use Rattle.fam_journal.specs.declared.event.Event.TheVariants as event
use Rattle.fam_journal.specs.declared.refusal.Refusal.{Refusal}
use Rattle.fam_outcomes.specs.declared.status.Status.{Status}
use Rattle.fam_journal.specs.Calls as call
use Rattle.fam_journal.specs.Calls.{Does, begins_refusal, cause_of, makes_refusal, may_begin, number_of, on_host, refusal_of}
use Rattle.fam_journal.specs.Ends.{IsFaultless}
use Rattle.fam_journal.specs.Events.{DoesEvent, Session, first_session}
use Rattle.fam_journal.specs.Follows.{Follows}
use Rattle.fam_journal.specs.Laws.{IsImage}
use Rattle.fam_journal.specs.Machines.{HostState, Machines, unused}
use Rattle.fam_journal.specs.Notes.{Host, Note}
use Rattle.fam_outcomes.specs.Programs.{last_passes}
use Rattle.fam_outcomes.specs.Runs.{Outside}
use Rattle.fam_outcomes.specs.Statuses.{last_status, note_status}
use Rattle.fam_outcomes.specs.Texts.{names_after, names_behind, note_text, shown_last}
use Rattle.fam_whole.specs.Alone.{command_refusal}
use Rattle.fam_whole.specs.Whole.{EndsAs}
use Rattle.fam_whole.proofs.Exact.{Between, at_start, one_more}

-- Journals that end in a note.

pub shown_end : (names : List (List ℕ)) (front : List Note) (note : Note) → shown_last names (front ++ note ∷ []) ≡ note_text (names_behind names front) note
shown_end names [] note = refl
shown_end names (one ∷ []) note = refl
shown_end names (one ∷ next ∷ front) note = shown_end (names_after names one) (next ∷ front) note

pub status_end : (front : List Note) (note : Note) → last_status (front ++ note ∷ []) ≡ note_status note
status_end [] note = refl
status_end (one ∷ []) note = refl
status_end (one ∷ next ∷ front) note = status_end (next ∷ front) note

pub ends_same : {out : Outside} {given own own' : Status} {text text' : List ℕ} {left left' : Image} → EndsAs out given text left own → text ≡ text'
    → left ≡ left' → own ≡ own' → EndsAs out given text' left' own'
ends_same {out} {given} {own} {own'} {text} {text'} {left} {left'} ends t l o = record {
  put = ends.put ∙ ap (λ (z : List ℕ). option_map (Rattle.fam_media.specs.Outside.with_piece z) out.sink.old.bytes) t;
  left_is = ends.left_is ∙ ap Some l;
  status_is = ends.status_is ∙ o;
}

-- The host.

module _ (start : Image) (name me : List ℕ) where
  abbrev pub only : HostState
  only = record { name = name; uuid = me; cache = finmap.empty; task = None; kept = None }

  abbrev pub declared : Machines
  declared = record { memory = start; hosts = only ∷ [] }

  declares : (new : Machines) (notes : List Note) → Does (call.Declares name me) (unused start) notes new → (notes ≡ Host name me ∷ []) × (new ≡ declared)
  unfolding refusal_of
  declares new notes does = (does.0, does.1)

  number_is : number_of name declared ≡ Some 0
  number_is = ap (λ (t : Bool). if t then Some 0 else None) ((pointwise_decides Decides-eqb name name).1 refl)

  pub host_is : (h : ℕ) (host : HostState) → slice_get declared.hosts h ≡ Some host → host ≡ only
  host_is zero host is = sym (same_Some only host is)
  host_is (suc h) host is = absurd cc

  or_none : (o : Option Refusal) → or_else o None ≡ o
  or_none None = refl
  or_none (Some cause) = refl

  -- it may begin where the image has a gate
  pub begin_refusal : (mount : Bool) → may_begin name mount declared ≡ command_refusal start
  begin_refusal true = ap (λ (o : Option ℕ). on_host o (λ h. begins_refusal h true declared)) number_is ∙ or_none (command_refusal start)
  begin_refusal false = ap (λ (o : Option ℕ). on_host o (λ h. begins_refusal h false declared)) number_is ∙ or_none (command_refusal start)

  -- a file system is refused by its numbers alone, before any operation
  pub make_refusal : (request : MkfsRequest) → refusal_of (call.Makes name request) declared ≡ option_map cause_of (early_refusal request.unit request.log (line_bytes * length start))
  unfolding refusal_of
  make_refusal request = ap (λ (o : Option ℕ). on_host o (λ h. makes_refusal request.unit request.log h declared)) number_is
      ∙ or_none (option_map cause_of (early_refusal request.unit request.log (line_bytes * length start)))

  -- Its events: it is declared, and does one thing.

  module _ (files : Files) (image : IsImage start) (me_sound : IsUuid me) where
    pub record Two (e : Event) (journal : List Note) (last : Session) : Type 0 where
      pub mid : Session
      pub notes : List Note
      pub mid_is : mid.machines ≡ declared
      pub copied_is : mid.copied ≡ 0
      pub between : Between start mid.machines (Host name me ∷ [])
      pub does : DoesEvent files e mid notes last
      pub journal_is : journal ≡ Host name me ∷ notes

    two : (e : Event) (journal : List Note) (last : Session) → Follows files (event.Host name me ∷ e ∷ []) (first_session start) journal last → Two e journal last
    two e journal last f =
        let first = declares f.0.machines f.1 f.3.0 in
        let rest = f.4 in
        let clean : IsFaultless f.1 = subst IsFaultless (sym first.0) refl in
        record {
          mid = f.0;
          notes = rest.1;
          mid_is = first.1;
          copied_is = f.3.1;
          between = subst (Between start f.0.machines) first.0 (one_more start files (event.Host name me) me_sound tt (first_session start) f.0 [] f.1 (at_start start files [] tt image) clean f.3);
          does = subst (λ (z : Session). DoesEvent files e f.0 rest.1 z) (sym rest.4.1) rest.3;
          journal_is =
              f.5 ∙ ap (λ (z : List Note). z ++ f.2) first.0
              ∙ ap (λ (z : List Note). Host name me ∷ z) (rest.5 ∙ ap (λ (z : List Note). rest.1 ++ z) rest.4.0 ∙ append-nil rest.1);
        }

    alone : (journal : List Note) (last : Session) → Follows files (event.Host name me ∷ []) (first_session start) journal last → journal ≡ Host name me ∷ []
    alone journal last f = f.5 ∙ ap (λ (z : List Note). z ++ f.2) (declares f.0.machines f.1 f.3.0).0 ∙ ap (λ (z : List Note). Host name me ∷ z) f.4.0

    none_taken : (count : ℕ) → let none : List Event = [] in take count none ≡ none
    none_taken zero = refl
    none_taken (suc count) = refl

    -- where its journal ends in a note that isn't of its own declaring, it did the one thing
    pub one_event : (e : Event) (test : Note → Bool) → test (Host name me) ≡ false
        → (journal : List Note) (last : Session) (count : ℕ) (events : List Event) → events ≡ event.Host name me ∷ take count (e ∷ [])
        → Follows files events (first_session start) journal last → last_passes test journal ≡ true → Two e journal last
    one_event e test other journal last zero events is follows passes =
        absurd (let same = alone journal last (subst (λ (es : List Event). Follows files es (first_session start) journal last) is follows) in
        let ended = ap (last_passes test) same in cc)
    one_event e test other journal last (suc count) events is follows passes =
        two e journal last (subst (λ (es : List Event). Follows files es (first_session start) journal last) (is ∙ ap (λ (es : List Event). event.Host name me ∷ e ∷ es) (none_taken count)) follows)
