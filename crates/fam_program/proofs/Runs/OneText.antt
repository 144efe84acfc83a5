-- Runs with one text at their end, as the top call tells them.
use Prim.Native.Nat.{zero, suc}
use Rattle.std.proofs.Common.{◌≡◌, ◌⊎◌, ℕ, inl, inr, Bool, true, false, List, [], ◌∷◌, length, take, Option, Some, None, Ok, refl, sym, ◌∙◌, subst, arith}
use Rattle.std.specs.Prelude.{slice_get}
use Rattle.std.proofs.lemmas.List.{take_all}
use Rattle.std.proofs.lemmas.List.Elements.{All-head, All-tail}
use Rattle.std.proofs.lemmas.Option.{same_Some}
use Rattle.fam_grammar.specs.Scripts.{script_events}
use Rattle.fam_storm.specs.Events.{ReadNoSource}
use Rattle.fam_storm.specs.Storm.{storm}
use Rattle.fam_journal.specs.declared.event.Event.{Event}
use Rattle.fam_outcomes.specs.declared.status.Status.{Status}
use Rattle.fam_outcomes.specs.declared.status.Status.TheVariants as status
use Rattle.fam_journal.specs.Ends.{AllDone, Ending, EndsOutOfMemory, EndsOutOfMemoryBroken, MkfsFails, SourceFails}
use Rattle.fam_journal.specs.EventShapes.{FollowsShape}
use Rattle.fam_journal.specs.Events.{event_source, first_session}
use Rattle.fam_journal.specs.Follows.{Follows, SourceEnd}
use Rattle.fam_journal.specs.Notes.{Note}
use Rattle.fam_outcomes.specs.Programs.{Command, Early, EarlyOutOfMemory, IsEarly, Prints, Storm, StormPuts, TopEnds, early_status, early_text, memory_line, storm_line, storm_status}
use Rattle.fam_outcomes.specs.Runs.{IsPut, NoneFalls, Outside}
use Rattle.fam_program.specs.Puts.{Put}
use Rattle.fam_program.specs.Runs.{HasEnded}
use Rattle.fam_program.proofs.Runs.Ends.{risen}
use Rattle.fam_program.proofs.Texts.Pieces.{IsOwn}

-- a text that is put alone
pub put_alone : (out : Outside) (text : List ℕ) (own given : Status) → IsOwn own → Put own text out.sink given → IsPut own given text out
put_alone out text own given other (inl x) = record { outcome = inl x; rose = λ e. absurd (other (sym x.0 ∙ e)) }
put_alone out text own given other (inr x) = record { outcome = inr (x.0, x.1.part); rose = λ e. risen out.sink.old.faults out.sink.new.faults x.1.rose }

-- no status but one is that of a sink that failed
done_own : IsOwn status.Done
done_own e = absurd cc

pub media_own : IsOwn status.MediaFault
media_own e = absurd cc

pub source_own : IsOwn status.SourceFault
source_own e = absurd cc

pub memory_own : IsOwn status.OutOfMemory
memory_own e = absurd cc

-- No event was run.

module _ (command : Option Command) (out : Outside) (given : Status) (same : out.media.new.image ≡ out.media.old.image) (later : NoneFalls out) where
  early : (why : Early) → IsEarly script_events storm command out why → IsOwn (early_status why)
      → Put (early_status why) (early_text why) out.sink given → TopEnds script_events storm command out given
  early why is other put = record {
    text = early_text why;
    own = early_status why;
    shows = inl record { early = why; is = is; text_is = refl; status_is = refl; same = same };
    later = later;
    put = put_alone out (early_text why) (early_status why) given other put;
  }

  pub early_wants : Put status.OutOfMemory memory_line out.sink given → TopEnds script_events storm command out given
  early_wants put = early EarlyOutOfMemory tt memory_own put

pub prints_top : (seed size : ℕ) (prints : Bool) (out : Outside) (given : Status) → prints ≡ true → out.media.new.image ≡ out.media.old.image
    → NoneFalls out → Put status.Done (storm seed size) out.sink given → TopEnds script_events storm (Some (Storm seed size prints)) out given
prints_top seed size prints out given is same later put =
    subst (λ (p : Bool). TopEnds script_events storm (Some (Storm seed size p)) out given) (sym is)
    (early (Some (Storm seed size true)) out given same later (Prints (storm seed size)) refl done_own put)

-- where nothing is printed
pub not_printed : (seed size : ℕ) (prints : Bool) (out : Outside) (given : Status) → prints ≡ false
    → TopEnds script_events storm (Some (Storm seed size false)) out given → TopEnds script_events storm (Some (Storm seed size prints)) out given
not_printed seed size prints out given is top = subst (λ (p : Bool). TopEnds script_events storm (Some (Storm seed size p)) out given) (sym is) top

-- No source ends a run of events that read none.

member : (events : List Event) (k : ℕ) (e : Event) → slice_get events k ≡ Some e → ReadNoSource events → event_source e ≡ None
member [] k e is none = absurd cc
member (x ∷ events) zero e is none = subst (λ (y : Event). event_source y ≡ None) (same_Some x e is) (All-head (λ (y : Event). event_source y ≡ None) x events none)
member (x ∷ events) (suc k) e is none = member events k e is (All-tail (λ (y : Event). event_source y ≡ None) x events none)

not_both : (x : List ℕ × List ℕ) (o : Option (List ℕ × List ℕ)) → o ≡ Some x → o ≡ None → ⊥
not_both x o some none = absurd cc

pub no_source_ends : (end : SourceEnd) (out : Outside) (events : List Event) (journal : List Note) → ReadNoSource events → HasEnded (SourceFails end) out events journal → ⊥
no_source_ends end out events journal none x = not_both (x.shape.host, x.shape.source) (event_source x.shape.event) x.shape.reads (member events x.shape.count x.shape.event x.shape.is none)

-- No memory is left for what is put of a run that has ended.

pub done_wants : (out : Outside) (events : List Event) (journal : List Note) → HasEnded AllDone out events journal → HasEnded EndsOutOfMemory out events journal
done_wants out events journal x = record {
  named = x.named;
  shape = inl record { count = length events; follows = subst (λ (es : List Event). FollowsShape out.lines es [] journal) (sym whole) x.shape };
  counted = x.counted;
  caused = tt;
  told = λ start told_is files files_are.
      let r = x.told start told_is files files_are in
      record {
        last = r.last;
        legal = r.legal;
        follows = inl record { count = length events; follows = subst (λ (es : List Event). Follows files es (first_session start) journal r.last) (sym whole) r.follows };
        left = r.left;
        reads = r.reads;
      };
}
  where
    whole : take (length events) events ≡ events
    whole = take_all (length events) events (omega arith)

pub broken_wants : (out : Outside) (events : List Event) (journal : List Note) → HasEnded MkfsFails out events journal → HasEnded EndsOutOfMemoryBroken out events journal
broken_wants out events journal x = record {
  named = x.named;
  shape = x.shape;
  counted = x.counted;
  caused = x.caused;
  told = λ start told_is files files_are.
      let r = x.told start told_is files files_are in
      record { last = r.last; legal = r.legal; follows = r.follows; left = r.left; reads = r.reads };
}

pub source_wants : (end : SourceEnd) (out : Outside) (events : List Event) (journal : List Note) → HasEnded (SourceFails end) out events journal → HasEnded EndsOutOfMemory out events journal
source_wants end out events journal x = record {
  named = x.named;
  shape = inl record { count = x.shape.count; follows = x.shape.follows };
  counted = x.counted;
  caused = tt;
  told = λ start told_is files files_are.
      let r = x.told start told_is files files_are in
      record { last = r.last; legal = r.legal; follows = inl record { count = r.follows.count; follows = r.follows.follows }; left = r.left; reads = r.reads };
}

-- A storm was run.

module _ (seed size : ℕ) (events : List Event) (reads : script_events (storm seed size) ≡ Ok events) (out : Outside) (given : Status) (later : NoneFalls out) (journal : List Note) where
  ran : (ending : Ending) (text : List ℕ) → HasEnded ending out events journal → StormPuts seed size events ending journal text
      → IsOwn (storm_status ending journal) → Put (storm_status ending journal) text out.sink given
      → TopEnds script_events storm (Some (Storm seed size false)) out given
  ran ending text x puts other put = record {
    text = text;
    own = storm_status ending journal;
    shows = inr record {
      ending = ending;
      events = events;
      reads = reads;
      run = record { journal = journal; named = x.named; shape = x.shape; counted = x.counted; caused = x.caused; text_is = puts; status_is = refl; told = x.told };
    };
    later = later;
    put = put_alone out text (storm_status ending journal) given other put;
  }

  -- no memory was left for an event
  pub storm_wants : HasEnded EndsOutOfMemory out events journal → Put status.OutOfMemory memory_line out.sink given → TopEnds script_events storm (Some (Storm seed size false)) out given
  storm_wants x put = ran EndsOutOfMemory memory_line x refl memory_own put

  -- all events are done
  pub storm_done : HasEnded AllDone out events journal → Put status.Done (storm_line seed size events journal) out.sink given ⊎ Put status.OutOfMemory memory_line out.sink given
      → TopEnds script_events storm (Some (Storm seed size false)) out given
  storm_done x (inl put) = ran AllDone (storm_line seed size events journal) x refl done_own put
  storm_done x (inr put) = storm_wants (done_wants out events journal x) put

  -- the media failed in a mkfs
  pub storm_broken : HasEnded MkfsFails out events journal → Put status.MediaFault (storm_line seed size events journal) out.sink given ⊎ Put status.OutOfMemory memory_line out.sink given
      → TopEnds script_events storm (Some (Storm seed size false)) out given
  storm_broken x (inl put) = ran MkfsFails (storm_line seed size events journal) x refl media_own put
  storm_broken x (inr put) = ran EndsOutOfMemoryBroken memory_line (broken_wants out events journal x) refl memory_own put
