-- What the top call says of a script of whole commands that shelf, sink or memory ended.
use Prim.Native.Nat.{zero, suc}
use Rattle.std.proofs.Common.{◌≡◌, ◌⊎◌, inl, inr, ℕ, ◌≤◌, List, [], ◌∷◌, ◌++◌, ◌+◌, length, take, Some, refl, ap, ap₂, sym, ◌∙◌, subst, arith}
use Rattle.std.specs.Prelude.{slice_get, Ok}
use Rattle.std.specs.FinMap as finmap
use Rattle.std.proofs.lemmas.List.{append-nil, append_assoc}
use Rattle.std.proofs.lemmas.Option.{same_Some}
use Rattle.fam_base.specs.Image.{Image}
use Rattle.fam_format.specs.Params.{IsUuid}
use Rattle.fam_media.specs.Files.{Files}
use Rattle.fam_journal.specs.declared.event.Event.{Event}
use Rattle.fam_outcomes.specs.declared.status.Status.{Status}
use Rattle.fam_journal.specs.Ends.{AllDone, Ending, EndsOutOfMemory, EndsOutOfMemoryBroken, HasCounted, IsFaultless, MkfsFails, ReadsAs, SinkFails, SourceFails, faults_of}
use Rattle.fam_journal.specs.Events.{DoesEvent, Session, first_session}
use Rattle.fam_journal.specs.Follows.{Follows}
use Rattle.fam_journal.specs.Laws.{AreSound, IsImage}
use Rattle.fam_journal.specs.Notes.{Note}
use Rattle.fam_journal.specs.Past.{past_of}
use Rattle.fam_outcomes.specs.Programs.{CommandRuns, EndsEarly, Grammar, IsWholeRun, OneShot, Script, ScriptPuts, ScriptRuns, ShotRuns, Single, Storms, TopEnds, script_status}
use Rattle.fam_outcomes.specs.Runs.{HasRisen, IsCaused, IsPut, Outside, RunsOn}
use Rattle.fam_outcomes.proofs.Causes.{broken_faults, risen}
use Rattle.fam_journal.proofs.Runs.Unique.{clean_prefix, faults_both}
use Rattle.fam_whole.specs.Whole.{AreWhole, EndsFront, EndsNone, FaultsNext, FrontRun, IsExact, UpToFault, WholeRun}
use Rattle.fam_whole.proofs.Exact.{exact}
use Rattle.fam_whole.specs.Alone.{ShotFront}
use Rattle.fam_whole.proofs.Shots.{IsSoundShot, shot_events_sound, shot_events_whole, sound_take, whole_take}

take_all : (events : List Event) → take (length events) events ≡ events
take_all [] = refl
take_all (e ∷ events) = ap (λ (es : List Event). e ∷ es) (take_all events)

-- some first events are done, and the next one
follows_next : (files : Files) (events : List Event) (count : ℕ) (e : Event) → slice_get events count ≡ Some e
    → (old mid new : Session) (first rest : List Note) → Follows files (take count events) old first mid → DoesEvent files e mid rest new
    → Follows files (take (suc count) events) old (first ++ rest) new
follows_next files [] count e is old mid new first rest follows does = absurd cc
follows_next files (x ∷ events) zero e is old mid new first rest follows does =
    let here : mid ≡ old = follows.1 in
    let same : x ≡ e = same_Some x e is in (
      new,
      rest,
      [],
      subst (λ (z : Event). DoesEvent files z old rest new) (sym same)
          (subst (λ (s : Session). DoesEvent files e s rest new) here does),
      (refl, refl),
      ap (λ (z : List Note). z ++ rest) follows.0
          ∙ sym (append-nil rest),
    )
follows_next files (x ∷ events) (suc count) e is old mid new first rest follows does = (
  follows.0,
  follows.1,
  follows.2 ++ rest,
  follows.3,
  follows_next files events count e is follows.0 mid new follows.2 rest follows.4 does,
  ap (λ (z : List Note). z ++ rest) follows.5 ∙ append_assoc follows.1 follows.2 rest,
)

module _ (out : Outside) (sound_media : HasRisen out.media.old.faults out.media.new.faults → ⊥) (files : Files) (start : Image)
    (image : IsImage start) (events : List Event) (sound : AreSound events) (whole : AreWhole events) where
  abbrev run_of : (count : ℕ) (notes : List Note) (last : Session) → Follows files (take count events) (first_session start) notes last → IsFaultless notes → WholeRun files (take count events) start
  run_of count notes last follows clean = record { whole = whole_take count events whole; journal = notes; last = last; follows = follows; clean = clean }

  exact_of : (count : ℕ) (run : WholeRun files (take count events) start) → IsExact run
  exact_of count run = exact start files (take count events) image (sound_take count events sound) run

  -- all that was noted is of those events
  whole_left : (ending : Ending) (count : ℕ) → (ending ≡ AllDone → take count events ≡ events) → (notes : List Note) (last : Session)
      → Follows files (take count events) (first_session start) notes last → IsFaultless notes → out.media.new.image ≡ Some last.machines.memory
      → FrontRun files events start out ending notes
  whole_left ending count all notes last follows clean now =
      let run = run_of count notes last follows clean in
      record {
        count = count;
        run = run;
        exact = exact_of count run;
        part = [];
        left = last.machines.memory;
        image = now;
        all = all;
        is_left =
            inl (refl, (exact_of count run).image);
        journal_is = sym (append-nil notes);
      }

  module _ (journal : List Note) (clean : IsFaultless journal) where
    broken : (1 ≤ faults_of journal) → ⊥
    broken some = absurd (omega (arith, clean, some))

    left_by : (ending : Ending) → IsCaused ending events journal out → RunsOn ending files events start out.media.new.image journal → FrontRun files events start out ending journal
    left_by AllDone caused on =
        whole_left AllDone (length events) (λ e. take_all events) journal on.last
        (subst (λ (es : List Event). Follows files es (first_session start) journal on.last) (sym (take_all events)) on.follows) clean on.left
    left_by MkfsFails caused on = absurd (broken (broken_faults events journal caused))
    left_by (SourceFails end) caused on = whole_left (SourceFails end) on.follows.count (λ e. absurd cc) journal on.last on.follows.follows clean on.left
    left_by EndsOutOfMemory caused on = elim on.follows [
      | inl f ↦ whole_left EndsOutOfMemory f.count (λ e. absurd cc) journal on.last f.follows clean on.left
      | inr f ↦
          let run = run_of f.count f.whole_notes f.mid f.whole (clean_prefix f.whole_notes f.part_notes journal f.joined clean) in
          record {
            count = f.count;
            run = run;
            exact = exact_of f.count run;
            part = f.part_notes;
            left = on.last.machines.memory;
            image = on.left;
            all = λ e. absurd cc;
            is_left = inr (
              refl,
              f.event,
              f.is,
              record {
                last = on.last;
                does = f.part;
                left_is = refl;
                reads =
                    subst (λ (z : List Note). ReadsAs (past_of start z).state on.last.machines.memory) f.joined on.reads;
              },
            );
            journal_is = f.joined;
          }
    ]
    left_by EndsOutOfMemoryBroken caused on = absurd (broken (broken_faults events journal caused))
    left_by SinkFails caused on =
        let f = on.follows in
        whole_left SinkFails (suc f.count) (λ e. absurd cc) journal on.last
        (subst (λ (z : List Note). Follows files (take (suc f.count) events) (first_session start) z on.last) (sym f.joined)
        (follows_next files events f.count f.event f.is (first_session start) f.mid on.last f.whole_notes f.part_notes f.whole f.part)) clean
        on.left

  module _ (given own : Status) (text : List ℕ) (put : IsPut own given text out) where
    front : (ending : Ending) (journal : List Note) → FrontRun files events start out ending journal → ScriptPuts ending journal text
        → own ≡ script_status ending journal → EndsFront files events start out given
    front ending journal x shows is = record {
      ending = ending;
      journal = journal;
      front = x;
      text = text;
      shows = shows;
      put = subst (λ (s : Status). IsPut s given text out) is put;
    }

-- no note tells a fault where the media's count never rose
none_told : (out : Outside) → (HasRisen out.media.old.faults out.media.new.faults → ⊥) → (journal : List Note) → HasCounted out.media.old.faults out.media.new.faults journal → IsFaultless journal
none_told out media journal counted = go (faults_of journal) refl
  where
    go : (n : ℕ) → faults_of journal ≡ n → IsFaultless journal
    go zero is = is
    go (suc n) is = absurd (media (risen out.media.old.faults out.media.new.faults journal counted (omega (arith, is))))

-- where the media didn't fail, some first events were run, exactly; or none was
pub program_front : (out : Outside) → (HasRisen out.media.old.faults out.media.new.faults → ⊥)
    → (grammar : Grammar) (storms : Storms) (name : List ℕ) (files : Files) (bytes : List ℕ) (events : List Event) → out.shelf.old.files ≡ Some files
    → finmap.get files name ≡ Some bytes → grammar bytes ≡ Ok events → (start : Image) → out.media.old.image ≡ Some start → IsImage start
    → AreSound events → AreWhole events
    → (given : Status) → TopEnds grammar storms (Some (Script name)) out given → EndsNone grammar storms (Some (Script name)) out given ⊎ EndsFront files events start out given
program_front out media grammar storms name files bytes events told holds reads start told_start image sound whole given top = by_shows top.shows
  where
    runs : ScriptRuns grammar name out given top.text top.own → EndsFront files events start out given
    runs x = subst (λ (es : List Event). EndsFront files es start out given) same
        (front out media files start image x.events sound' whole' given top.own top.text top.put x.ending x.run.journal
        (left_by out media files start image x.events sound' whole' x.run.journal (none_told out media x.run.journal x.run.counted) x.ending
        x.run.caused (x.run.told start told_start files told)) x.run.text_is x.run.status_is)
      where
        same : x.events ≡ events
        same =
            let bytes_same : x.bytes ≡ bytes = same_Some x.bytes bytes (sym (x.holds files told) ∙ holds) in
            let read = x.reads in cc

        sound' : AreSound x.events
        sound' = subst AreSound (sym same) sound

        whole' : AreWhole x.events
        whole' = subst AreWhole (sym same) whole

    by_shows : EndsEarly grammar storms (Some (Script name)) out top.text top.own ⊎ CommandRuns grammar storms (Some (Script name)) out given top.text
        top.own → EndsNone grammar storms (Some (Script name)) out given ⊎ EndsFront files events start out given
    by_shows (inl x) = inl (record { text = top.text; own = top.own; early = x; put = top.put })
    by_shows (inr x) = inr (runs x)

-- so it is of a command of its own
pub shot_front : (out : Outside) → (HasRisen out.media.old.faults out.media.new.faults → ⊥)
    → (grammar : Grammar) (storms : Storms) (me : List ℕ) (shot : OneShot) (files : Files) → out.shelf.old.files ≡ Some files → (start : Image)
    → out.media.old.image ≡ Some start → IsImage start → IsUuid me → IsSoundShot shot
    → (given : Status) → TopEnds grammar storms (Some (Single me shot)) out given → EndsNone grammar storms (Some (Single me shot)) out given ⊎ ShotFront files start me shot out given
shot_front out media grammar storms me shot files told start told_start image me_sound shot_is given top = by_shows top.shows
  where
    runs : ShotRuns me shot out top.text top.own → ShotFront files start me shot out given
    runs x =
        let steps : IsWholeRun me shot x.events x.run.journal = x.run.text_is.0 in
        record {
          ending = x.ending;
          events = x.events;
          journal = x.run.journal;
          steps = steps;
          front =
              left_by out media files start image x.events (shot_events_sound me shot me_sound shot_is x.events x.run.journal steps)
              (shot_events_whole me shot x.events x.run.journal steps) x.run.journal
              (none_told out media x.run.journal x.run.counted) x.ending x.run.caused (x.run.told start told_start files told);
          text = top.text;
          shows = x.run.text_is.1;
          put = subst (λ (s : Status). IsPut s given top.text out) x.run.status_is top.put;
        }

    by_shows : EndsEarly grammar storms (Some (Single me shot)) out top.text top.own ⊎ CommandRuns grammar storms
        (Some (Single me shot)) out given top.text top.own → EndsNone grammar storms (Some (Single me shot)) out given
        ⊎ ShotFront files start me shot out given
    by_shows (inl x) = inl (record { text = top.text; own = top.own; early = x; put = top.put })
    by_shows (inr x) = inr (runs x)

-- Up to the first fault.

record Reached (files : Files) (events : List Event) (old : Session) (journal : List Note) : Type 0 where
  count : ℕ
  mid : Session
  notes : List Note
  follows : Follows files (take count events) old notes mid
  clean : IsFaultless notes
  rest : List Note
  joined : journal ≡ notes ++ rest
  next : ((rest ≡ []) × (take count events ≡ events)) ⊎ FaultsNext files events count mid rest

-- one event that tells no fault, and those behind it
one_reached : (files : Files) (event : Event) (events : List Event) (old mid : Session) (first rest journal : List Note)
    → DoesEvent files event old first mid → IsFaultless first → journal ≡ first ++ rest → Reached files events mid rest
    → Reached files (event ∷ events) old journal
one_reached files event events old mid first rest journal does clean joined x = record {
  count = suc x.count;
  mid = x.mid;
  notes = first ++ x.notes;
  follows = (mid, first, x.notes, does, x.follows, refl);
  clean = faults_both first x.notes ∙ ap₂ (λ (n k : ℕ). n + k) clean x.clean;
  rest = x.rest;
  joined = joined ∙ ap (λ (ns : List Note). first ++ ns) x.joined ∙ sym (append_assoc first x.notes x.rest);
  next = elim x.next [
    | inl all ↦ inl (all.0, ap (λ (es : List Event). event ∷ es) all.1)
    | inr f ↦ inr (record { event = f.event; is = f.is; notes = f.notes; more = f.more; joined = f.joined; behind = f.behind; does = f.does; faults = f.faults })
  ];
}

-- by how many faults the first event tells
count_reached : (files : Files) (event : Event) (events : List Event) (old new : Session) (journal : List Note)
    → (follows : Follows files (event ∷ events) old journal new) → Reached files events follows.0 follows.2 → (n : ℕ) → faults_of follows.1 ≡ n
    → Reached files (event ∷ events) old journal
count_reached files event events old new journal follows rest zero is = one_reached files event events old follows.0 follows.1 follows.2 journal follows.3 is follows.5 rest
count_reached files event events old new journal follows rest (suc n) is = record {
  count = 0;
  mid = old;
  notes = [];
  follows = (refl, refl);
  clean = refl;
  rest = journal;
  joined = refl;
  next = inr (record { event = event; is = refl; notes = follows.1; more = follows.2; joined = follows.5; behind = follows.0; does = follows.3; faults = omega (arith, is) });
}

reached : (files : Files) (events : List Event) (old new : Session) (journal : List Note) → Follows files events old journal new → Reached files events old journal
reached files [] old new journal follows =
    record { count = 0; mid = old; notes = []; follows = (refl, refl); clean = refl; rest = []; joined = follows.0; next = inl (refl, refl) }
reached files (event ∷ events) old new journal follows =
    count_reached files event events old new journal follows (reached files events follows.0 new follows.2 follows.4) (faults_of follows.1) refl

pub up_to_fault : (files : Files) (events : List Event) (start : Image) → IsImage start → AreSound events → AreWhole events
    → (journal : List Note) (last : Session) → Follows files events (first_session start) journal last → UpToFault files events start journal
up_to_fault files events start image sound whole journal last follows =
    let x = reached files events (first_session start) last journal follows in
    let run : WholeRun files (take x.count events) start = record { whole = whole_take x.count events whole; journal = x.notes; last = x.mid; follows = x.follows; clean = x.clean } in
    record {
      count = x.count;
      run = run;
      exact = exact start files (take x.count events) image (sound_take x.count events sound) run;
      rest = x.rest;
      journal_is = x.joined;
      next = x.next;
    }
