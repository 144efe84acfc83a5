-- What the top call says of a command of its own: its events are run, and whole.
use Prim.Native.Nat.{zero, suc}
use Rattle.std.proofs.Common.{◌≡◌, ◌⊎◌, inl, inr, ℕ, true, List, [], ◌∷◌, map, take, Some, refl, ap, sym, ◌∙◌, subst}
use Rattle.std.specs.Prelude.{⊤, option_map}
use Rattle.fam_base.specs.declared.cmd.Attr.{Attr}
use Rattle.fam_base.specs.declared.cmd.Cmd.TheVariants as cmd
use Rattle.fam_base.specs.Image.{Image}
use Rattle.fam_format.specs.Params.{IsUuid}
use Rattle.fam_media.specs.Files.{Files}
use Rattle.fam_media.specs.Outside.{with_piece}
use Rattle.fam_journal.specs.declared.event.Ask.TheVariants as ask
use Rattle.fam_journal.specs.declared.event.Event.{Event}
use Rattle.fam_journal.specs.declared.event.Event.TheVariants as event
use Rattle.fam_outcomes.specs.declared.status.Status.{Status}
use Rattle.fam_outcomes.specs.declared.status.Status.TheVariants as status
use Rattle.fam_journal.specs.Calls.{IsSoundRequest}
use Rattle.fam_journal.specs.Complete.{IsComplete}
use Rattle.fam_journal.specs.Ends.{AllDone, Ending, EndsOutOfMemory}
use Rattle.fam_journal.specs.Laws.{AreSound, IsImage}
use Rattle.fam_journal.specs.Notes.{Note}
use Rattle.fam_outcomes.specs.Programs.{CommandRuns, Early, EarlyOutOfMemory, EndsEarly, Grammar, IsEarly, IsWholeRun, Makes, MakesParents, NoCommand, OneShot, Runs, ShotRuns, ShotText, Single, Storms, TopEnds, done_status, early_status, ends_shot, last_passes, path_prefixes, shot_events, shot_status}
use Rattle.fam_outcomes.specs.Runs.{IsPut, NoneRose, Outside, RunsOn}
use Rattle.fam_outcomes.specs.Texts.{shown}
use Rattle.fam_outcomes.proofs.Faultless.{run_complete}
use Rattle.fam_whole.specs.Alone.{ParentsEnd}
use Rattle.fam_whole.specs.Whole.{AreWhole, EndsAs, IsExact, WholeRun}
use Rattle.fam_whole.proofs.Exact.{exact}
use Rattle.fam_whole.proofs.Scripts.{put_whole}

-- Its events.

-- a new file system's UUID is one
abbrev pub IsSoundShot : OneShot → Type 0
IsSoundShot (Makes request) = IsSoundRequest request
IsSoundShot (Runs what) = ⊤
IsSoundShot (MakesParents path attr) = ⊤

module _ (name : List ℕ) where
  sound_shot : (shot : OneShot) → IsSoundShot shot → AreSound (shot_events name shot)
  sound_shot (Makes request) sound = (sound, tt)
  sound_shot (Runs what) sound = (tt, tt)
  sound_shot (MakesParents path attr) sound = go (path_prefixes path)
    where
      go : (prefixes : List (List ℕ)) → AreSound (map (λ prefix. event.Run name (ask.Plain (cmd.Mkdir prefix attr))) prefixes)
      go [] = tt
      go (prefix ∷ prefixes) = (tt, go prefixes)

  whole_shot : (shot : OneShot) → AreWhole (shot_events name shot)
  whole_shot (Makes request) = (tt, tt)
  whole_shot (Runs what) = (tt, tt)
  whole_shot (MakesParents path attr) = go (path_prefixes path)
    where
      go : (prefixes : List (List ℕ)) → AreWhole (map (λ prefix. event.Run name (ask.Plain (cmd.Mkdir prefix attr))) prefixes)
      go [] = tt
      go (prefix ∷ prefixes) = (tt, go prefixes)

pub sound_take : (count : ℕ) (events : List Event) → AreSound events → AreSound (take count events)
sound_take zero events sound = tt
sound_take (suc count) [] sound = tt
sound_take (suc count) (e ∷ events) sound = (sound.0, sound_take count events sound.1)

pub whole_take : (count : ℕ) (events : List Event) → AreWhole events → AreWhole (take count events)
whole_take zero events whole = tt
whole_take (suc count) [] whole = tt
whole_take (suc count) (e ∷ events) whole = (whole.0, whole_take count events whole.1)

-- the events of its run
pub shot_events_sound : (me : List ℕ) (shot : OneShot) → IsUuid me → IsSoundShot shot → (events : List Event) (journal : List Note) → IsWholeRun me shot events journal → AreSound events
shot_events_sound me shot me_sound shot_is events journal steps =
    subst AreSound (sym steps.events_are) (me_sound, sound_take steps.count (shot_events steps.name shot) (sound_shot steps.name shot shot_is))

pub shot_events_whole : (me : List ℕ) (shot : OneShot) → (events : List Event) (journal : List Note) → IsWholeRun me shot events journal → AreWhole events
shot_events_whole me shot events journal steps =
    subst AreWhole (sym steps.events_are) (tt, whole_take steps.count (shot_events steps.name shot) (whole_shot steps.name shot))

-- Its run.

pub record ShotRun (files : Files) (start : Image) (me : List ℕ) (shot : OneShot) (out : Outside) (given : Status) : Type 0 where
  pub events : List Event
  pub sound : AreSound events
  pub run : WholeRun files events start
  pub steps : IsWholeRun me shot events run.journal
  pub ended : last_passes (ends_shot shot) run.journal ≡ true
  pub ends : EndsAs out given (shown run.journal) run.last.machines.memory (done_status shot run.journal)

module _ (out : Outside) (none : NoneRose out) (me : List ℕ) (shot : OneShot) (start : Image) (files : Files)
    (told_start : out.media.old.image ≡ Some start) (told : out.shelf.old.files ≡ Some files) (image : IsImage start) (me_sound : IsUuid me)
    (shot_sound : IsSoundShot shot) where
  module _ (grammar : Grammar) (storms : Storms) (given : Status) where
    early_memory : (early : Early) → IsEarly grammar storms (Some (Single me shot)) out early → early_status early ≡ status.OutOfMemory
    early_memory NoCommand x = absurd cc
    early_memory EarlyOutOfMemory x = refl
    early_memory e x = absurd x

    module _ (text : List ℕ) (own : Status) (put : IsPut own given text out) where
      abbrev Comes : Type 0
      Comes = (given ≡ status.OutOfMemory) ⊎ ShotRun files start me shot out given

      shot_ends : ShotRuns me shot out text own → Comes
      shot_ends x = by_ending (run_complete out none x.run.journal x.run.counted x.ending files x.events start out.media.new.image image sound x.run.caused on)
        where
          steps : IsWholeRun me shot x.events x.run.journal
          steps = x.run.text_is.0

          sound : AreSound x.events
          sound = shot_events_sound me shot me_sound shot_sound x.events x.run.journal steps

          whole : AreWhole x.events
          whole = shot_events_whole me shot x.events x.run.journal steps

          on : RunsOn x.ending files x.events start out.media.new.image x.run.journal
          on = x.run.told start told_start files told

          done : x.ending ≡ AllDone → IsComplete files x.events start x.run.journal → ShotRun files start me shot out given
          done e complete =
              let all : RunsOn AllDone files x.events start out.media.new.image x.run.journal = subst (λ (z : Ending). RunsOn z files x.events start out.media.new.image x.run.journal) e on in
              let shows : ShotText shot AllDone x.run.journal text = subst (λ (z : Ending). ShotText shot z x.run.journal text) e x.run.text_is.1 in
              record {
                events = x.events;
                sound = sound;
                run = record { whole = whole; journal = x.run.journal; last = all.last; follows = all.follows; clean = complete.clean };
                steps = steps;
                ended = shows.0;
                ends = record {
                  put = (put_whole out none own given text put).1 ∙ ap (λ (t : List ℕ). option_map (with_piece t) out.sink.old.bytes) shows.1;
                  left_is = all.left;
                  status_is = (put_whole out none own given text put).0 ∙ x.run.status_is ∙ ap (λ (z : Ending). shot_status shot z x.run.journal) e;
                };
              }

          by_ending : ((x.ending ≡ AllDone) × IsComplete files x.events start x.run.journal) ⊎ (x.ending ≡ EndsOutOfMemory) → Comes
          by_ending (inl d) = inr (done d.0 d.1)
          by_ending (inr e) = inl ((put_whole out none own given text put).0 ∙ x.run.status_is ∙ ap (λ (z : Ending). shot_status shot z x.run.journal) e)

      shown_ends : EndsEarly grammar storms (Some (Single me shot)) out text own ⊎ CommandRuns grammar storms (Some (Single me shot)) out given text own → Comes
      shown_ends (inl x) = inl ((put_whole out none own given text put).0 ∙ x.status_is ∙ early_memory x.early x.is)
      shown_ends (inr x) = shot_ends x

    -- it is run to its end; or there is no memory
    pub shot_run : TopEnds grammar storms (Some (Single me shot)) out given → (given ≡ status.OutOfMemory) ⊎ ShotRun files start me shot out given
    shot_run top = shown_ends top.text top.own top.put top.shows

-- Directories along a path.

pub parents_end : (files : Files) (start : Image) (me path : List ℕ) (attr : Attr) (out : Outside) (given : Status) → IsImage start
    → ShotRun files start me (MakesParents path attr) out given → ParentsEnd files start me path attr out given
parents_end files start me path attr out given image x =
    let is : IsExact x.run = exact start files x.events image x.sound x.run in
    record {
      events = x.events;
      run = x.run;
      steps = x.steps;
      exact = is;
      ends = record { put = x.ends.put; left_is = x.ends.left_is ∙ ap Some is.image; status_is = x.ends.status_is };
    }
