-- While a state is bad, memory stays over whole runs: whatever events come, one after another or in part, that end no history.
use Rattle.std.proofs.Common.{◌≡◌, ℕ, inl, inr, List, [], ◌∷◌, ◌++◌, take, ap, ◌∙◌, subst}
use Rattle.fam_base.specs.Image.{Image}
use Rattle.fam_media.specs.Files.{Files}
use Rattle.fam_journal.specs.declared.event.Ask.{Ask}
use Rattle.fam_journal.specs.declared.event.Event.{Event}
use Rattle.fam_journal.specs.declared.event.Event.TheVariants as event
use Rattle.fam_journal.specs.Calls as call
use Rattle.fam_journal.specs.Calls.{Call, Completes, Does, DoesOperations, Unfinished}
use Rattle.fam_journal.specs.Ends.{AllDone, Ending, EventsDone, MkfsFails, EndsOutOfMemory, EndsOutOfMemoryBroken, SinkFails, SourceFails}
use Rattle.fam_journal.specs.Events.{DoesEvent, Continues, CommandBegins, RefusesEvent, PartOf, Session}
use Rattle.fam_journal.specs.Follows.{Follows, FollowsUpTo}
use Rattle.fam_journal.specs.Kept.{Reached}
use Rattle.fam_journal.specs.Laws.{AreSound, IsUncut, NoneEnds}
use Rattle.fam_journal.specs.Machines.{Machines}
use Rattle.fam_journal.specs.Notes.{Note}
use Rattle.fam_journal.specs.Past.{Bad, Damage, Origin, past_of}
use Rattle.fam_journal.proofs.Runs.Following.{begun_kept, event_kept, follows_kept, prefix_sound}
use Rattle.fam_journal.proofs.Runs.Staying.{bad_behind, does_stay, operates_stay}

-- notes in two parts, of which neither ends a history
none_both : (a b : List Note) → NoneEnds (a ++ b) → NoneEnds a × NoneEnds b
none_both [] b none = (tt, none)
none_both (note ∷ a) b none = let r = none_both a b none.1 in ((none.0, r.0), r.1)

none_in : (a b notes : List Note) → notes ≡ a ++ b → NoneEnds notes → NoneEnds a × NoneEnds b
none_in a b notes is none = none_both a b (subst NoneEnds is none)

module _ (start : Image) (files : Files) (origin : Origin) (damage : Damage) (gate : ℕ) where
  -- a run has come to it, and its state is this bad one
  record IsBadAt (state : Machines) (journal : List Note) : Type 0 where
    kept : Reached start state journal
    is : (past_of start journal).state ≡ Bad origin damage gate

  abbrev memory_of : Session → Image
  memory_of s = s.machines.memory

  bad_at : (state : Machines) (journal notes : List Note) (new : Machines) → IsBadAt state journal → NoneEnds notes → Reached start new (journal ++ notes) → IsBadAt new (journal ++ notes)
  bad_at state journal notes new old none kept = record { kept = kept; is = bad_behind start journal notes origin damage gate none old.is }

  -- Events.

  call_stays : (c : Call) (state new : Machines) (journal notes : List Note) → IsBadAt state journal → NoneEnds notes → Does c state notes new → new.memory ≡ state.memory
  call_stays c state new journal notes old none x = does_stay start state journal old.kept origin damage gate old.is notes new none c x

  operations_stay : (h count : ℕ) (state new : Machines) (journal notes : List Note) → IsBadAt state journal → DoesOperations h count state notes new → new.memory ≡ state.memory
  operations_stay h count state new journal notes old x = operates_stay start h count state journal old.kept origin damage gate old.is notes new x

  begun_stays : (name : List ℕ) (what : Ask) (old new : Session) (journal notes : List Note) → IsBadAt old.machines journal → NoneEnds notes
      → CommandBegins files name what old notes new → new.machines.memory ≡ old.machines.memory
  begun_stays name what old new journal notes bad none x = call_stays (call.Begins name x.cmd) old.machines new.machines journal notes bad none x.does

  refused_event_stays : (name : List ℕ) (what : Ask) (old new : Session) (journal notes : List Note) → IsBadAt old.machines journal → NoneEnds notes
      → RefusesEvent files name what old notes new → new.machines.memory ≡ old.machines.memory
  refused_event_stays name what old new journal notes bad none (inl x) = ap memory_of x.same
  refused_event_stays name what old new journal notes bad none (inr x) = call_stays (call.Refuses name x.cause) old.machines new.machines journal notes bad none x.does

  goes_stay : (P : ℕ → Machines → List Note → Machines → Type 0)
      → ((h : ℕ) (state new : Machines) (journal notes : List Note) → IsBadAt state journal → P h state notes new → new.memory ≡ state.memory)
      → (name : List ℕ) (what : Ask) (old new : Session) (journal notes : List Note) → IsBadAt old.machines journal → NoneEnds notes
      → Continues P files name what old notes new → new.machines.memory ≡ old.machines.memory
  goes_stay P stay name what old new journal notes bad none x =
      let parts = none_in x.first x.rest notes x.joined none in
      let kept = begun_kept start files name what old x.mid journal x.first bad.kept x.begun in
      stay x.host x.mid.machines new.machines (journal ++ x.first) x.rest (bad_at old.machines journal x.first x.mid.machines bad parts.0 kept) x.does
      ∙ begun_stays name what old x.mid journal x.first bad parts.0 x.begun

  completes_stay : (h : ℕ) (state new : Machines) (journal notes : List Note) → IsBadAt state journal → Completes h state notes new → new.memory ≡ state.memory
  completes_stay h state new journal notes bad x = operations_stay h x.count state new journal notes bad x.does

  unfinished_stays : (h : ℕ) (state new : Machines) (journal notes : List Note) → IsBadAt state journal → Unfinished h state notes new → new.memory ≡ state.memory
  unfinished_stays h state new journal notes bad x = operations_stay h x.count state new journal notes bad x.does

  -- one event, done whole
  event_stays : (e : Event) (old new : Session) (journal notes : List Note) → IsBadAt old.machines journal → NoneEnds notes
      → DoesEvent files e old notes new → new.machines.memory ≡ old.machines.memory
  event_stays (event.Mkfs name request) old new journal notes bad none x =
      call_stays (call.Makes name request) old.machines new.machines journal notes bad none x.0
  event_stays (event.Begin name what) old new journal notes bad none (inl x) = begun_stays name what old new journal notes bad none x
  event_stays (event.Begin name what) old new journal notes bad none (inr x) = refused_event_stays name what old new journal notes bad none x
  event_stays (event.Run name what) old new journal notes bad none (inl x) = goes_stay Completes completes_stay name what old new journal notes bad none x
  event_stays (event.Run name what) old new journal notes bad none (inr x) = refused_event_stays name what old new journal notes bad none x
  event_stays (event.Step name count) old new journal notes bad none (inl x) = operations_stay x.host count old.machines new.machines journal notes bad x.does
  event_stays (event.Step name count) old new journal notes bad none (inr x) = ap memory_of x.same
  event_stays e old new journal notes bad none x = call_stays _ old.machines new.machines journal notes bad none x.0

  -- and in part
  part_stays : (e : Event) (old new : Session) (journal notes : List Note) → IsBadAt old.machines journal → NoneEnds notes → PartOf files e old notes new → new.machines.memory ≡ old.machines.memory
  part_stays (event.Run name what) old new journal notes bad none x = goes_stay Unfinished unfinished_stays name what old new journal notes bad none x
  part_stays (event.Step name count) old new journal notes bad none x = unfinished_stays x.host old.machines new.machines journal notes bad x.does.does
  part_stays (event.Finish name) old new journal notes bad none x = unfinished_stays x.host old.machines new.machines journal notes bad x.does
  part_stays e old new journal notes bad none x = absurd x

  -- Runs.

  follows_stay : (events : List Event) → AreSound events → (old new : Session) (journal notes : List Note) → IsBadAt old.machines journal
      → NoneEnds notes → Follows files events old notes new → new.machines.memory ≡ old.machines.memory
  follows_stay [] sound old new journal notes bad none x = ap memory_of x.1
  follows_stay (e ∷ events) sound old new journal notes bad none x =
      let parts = none_in x.1 x.2 notes x.5 none in
      let kept = event_kept start files e sound.0 old x.0 journal x.1 bad.kept x.3 in
      follows_stay events sound.1 x.0 new (journal ++ x.1) x.2 (bad_at old.machines journal x.1 x.0.machines bad parts.0 kept) parts.1 x.4
      ∙ event_stays e old x.0 journal x.1 bad parts.0 x.3

  -- events, and then something of one
  up_to_stays : (P : Event → Session → List Note → Session → Type 0)
      → ((e : Event) (old new : Session) (journal notes : List Note) → IsBadAt old.machines journal → NoneEnds notes → P e old notes new
      → new.machines.memory ≡ old.machines.memory)
      → (events : List Event) → AreSound events → (old new : Session) (journal notes : List Note) → IsBadAt old.machines journal → NoneEnds notes
      → FollowsUpTo P files events old notes new → new.machines.memory ≡ old.machines.memory
  up_to_stays P stay events sound old new journal notes bad none x =
      let parts = none_in x.whole_notes x.part_notes notes x.joined none in
      let first = prefix_sound start files x.count events sound in
      let kept = follows_kept start files (take x.count events) first old x.mid journal x.whole_notes bad.kept x.whole in
      stay x.event x.mid new (journal ++ x.whole_notes) x.part_notes (bad_at old.machines journal x.whole_notes x.mid.machines bad parts.0 kept) parts.1 x.part
      ∙ follows_stay (take x.count events) first old x.mid journal x.whole_notes bad parts.0 x.whole

  run_stays : (ending : Ending) → IsUncut ending → (events : List Event) → AreSound events → (old new : Session) (journal notes : List Note)
      → IsBadAt old.machines journal → NoneEnds notes → EventsDone ending files events old notes new → new.machines.memory ≡ old.machines.memory
  run_stays AllDone uncut events sound old new journal notes bad none x = follows_stay events sound old new journal notes bad none x
  run_stays MkfsFails uncut events sound old new journal notes bad none x = absurd uncut
  run_stays (SourceFails end) uncut events sound old new journal notes bad none x =
      follows_stay (take x.count events) (prefix_sound start files x.count events sound) old new journal notes bad none x.follows
  run_stays EndsOutOfMemory uncut events sound old new journal notes bad none (inl x) =
      follows_stay (take x.count events) (prefix_sound start files x.count events sound) old new journal notes bad none x.follows
  run_stays EndsOutOfMemory uncut events sound old new journal notes bad none (inr x) = up_to_stays (PartOf files) part_stays events sound old new journal notes bad none x
  run_stays EndsOutOfMemoryBroken uncut events sound old new journal notes bad none x = absurd uncut
  run_stays SinkFails uncut events sound old new journal notes bad none x = up_to_stays (DoesEvent files) event_stays events sound old new journal notes bad none x

  -- from what a run has come to
  pub left_alone : (ending : Ending) → IsUncut ending → (events : List Event) → AreSound events → (old new : Session) (journal notes : List Note)
      → Reached start old.machines journal → (past_of start journal).state ≡ Bad origin damage gate
      → NoneEnds notes → EventsDone ending files events old notes new → new.machines.memory ≡ old.machines.memory
  left_alone ending uncut events sound old new journal notes kept is none x = run_stays ending uncut events sound old new journal notes (record { kept = kept; is = is }) none x
