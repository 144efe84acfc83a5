-- A script's run, with what was put of it.
use Prim.Native.Nat.{zero, suc}
use Rattle.std.proofs.Common.{◌≡◌, ◌⊎◌, ℕ, ◌+◌, ◌≤◌, inl, inr, List, [], ◌∷◌, ◌++◌, length, take, Some, option_map, Err, refl, ap, sym, ◌∙◌, subst}
use Rattle.std.specs.Prelude.{slice_get}
use Rattle.std.proofs.lemmas.List.{append-nil, append_assoc}
use Rattle.fam_base.specs.Image.{Image}
use Rattle.fam_media.specs.Files.{Files}
use Rattle.fam_media.specs.Outside.{with_piece}
use Rattle.fam_media.specs.States.{ShelfChange, SinkChange}
use Rattle.fam_sources.specs.declared.sourced.SourceEnd.{SourceEnd}
use Rattle.fam_sources.specs.Sourced.{HasEndCause, end_of}
use Rattle.fam_journal.specs.declared.event.Event.{Event}
use Rattle.fam_outcomes.specs.declared.status.Status.{Status}
use Rattle.fam_outcomes.specs.declared.status.Status.TheVariants as status
use Rattle.fam_journal.specs.Ends.{AllDone, Ending, EndsOutOfMemory, EndsOutOfMemoryBroken, MkfsFails, SinkFails, SourceFails}
use Rattle.fam_journal.specs.Events.{DoesEvent, PartOf, Session, first_session}
use Rattle.fam_journal.specs.Follows.{Follows, FollowsLast, FollowsPrefix}
use Rattle.fam_journal.specs.Notes.{Note}
use Rattle.fam_outcomes.specs.Programs.{HasPut, PutsEach, PutsTold, ScriptPuts, memory_line, script_status, source_line}
use Rattle.fam_outcomes.specs.Runs.{HasRun, Outside, RunsOn}
use Rattle.fam_outcomes.specs.Statuses.{good_status, is_good}
use Rattle.fam_outcomes.specs.Texts.{names_behind, render, render_behind}
use Rattle.fam_journal.proofs.JournalLaws.{held_reads_as}
use Rattle.fam_outcomes.proofs.Names.{render_more}
use Rattle.fam_events.specs.WorldChange.{WorldChange, session}
use Rattle.fam_events.specs.declared.fault.EventFault.{EventFault}
use Rattle.fam_events.specs.declared.fault.EventFault.TheVariants as fault
use Rattle.fam_events.specs.Happens.{EventBroken, EventDone, EventEnded, EventPart, EventSays}
use Rattle.fam_program.specs.Far.{Base, Far, Now}
use Rattle.fam_program.specs.Puts.{Put, PutPart, PutShort, StopSays}
use Rattle.fam_program.specs.Runs.{HasEnded}
use Rattle.fam_program.specs.Scripts.{ScriptRan}
use Rattle.fam_program.proofs.Runs.OneMore.{follows_more, take_next}
use Rattle.fam_program.proofs.Runs.GoesOn.{next_of}
use Rattle.fam_program.proofs.Runs.Ends.{all_ended, broken_ended, broken_on, broken_wants, last_on, out_of, part_ended, prefix_ended, sink_ended, source_ended}
use Rattle.fam_program.proofs.Texts.Pieces.{IsOwn, all_put, front_put, has_put, part_has_put, put_both, put_failed}

-- a run with its text and its status
abbrev to_run : (ending : Ending) (out : Outside) (events : List Event) (journal : List Note) (text : List ℕ) (own : Status)
    → HasEnded ending out events journal → ScriptPuts ending journal text → own ≡ script_status ending journal
    → HasRun ScriptPuts script_status ending out events text own
to_run ending out events journal text own x text_is status_is = record {
  journal = journal;
  named = x.named;
  shape = x.shape;
  counted = x.counted;
  caused = x.caused;
  text_is = text_is;
  status_is = status_is;
  told = x.told;
}

-- own statuses
good_own : (journal : List Note) → IsOwn (good_status (is_good journal))
good_own journal = by_good (is_good journal)
  where
    by_good : (t : Rattle.std.proofs.Common.Bool) → IsOwn (good_status t)
    by_good Rattle.std.proofs.Common.true e = absurd cc
    by_good Rattle.std.proofs.Common.false e = absurd cc

media_own : IsOwn status.MediaFault
media_own e = absurd cc

memory_own : IsOwn status.OutOfMemory
memory_own e = absurd cc

source_own : IsOwn status.SourceFault
source_own e = absurd cc

-- the last event of those that are done
module _ (files : Files) where
  record LastOf (events : List Event) (e : Event) (old : Session) (journal : List Note) (new : Session) : Type 0 where
    mid : Session
    first : List Note
    rest : List Note
    follows : Follows files events old first mid
    does : DoesEvent files e mid rest new
    joined : journal ≡ first ++ rest

  last_of : (events : List Event) (e : Event) (old : Session) (journal : List Note) (new : Session) → Follows files (events ++ e ∷ []) old journal new → LastOf events e old journal new
  last_of [] e old journal new f =
      record {
        mid = old;
        first = [];
        rest = f.1;
        follows = (refl, refl);
        does = subst (λ (s : Session). DoesEvent files e old f.1 s) (sym f.4.1) f.3;
        joined = f.5 ∙ ap (λ (ns : List Note). f.1 ++ ns) f.4.0 ∙ append-nil f.1;
      }
  last_of (x ∷ events) e old journal new f =
      let l = last_of events e f.0 f.2 new f.4 in
      record {
        mid = l.mid;
        first = f.1 ++ l.first;
        rest = l.rest;
        follows = (f.0, f.1, l.first, f.3, l.follows, refl);
        does = l.does;
        joined = f.5 ∙ ap (λ (ns : List Note). f.1 ++ ns) l.joined ∙ sym (append_assoc f.1 l.first l.rest);
      }

-- where the last one is known, they are some first ones
last_prefix : (files : Files) (events : List Event) (old : Session) (journal : List Note) (new : Session) → FollowsLast files events old journal new → FollowsPrefix files events old journal new
last_prefix files events old journal new l = record {
  count = suc l.count;
  follows = subst (λ (es : List Event). Follows files es old journal new) (sym (take_next events l.count l.event l.is))
      (subst (λ (j : List Note). Follows files (take l.count events ++ l.event ∷ []) old j new) (sym l.joined)
      (follows_more files (take l.count events) l.event old l.mid new l.whole_notes l.part_notes l.whole l.part));
}

-- an event at each place before the end of the first ones
record AtLast (events : List Event) (count : ℕ) : Type 0 where
  place : ℕ
  event : Event
  is : slice_get events place ≡ Some event
  taken : take count events ≡ take place events ++ event ∷ []

-- the first ones are none, or have a last one
at_last : (events : List Event) (count : ℕ) → (take count events ≡ []) ⊎ AtLast events count
at_last [] zero = inl refl
at_last [] (suc count) = inl refl
at_last (x ∷ events) zero = inl refl
at_last (x ∷ events) (suc count) = by_rest (at_last events count)
  where
    by_rest : (take count events ≡ []) ⊎ AtLast events count → (x ∷ take count events ≡ []) ⊎ AtLast (x ∷ events) (suc count)
    by_rest (inl none) = inr record { place = 0; event = x; is = refl; taken = ap (λ es. x ∷ es) none }
    by_rest (inr l) = inr record { place = suc l.place; event = l.event; is = l.is; taken = ap (λ es. x ∷ es) l.taken }

module _ (b : Base) (shelf : ShelfChange) (all : SinkChange) where
  abbrev out_at : Now → Outside
  out_at n = out_of b n shelf all

  -- of the events that are done the notes are put
  prefix_each : (count : ℕ) (n : Now) (start : Image) (files : Files) (last : Session)
      → Follows files (take count b.events) (first_session start) n.world.journal last → HasPut (out_at n) (render n.world.journal)
      → (n.world.journal ≡ []) ⊎ ((l : FollowsLast files b.events (first_session start) n.world.journal last) × HasPut (out_at n) (render l.whole_notes))
  prefix_each count n start files last follows put = by_last (at_last b.events count)
    where
      by_last : (take count b.events ≡ []) ⊎ AtLast b.events count
          → (n.world.journal ≡ []) ⊎ ((l : FollowsLast files b.events (first_session start) n.world.journal last)
          × HasPut (out_at n) (render l.whole_notes))
      by_last (inl none) = inl (subst (λ (es : List Event). Follows files es (first_session start) n.world.journal last) none follows).0
      by_last (inr l) =
          let f = last_of files (take l.place b.events) l.event (first_session start) n.world.journal last
          (subst (λ (es : List Event). Follows files es (first_session start) n.world.journal last) l.taken follows) in
          inr (
            record { count = l.place; event = l.event; is = l.is; mid = f.mid; whole_notes = f.first; part_notes = f.rest; whole = f.follows; part = f.does; joined = f.joined },
            front_put (out_at n) (render f.first) (render_behind (names_behind [] f.first) f.rest) (subst (HasPut (out_at n)) (ap render f.joined ∙ render_more f.first f.rest) put),
          )

  -- all events are done
  pub all_script : (n : Now) (count : ℕ) → Far b count n → take count b.events ≡ b.events
      → all.new.bytes ≡ option_map (with_piece (render n.world.journal)) all.old.bytes
      → ScriptRan b.events (out_at n) (good_status (is_good n.world.journal))
  all_script n count far whole put =
      let x = all_ended b count n far shelf all whole in
      record {
        text = render n.world.journal;
        own = good_status (is_good n.world.journal);
        ending = AllDone;
        run = to_run AllDone (out_at n) b.events n.world.journal (render n.world.journal) (good_status (is_good n.world.journal)) x refl refl;
        whole = λ e. refl;
        each = λ start told_is files files_are. (x.told start told_is files files_are, all_put (out_at n) (render n.world.journal) put);
        put = record { outcome = inl (refl, put); rose = λ e. absurd (good_own n.world.journal e) };
      }

  module _ (s : SinkChange) (now_is : all.new.bytes ≡ s.new.bytes) (sink_is : all.new.faults ≡ s.new.faults) (later : all.old.faults ≤ s.old.faults)
      (n : Now) (mid : s.old.bytes ≡ option_map (with_piece (render n.world.journal)) all.old.bytes) (given : Status) where
    -- behind the notes of some first events those of one more that were put, and the line that says that no memory is left
    abbrev short_text : ℕ → List Note → List ℕ
    short_text count more = render_behind (names_behind [] n.world.journal) (take count more) ++ memory_line

    short_is : (m : Now) (more : List Note) → m.world.journal ≡ n.world.journal ++ more → (count : ℕ)
        → render n.world.journal ++ short_text count more ≡ render (take (length n.world.journal + count) m.world.journal) ++ memory_line
    short_is m more joined count =
        sym (append_assoc (render n.world.journal) (render_behind (names_behind [] n.world.journal) (take count more)) memory_line)
        ∙ ap (λ (t : List ℕ). t ++ memory_line)
        (sym (render_more n.world.journal (take count more))
        ∙ ap render (sym (ap (take (length n.world.journal + count)) joined ∙ Rattle.std.proofs.Math.Seq.take-append-add n.world.journal more count)))

    wants : (m : Now) (more : List Note) → m.world.journal ≡ n.world.journal ++ more → HasEnded EndsOutOfMemory (out_at m) b.events m.world.journal
        → PutsTold EndsOutOfMemory b.events m.world.journal (out_at m) → PutShort (names_behind [] n.world.journal) more s given → ScriptRan b.events (out_at m) given
    wants m more joined x each put = record {
      text = render n.world.journal ++ short_text put.0 more;
      own = status.OutOfMemory;
      ending = EndsOutOfMemory;
      run = to_run EndsOutOfMemory (out_at m) b.events m.world.journal (render n.world.journal ++ short_text put.0 more) status.OutOfMemory x
          (length n.world.journal + put.0, short_is m more joined put.0) refl;
      whole = λ e. absurd cc;
      each = each;
      put = put_both (out_at m) (render n.world.journal) (short_text put.0 more) s now_is sink_is later mid status.OutOfMemory given memory_own put.1;
    }

    abbrev put_before : (m : Now) (more : List Note) → PutShort (names_behind [] n.world.journal) more s given → HasPut (out_at m) (render n.world.journal)
    put_before m more put = has_put (out_at m) (render n.world.journal) (short_text put.0 more) s now_is sink_is later mid status.OutOfMemory given put.1

    module _ (count : ℕ) (far : Far b count n) (e : Event) (is : slice_get b.events count ≡ Some e) (m : Now) where
      abbrev a : WorldChange
      a = next_of b n m

      -- behind an event that is done
      pub want_script : (x : EventDone e a) → Far b (suc count) m → PutShort (names_behind [] n.world.journal) x.adds.notes s given → ScriptRan b.events (out_at m) given
      want_script x far_m put = wants m x.adds.notes x.adds.joined (prefix_ended b (suc count) m far_m shelf all) each put
        where
          each : PutsTold EndsOutOfMemory b.events m.world.journal (out_at m)
          each start told_is files files_are =
              let r = last_on b count n m far e is shelf all x start files told_is files_are in (
                record {
                  last = r.last;
                  legal = r.held.kept.held.legal;
                  follows = inl (last_prefix files b.events (first_session start) m.world.journal r.last r.follows);
                  left = r.left;
                  reads = held_reads_as start r.last.machines m.world r.last.machines.memory r.held;
                },
                inr (inl (r.follows, subst (λ (ns : List Note). HasPut (out_at m) (render ns)) (sym r.whole) (put_before m x.adds.notes put))),
              )

      more_text : (notes : List Note) → m.world.journal ≡ n.world.journal ++ notes → render m.world.journal ≡ render n.world.journal ++ render_behind (names_behind [] n.world.journal) notes
      more_text notes joined = ap render joined ∙ render_more n.world.journal notes

      -- the media failed in a mkfs
      broken_script : (x : EventBroken e a) (text : List ℕ) → text ≡ render_behind (names_behind [] n.world.journal) x.adds.notes
          → Put status.MediaFault text s given → ScriptRan b.events (out_at m) given
      broken_script x text text_is put = record {
        text = render n.world.journal ++ text;
        own = status.MediaFault;
        ending = MkfsFails;
        run = to_run MkfsFails (out_at m) b.events m.world.journal (render n.world.journal ++ text) status.MediaFault (broken_ended b count n m far e is shelf all x)
            (ap (λ (t : List ℕ). render n.world.journal ++ t) text_is ∙ sym (more_text x.adds.notes x.adds.joined)) refl;
        whole = λ e. absurd cc;
        each = λ start told_is files files_are.
            let r = broken_on b count n m far e is shelf all x start files told_is files_are in (
              record { last = r.last; legal = r.legal; follows = r.follows; left = r.left; reads = r.reads },
              subst (λ (ns : List Note). HasPut (out_at m) (render ns)) (sym r.whole) (has_put (out_at m) (render n.world.journal) text s now_is sink_is later mid status.MediaFault given put),
            );
        put = put_both (out_at m) (render n.world.journal) text s now_is sink_is later mid status.MediaFault given media_own put;
      }

      broken_want_script : (x : EventBroken e a) → PutShort (names_behind [] n.world.journal) x.adds.notes s given → ScriptRan b.events (out_at m) given
      broken_want_script x put = record {
        text = render n.world.journal ++ short_text put.0 x.adds.notes;
        own = status.OutOfMemory;
        ending = EndsOutOfMemoryBroken;
        run = to_run EndsOutOfMemoryBroken (out_at m) b.events m.world.journal (render n.world.journal ++ short_text put.0 x.adds.notes)
            status.OutOfMemory (broken_wants b count n m far e is shelf all x)
            (length n.world.journal + put.0, short_is m x.adds.notes x.adds.joined put.0) refl;
        whole = λ e. absurd cc;
        each = λ start told_is files files_are.
            let r = broken_on b count n m far e is shelf all x start files told_is files_are in (
              record { last = r.last; legal = r.legal; follows = r.follows; left = r.left; reads = r.reads },
              subst (λ (ns : List Note). HasPut (out_at m) (render ns)) (sym r.whole) (put_before m x.adds.notes put),
            );
        put = put_both (out_at m) (render n.world.journal) (short_text put.0 x.adds.notes) s now_is sink_is later mid status.OutOfMemory given memory_own put.1;
      }

      -- a source ended early: nothing is noted
      source_script : (end : SourceEnd) (x : EventEnded e end a) → HasEndCause shelf end → Put status.SourceFault (source_line (end_of end)) s given → ScriptRan b.events (out_at m) given
      source_script end x cause put = record {
        text = render n.world.journal ++ source_line (end_of end);
        own = status.SourceFault;
        ending = SourceFails (end_of end);
        run = to_run (SourceFails (end_of end)) (out_at m) b.events m.world.journal (render n.world.journal ++ source_line (end_of end))
            status.SourceFault (source_ended b count n m far e is shelf all end x cause)
            (ap (λ (j : List Note). render j ++ source_line (end_of end)) (sym same)) refl;
        whole = λ e. absurd cc;
        each = λ start told_is files files_are. (
          (source_ended b count n m far e is shelf all end x cause).told start told_is files files_are,
          subst (λ (j : List Note). HasPut (out_at m) (render j)) (sym same)
              (has_put (out_at m) (render n.world.journal) (source_line (end_of end)) s now_is sink_is later mid status.SourceFault given put),
        );
        put = put_both (out_at m) (render n.world.journal) (source_line (end_of end)) s now_is sink_is later mid status.SourceFault given source_own put;
      }
        where
          same : m.world.journal ≡ n.world.journal
          same = x.adds.joined ∙ ap (λ (ns : List Note). n.world.journal ++ ns) x.adds.shape.none ∙ append-nil n.world.journal

      -- no memory was left for the event
      part_script : (x : EventPart e a) → PutShort (names_behind [] n.world.journal) x.adds.notes s given → ScriptRan b.events (out_at m) given
      part_script x put = wants m x.adds.notes x.adds.joined (part_ended b count n m far e is shelf all x) each put
        where
          each : PutsTold EndsOutOfMemory b.events m.world.journal (out_at m)
          each start told_is files files_are =
              let f = far.on start told_is files files_are in
              let k = x.keeps start files f.last.machines files_are f.left f.held in
              let same : session f.last.machines n.copied ≡ f.last = ap (λ (c : ℕ). session f.last.machines c) (sym f.copied) in
              part_each start files f.last f.follows k.comes.last k.comes.notes k.comes.joined k.held.kept.held.legal k.comes.told_is
              (held_reads_as start k.comes.last.machines m.world k.comes.last.machines.memory k.held)
              (subst (λ (z : Session). ((k.comes.notes ≡ []) × (k.comes.last ≡ z)) ⊎ PartOf files e z k.comes.notes k.comes.last) same k.comes.does)
            where
              part_each : (start : Image) (files : Files) (old : Session)
                  → Follows files (take count b.events) (first_session start) n.world.journal old → (last : Session) (notes : List Note)
                  → m.world.journal ≡ n.world.journal ++ notes
                  → Rattle.fam_journal.specs.Legal.Legal start m.world.journal → m.media.image ≡ Some last.machines.memory
                  → Rattle.fam_journal.specs.Ends.ReadsAs (Rattle.fam_journal.specs.Past.past_of start m.world.journal).state last.machines.memory
                  → ((notes ≡ []) × (last ≡ old)) ⊎ PartOf files e old notes last
                  → (run : RunsOn EndsOutOfMemory files b.events start m.media.image m.world.journal) × PutsEach EndsOutOfMemory files b.events
                  (first_session start) m.world.journal run.last run.follows (out_at m)
              part_each start files old follows last notes joined legal left reads (inr part) = (
                record {
                  last = last;
                  legal = legal;
                  follows = inr record { count = count; event = e; is = is; mid = old; whole_notes = n.world.journal; part_notes = notes; whole = follows; part = part; joined = joined };
                  left = left;
                  reads = reads;
                },
                inr (inr (
                  record {
                    count = count;
                    event = e;
                    is = is;
                    mid = old;
                    whole_notes = n.world.journal;
                    part_notes = notes;
                    whole = follows;
                    part = part;
                    joined = joined;
                  },
                  put_before m x.adds.notes put,
                )),
              )
              part_each start files old follows last notes joined legal left reads (inl none) =
                  let same : m.world.journal ≡ n.world.journal = joined ∙ ap (λ (ns : List Note). n.world.journal ++ ns) none.0 ∙ append-nil n.world.journal in
                  let here : Follows files (take count b.events) (first_session start) m.world.journal last =
                  subst (λ (j : List Note). Follows files (take count b.events) (first_session start) j last) (sym same)
                  (subst (λ (z : Session). Follows files (take count b.events) (first_session start) n.world.journal z) (sym none.1) follows) in
                  let each = prefix_each count m start files last here (subst (λ (j : List Note). HasPut (out_at m) (render j)) (sym same) (put_before m x.adds.notes put)) in
                  (record { last = last; legal = legal; follows = inl record { count = count; follows = here }; left = left; reads = reads }, by_each last here each)
                where
                  by_each : (last : Session) (here : Follows files (take count b.events) (first_session start) m.world.journal last)
                      → (m.world.journal ≡ []) ⊎ ((l : FollowsLast files b.events (first_session start) m.world.journal last) × HasPut (out_at m) (render l.whole_notes))
                      → PutsEach EndsOutOfMemory files b.events (first_session start) m.world.journal last (inl record { count = count; follows = here }) (out_at m)
                  by_each last here (inl none) = inl none
                  by_each last here (inr l) = inr (inl l)

      -- an event whose source ended early has done nothing
      ended_part : (end : SourceEnd) → EventEnded e end a → EventPart e a
      ended_part end x = record {
        adds = record {
          notes = x.adds.notes;
          joined = x.adds.joined;
          named = x.adds.named;
          counted = x.adds.counted;
          later = x.adds.later;
          fits =
              x.adds.fits;
          shaped = x.adds.shaped;
          shape = inl x.adds.shape.none;
        };
        keeps = λ start files state files_are told_is held.
            let k = x.keeps start files state files_are told_is held in
            record {
              comes = record { last = k.comes.last; notes = k.comes.notes; does = inl (k.comes.does.1, k.comes.does.2); told_is = k.comes.told_is; joined = k.comes.joined };
              held = k.held;
            };
      }

      -- and no memory for the line that says how a source ended
      source_want_script : (end : SourceEnd) (x : EventEnded e end a) → Put status.OutOfMemory memory_line s given → ScriptRan b.events (out_at m) given
      source_want_script end x put = part_script (ended_part end x) (0, put)

      -- the names and notes that are said are those of the journal
      short_as : (names : List (List ℕ)) → names ≡ names_behind [] n.world.journal → (more notes : List Note) → more ≡ notes
          → PutShort names more s given → PutShort (names_behind [] n.world.journal) notes s given
      short_as names names_are more notes same put =
          subst (λ (ns : List Note). PutShort (names_behind [] n.world.journal) ns s given) same (subst (λ (ns : List (List ℕ)). PutShort ns more s given) names_are put)

      pub stop_script : (x : EventFault) → EventSays e shelf a (Err x) → (names : List (List ℕ)) → names ≡ names_behind [] n.world.journal
          → (more : List Note) → ((notes : List Note) → m.world.journal ≡ n.world.journal ++ notes → more ≡ notes)
          → StopSays x names more s given → ScriptRan b.events (out_at m) given
      stop_script fault.MkfsFailed says names names_are more more_is (inl put) =
          broken_script says (render_behind names more)
          (ap (λ (ns : List (List ℕ)). render_behind ns more) names_are ∙ ap (render_behind (names_behind [] n.world.journal))
          (more_is says.adds.notes says.adds.joined)) put
      stop_script fault.MkfsFailed says names names_are more more_is (inr put) = broken_want_script says (short_as names names_are more says.adds.notes (more_is says.adds.notes says.adds.joined) put)
      stop_script (fault.SourceEnded end) says names names_are more more_is (inl put) = source_script end says.0 says.1 put
      stop_script (fault.SourceEnded end) says names names_are more more_is (inr put) = source_want_script end says.0 put
      stop_script fault.OutOfMemory says names names_are more more_is put = part_script says (short_as names names_are more says.adds.notes (more_is says.adds.notes says.adds.joined) put)

  -- the sink failed behind an event that is done
  module _ (s : SinkChange) (now_is : all.new.bytes ≡ s.new.bytes) (sink_is : all.new.faults ≡ s.new.faults) (later : all.old.faults ≤ s.old.faults)
      (n m : Now) (mid : s.old.bytes ≡ option_map (with_piece (render n.world.journal)) all.old.bytes) (count : ℕ) (far : Far b count n) (e : Event)
      (is : slice_get b.events count ≡ Some e) where
    pub sink_script : (x : EventDone e (next_of b n m)) (text : List ℕ) → text ≡ render_behind (names_behind [] n.world.journal) x.adds.notes
        → PutPart text s → ScriptRan b.events (out_at m) status.SinkFault
    sink_script x text text_is put =
        let failed = put_failed (out_at m) (render n.world.journal) text s now_is sink_is later mid put in
        record {
          text = render n.world.journal ++ text;
          own = status.SinkFault;
          ending = SinkFails;
          run = to_run SinkFails (out_at m) b.events m.world.journal (render n.world.journal ++ text) status.SinkFault (sink_ended b count n m far e is shelf all x (failed.rose refl))
              (ap (λ (t : List ℕ). render n.world.journal ++ t) text_is ∙ sym (ap render x.adds.joined ∙ render_more n.world.journal x.adds.notes)) refl;
          whole = λ e. absurd cc;
          each = λ start told_is files files_are.
              let r = last_on b count n m far e is shelf all x start files told_is files_are in (
                record { last = r.last; legal = r.held.kept.held.legal; follows = r.follows; left = r.left; reads = held_reads_as start r.last.machines m.world r.last.machines.memory r.held },
                subst (λ (ns : List Note). HasPut (out_at m) (render ns)) (sym r.whole) (part_has_put (out_at m) (render n.world.journal) text s now_is sink_is later mid put),
              );
          put = failed;
        }
