-- Commands of their own, as the top call tells them.
use Prim.Native.Nat.{zero, suc}
use Rattle.std.proofs.Common.{◌≡◌, ◌⊎◌, ℕ, inl, inr, Bool, true, false, cond, List, [], ◌∷◌, length, take, Some, None, Result, Ok, Err, refl, ap, sym, ◌∙◌, subst, arith}
use Rattle.std.specs.Prelude.{⊤, OnOk}
use Rattle.std.proofs.lemmas.Bool.{false≢true}
use Rattle.std.proofs.lemmas.List.{take_all}
use Rattle.fam_machine.specs.declared.request.MkfsRequest.{MkfsRequest}
use Rattle.fam_grammar.specs.Scripts.{script_events}
use Rattle.fam_rules.specs.Reply as reply
use Rattle.fam_rules.specs.Reply.{Reply}
use Rattle.fam_sources.specs.Sourced.{end_of}
use Rattle.fam_storm.specs.Storm.{storm}
use Rattle.fam_journal.specs.declared.event.Ask.{Ask}
use Rattle.fam_journal.specs.declared.event.Event.{Event}
use Rattle.fam_journal.specs.declared.event.Event.TheVariants as event
use Rattle.fam_journal.specs.declared.refusal.Refusal.{Refusal}
use Rattle.fam_journal.specs.declared.refusal.Refusal.TheVariants as why
use Rattle.fam_outcomes.specs.declared.status.Status.{Status}
use Rattle.fam_outcomes.specs.declared.status.Status.TheVariants as status
use Rattle.fam_journal.specs.Ends.{AllDone, Ending, IsFaultless, EndsOutOfMemory, MkfsFails, SourceFails}
use Rattle.fam_journal.specs.EventShapes.{FollowsShape}
use Rattle.fam_journal.specs.Follows.{SourceEnd}
use Rattle.fam_journal.specs.Names.{NameDeclared}
use Rattle.fam_journal.specs.Notes.{Answer, Replied, MediaFault, Note, Host, Answered, Refused}
use Rattle.fam_outcomes.specs.Programs.{IsWholeRun, LeavesImage, Makes, MakesParents, OneShot, Runs, ShotPuts, Single, ShotRuns, SparesImage, TopEnds, done_status, ends_command, ends_mkfs, ends_shot, last_passes, memory_line, path_prefixes, shot_events, shot_status, source_line}
use Rattle.fam_outcomes.specs.Runs.{EndsBroken, IsPut, NoneFalls, Outside}
use Rattle.fam_outcomes.specs.Statuses.{answer_status, cause_status, is_checked_equal, last_status, last_stops, note_status, parents_status, reply_status, sound_status}
use Rattle.fam_outcomes.specs.Texts.{is_sound_report, shown}
use Rattle.fam_events.specs.declared.fault.EventFault.{EventFault}
use Rattle.fam_events.specs.declared.fault.EventFault.TheVariants as fault
use Rattle.fam_program.specs.Puts.{Put}
use Rattle.fam_program.specs.Unprinted.{OnlyLastStops, HasStopped, MayLack, ShotEnded}
use Rattle.fam_program.specs.Runs.{HasEnded}
use Rattle.fam_program.specs.Shots.{LastSays, ShotSays, is_short}
use Rattle.fam_program.proofs.Commands.LastNotes.{behind_first, host_end, mkfs_end, runs_end, stopped_end}
use Rattle.fam_program.proofs.Commands.NoFaultHidden.{long_faultless}
use Rattle.fam_program.proofs.Commands.Events.{alone_events, makes_one, none_breaks, parents_end}
use Rattle.fam_program.proofs.Texts.Pieces.{IsOwn}
use Rattle.fam_program.proofs.Commands.MemoryLeft.{last_behind}
use Rattle.fam_program.proofs.Runs.OneText.{done_wants, media_own, memory_own, put_alone, source_own, source_wants}

-- The statuses: none of a note is that of a sink that failed, or of want of memory.

abbrev is_lost : Status → Bool
is_lost status.SinkFault = true
is_lost status.OutOfMemory = true
is_lost e = false

sound_told : (t : Bool) → is_lost (sound_status t) ≡ false
sound_told true = refl
sound_told false = refl

reply_told : (r : Reply) → is_lost (reply_status r) ≡ false
reply_told (reply.Checks m checked) = sound_told (is_checked_equal checked)
reply_told (reply.Reports report) = sound_told (is_sound_report report)
reply_told e = refl

answer_told : (a : Answer) → is_lost (answer_status a) ≡ false
answer_told (Replied given) = reply_told given
answer_told (MediaFault at) = refl

cause_told : (c : Refusal) → is_lost (cause_status c) ≡ false
cause_told why.NoHost = refl
cause_told e = refl

note_told : (note : Note) → is_lost (note_status note) ≡ false
note_told (Answered host answer) = answer_told answer
note_told (Refused name cause) = cause_told cause
note_told e = refl

last_told : (journal : List Note) → is_lost (last_status journal) ≡ false
last_told [] = refl
last_told (note ∷ []) = note_told note
last_told (note ∷ next ∷ notes) = last_told (next ∷ notes)

parents_told : (journal : List Note) → is_lost (parents_status journal) ≡ false
parents_told journal = by_stop (last_stops journal)
  where
    by_stop : (t : Bool) → is_lost (cond t (last_status journal) status.Done) ≡ false
    by_stop true = last_told journal
    by_stop false = refl

done_told : (shot : OneShot) (journal : List Note) → is_lost (done_status shot journal) ≡ false
done_told (Makes request) journal = last_told journal
done_told (Runs what) journal = last_told journal
done_told (MakesParents path attr) journal = parents_told journal

pub done_own : (shot : OneShot) (journal : List Note) → IsOwn (done_status shot journal)
done_own shot journal e = absurd (let told : false ≡ true = sym (done_told shot journal) ∙ ap is_lost e in cc)

-- What is spared where no memory is left.

own_spares : (shot : OneShot) (own : Status) (out : Outside) → (own ≡ status.OutOfMemory → ⊥) → SparesImage shot own out
own_spares (Makes request) own out other = tt
own_spares (Runs what) own out other = λ e. absurd (other e)
own_spares (MakesParents path attr) own out other = tt

pub done_spares : (shot : OneShot) (journal : List Note) (out : Outside) → SparesImage shot (done_status shot journal) out
done_spares shot journal out = own_spares shot (done_status shot journal) out (λ e. absurd (let told : false ≡ true = sym (done_told shot journal) ∙ ap is_lost e in cc))

-- a run of one command
abbrev pub SparedRun : OneShot → Outside → Type 0 → Type 0
SparedRun (Makes request) out lacks = ⊤
SparedRun (Runs what) out lacks = lacks → LeavesImage out
SparedRun (MakesParents path attr) out lacks = ⊤

lack_spares : (shot : OneShot) (own : Status) (out : Outside) (lacks : Type 0) → SparedRun shot out lacks → lacks → SparesImage shot own out
lack_spares (Makes request) own out lacks spared lack = tt
lack_spares (Runs what) own out lacks spared lack = λ e. spared lack
lack_spares (MakesParents path attr) own out lacks spared lack = tt

-- What a run comes to: its text and its status, which are put or not. Where all its events are done this fact is known.
pub record Ran (me : List ℕ) (shot : OneShot) (out : Outside) (journal : List Note) (fact : Type 0) (given : Status) : Type 0 where
  pub text : List ℕ
  pub own : Status
  pub runs : ShotRuns me shot out text own
  pub same : runs.run.journal ≡ journal
  pub known : runs.ending ≡ AllDone → fact
  pub put : IsPut own given text out

-- Runs, whatever the command is.

module _ (name me : List ℕ) (shot : OneShot) (out : Outside) (journal : List Note) where
  abbrev does : List Event
  does = shot_events name shot

  abbrev all : List Event
  all = alone_events name me shot

  -- an event ended the run early: all events are those of the run
  whole : OnlyLastStops journal → IsWholeRun me shot all journal
  whole goes =
      let same : take (length does) does ≡ does = take_all (length does) does (omega arith) in
      record { name = name; count = length does; events_are = ap (λ (es : List Event). event.Host name me ∷ es) (sym same); goes_on = goes; all = λ last. same }

  -- so many events are those of a whole run
  so_many : (x : HasStopped out all journal) → (k : ℕ) → x.count ≡ suc k → IsWholeRun me shot (take x.count all) journal
  so_many x k is = record {
    name = name;
    count = k;
    events_are = ap (λ (n : ℕ). take n all) is;
    goes_on = x.goes_on;
    all = λ last.
        let same : event.Host name me ∷ take k does ≡ event.Host name me ∷ does = sym (ap (λ (n : ℕ). take n all) is) ∙ x.all last in
        ap rest_of same;
  }
    where
      rest_of : List Event → List Event
      rest_of [] = []
      rest_of (e ∷ es) = es

  -- at least the host is declared
  none_done : (x : HasStopped out all journal) → x.count ≡ 0 → ⊥
  none_done x is =
      let none : journal ≡ [] = subst (λ (k : ℕ). FollowsShape out.lines (take k all) [] journal) is x.ended.shape in
      let same : [] ≡ all = ap (λ (k : ℕ). take k all) (sym is) ∙ x.all (ap last_stops none) in
      absurd cc

  -- the events that were done
  pub stopped_whole : (x : HasStopped out all journal) → IsWholeRun me shot (take x.count all) journal
  stopped_whole x = by_count x.count refl
    where
      by_count : (k : ℕ) → x.count ≡ k → IsWholeRun me shot (take x.count all) journal
      by_count zero is = absurd (none_done x is)
      by_count (suc k) is = so_many x k is

  module _ (given : Status) (fact : Type 0) where
    abbrev Comes : Type 0
    Comes = Ran me shot out journal fact given

    ran : (ending : Ending) (events : List Event) (text : List ℕ) → HasEnded ending out events journal → ShotPuts me shot events ending journal text
        → IsOwn (shot_status shot ending journal) → SparesImage shot (shot_status shot ending journal) out
        → Put (shot_status shot ending journal) text out.sink given
        → (ending ≡ AllDone → fact) → Comes
    ran ending events text x puts other spares put known = record {
      text = text;
      own = shot_status shot ending journal;
      runs = record {
        ending = ending;
        events = events;
        run = record { journal = journal; named = x.named; shape = x.shape; counted = x.counted; caused = x.caused; text_is = puts; status_is = refl; told = x.told };
        spares = spares;
      };
      same = refl;
      known = known;
      put = put_alone out text (shot_status shot ending journal) given other put;
    }

    -- no memory was left for an event
    wants : SparesImage shot status.OutOfMemory out → HasEnded EndsOutOfMemory out all journal → OnlyLastStops journal → IsFaultless journal → Put status.OutOfMemory memory_line out.sink given → Comes
    wants spares x goes clean put = ran EndsOutOfMemory all memory_line x (whole goes, (refl, clean)) memory_own spares put (λ e. absurd cc)

    -- a source ended early
    ended : SparesImage shot status.OutOfMemory out → (end : SourceEnd) → HasEnded (SourceFails end) out all journal → OnlyLastStops journal
        → IsFaultless journal → Put status.SourceFault (source_line end) out.sink given ⊎ Put status.OutOfMemory memory_line out.sink given → Comes
    ended spares end x goes clean (inl put) = ran (SourceFails end) all (source_line end) x (whole goes, refl) source_own (own_spares shot status.SourceFault out (λ e. absurd cc)) put (λ e. absurd cc)
    ended spares end x goes clean (inr put) = wants spares (source_wants end out all journal x) goes clean put

    -- the run has come to its end
    done : SparedRun shot out (last_passes is_short journal ≡ false) → (x : HasStopped out all journal) → last_passes (ends_shot shot) journal ≡ true
        → LastSays (done_status shot journal) journal out.sink given → fact → Comes
    done spared x ends (inl put) known = ran AllDone (take x.count all) (shown journal) x.ended (stopped_whole x, (ends, refl)) (done_own shot journal) (done_spares shot journal out) put (λ e. known)
    done spared x ends (inr put) known = ran EndsOutOfMemory (take x.count all) memory_line (done_wants out (take x.count all) journal x.ended)
        (stopped_whole x, (refl, long_faultless journal x.goes_on put.1)) memory_own
        (lack_spares shot status.OutOfMemory out (last_passes is_short journal ≡ false) spared put.1) put.0 (λ e. absurd cc)

-- The last note, by the command.

abbrev no_events : List Event
no_events = []

take_none : (k : ℕ) → take k no_events ≡ no_events
take_none zero = refl
take_none (suc k) = refl

-- no maker halts
abbrev pub IsUnhalted : OneShot → Type 0
IsUnhalted (Makes request) = request.halt ≡ None
IsUnhalted (Runs what) = ⊤
IsUnhalted (MakesParents path attr) = ⊤

module _ (name me : List ℕ) (out : Outside) (journal : List Note) where
  command_ends : (what : Ask) → HasStopped out (alone_events name me (Runs what)) journal → last_passes ends_command journal ≡ true
  command_ends what x = by_stop (last_stops journal) refl
    where
      by_stop : (t : Bool) → last_stops journal ≡ t → last_passes ends_command journal ≡ true
      by_stop true is = stopped_end journal is
      by_stop false is =
          behind_first ends_command (event.Host name me) (event.Run name what ∷ []) out.lines [] journal (λ hosts notes f. runs_end name (λ (w : Ask). w) what [] out.lines hosts notes f)
          (subst (λ (es : List Event). FollowsShape out.lines es [] journal) (x.all is) x.ended.shape)

  module _ (request : MkfsRequest) (unhalted : request.halt ≡ None) where
    abbrev makes : OneShot
    makes = Makes request

    mkfs_ends : HasStopped out (alone_events name me makes) journal → last_passes ends_mkfs journal ≡ true
    mkfs_ends x = by_count x.count refl
      where
        shape_at : (k : ℕ) → x.count ≡ k → FollowsShape out.lines (take k (alone_events name me makes)) [] journal
        shape_at k is = subst (λ (n : ℕ). FollowsShape out.lines (take n (alone_events name me makes)) [] journal) is x.ended.shape

        -- the host alone was declared: that was refused
        by_stop : (t : Bool) → last_stops journal ≡ t → x.count ≡ 1 → last_passes ends_mkfs journal ≡ true
        by_stop true stops is = host_end ends_mkfs name me out.lines journal (λ cause. refl) stops (shape_at 1 is)
        by_stop false goes is =
            let same : event.Host name me ∷ [] ≡ alone_events name me makes = ap (λ (n : ℕ). take n (alone_events name me makes)) (sym is) ∙ x.all goes in
            absurd cc

        by_count : (k : ℕ) → x.count ≡ k → last_passes ends_mkfs journal ≡ true
        by_count zero is = absurd (none_done name me makes out journal x is)
        by_count (suc zero) is = by_stop (last_stops journal) refl is
        by_count (suc (suc k)) is =
            behind_first ends_mkfs (event.Host name me)
            (event.Mkfs name request ∷ []) out.lines [] journal
            (mkfs_end name request out.lines unhalted)
            (subst (λ (es : List Event). FollowsShape out.lines
            (event.Host name me ∷ event.Mkfs name request ∷ es) [] journal)
            (take_none k) (shape_at (suc (suc k)) is))

  shot_ends : (shot : OneShot) → IsUnhalted shot → HasStopped out (alone_events name me shot) journal → last_passes (ends_shot shot) journal ≡ true
  shot_ends (Makes request) unhalted x = mkfs_ends request unhalted x
  shot_ends (Runs what) unhalted x = command_ends what x
  shot_ends (MakesParents path attr) unhalted x = parents_end name me path attr out journal x

  -- for the line of a fault no memory is wanted
  fault_short : {events : List Event} → EndsBroken events journal → last_passes is_short journal ≡ true
  fault_short broken = ap (last_passes is_short) broken.is ∙ last_behind is_short broken.prefix (Refused broken.name (why.MediaFault broken.line) ∷ []) refl

  module _ (given : Status) (fact : Type 0) where
    -- the media failed in a mkfs
    broken : (shot : OneShot) → HasEnded MkfsFails out (alone_events name me shot) journal → OnlyLastStops journal
        → LastSays status.MediaFault journal out.sink given → Ran me shot out journal fact given
    broken (Makes request) x goes (inl put) = ran name me (Makes request) out journal given fact MkfsFails (alone_events name me (Makes request))
        (shown journal) x (whole name me (Makes request) out journal goes, refl) media_own tt put (λ e. absurd cc)
    broken (Makes request) x goes (inr put) = absurd (false≢true (sym put.1 ∙ fault_short x.caused))
    broken (Runs what) x goes put = absurd (none_breaks name me (λ (w : Ask). w) (what ∷ []) out journal x)
    broken (MakesParents path attr) x goes put = absurd (none_breaks name me (makes_one attr) (path_prefixes path) out journal x)

    -- by how the run has ended, and what was put then
    pub shot_ran : (shot : OneShot) → IsUnhalted shot → (ended_so : Result (Unit {0}) EventFault) → SparedRun shot out (MayLack ended_so journal)
        → ShotEnded ended_so out (alone_events name me shot) journal → ShotSays ended_so (done_status shot journal) journal out.sink given
        → OnOk ended_so fact → Ran me shot out journal fact given
    shot_ran shot unhalted (Ok x) spared stopped says known = done name me shot out journal given fact spared stopped (shot_ends shot unhalted stopped) says known
    shot_ran shot unhalted (Err fault.MkfsFailed) spared x says known = broken shot x.0 x.1 says
    shot_ran shot unhalted (Err (fault.SourceEnded end)) spared x says known = ended name me shot out journal given fact
        (lack_spares shot status.OutOfMemory out ⊤ spared tt) (end_of end) x.0 x.1 x.2 says
    shot_ran shot unhalted (Err fault.OutOfMemory) spared x says known = wants name me shot out journal given fact (lack_spares shot status.OutOfMemory out ⊤ spared tt) x.0 x.1 x.2 says

nothing_known : (ended_so : Result (Unit {0}) EventFault) → OnOk ended_so ⊤
nothing_known (Ok x) = tt
nothing_known (Err fault) = tt

module _ (name me : List ℕ) (out : Outside) (journal : List Note) (given : Status) (later : NoneFalls out) where
  -- as the top call tells it
  pub shot_top : (shot : OneShot) → IsUnhalted shot → (ended_so : Result (Unit {0}) EventFault) → SparedRun shot out (MayLack ended_so journal)
      → ShotEnded ended_so out (alone_events name me shot) journal → ShotSays ended_so (done_status shot journal) journal out.sink given
      → TopEnds script_events storm (Some (Single me shot)) out given
  shot_top shot unhalted ended_so spared x says =
      let run = shot_ran name me out journal given ⊤ shot unhalted ended_so spared x says (nothing_known ended_so) in
      record { text = run.text; own = run.own; shows = inr run.runs; later = later; put = run.put }

-- the notes of a run name hosts that were declared before them
pub shot_named : (ended : Result (Unit {0}) EventFault) (out : Outside) (events : List Event) (journal : List Note) → ShotEnded ended out events journal → NameDeclared 0 journal
shot_named (Ok x) out events journal stopped = stopped.ended.named
shot_named (Err fault) out events journal x = x.0.named
