-- Statuses have their causes: which counts rose.
use Rattle.std.proofs.Common.{◌≡◌, ◌⊎◌, inl, inr, ℕ, ◌≤◌, Bool, true, false, List, [], ◌∷◌, ◌++◌, Option, Some, None, refl, sym, ◌∙◌, subst, arith}
use Rattle.std.specs.Prelude.{⊤, if◌then◌else◌, option_map}
use Rattle.fam_media.specs.Outside.{IsPartlyPut, with_piece}
use Rattle.fam_rules.specs.Reply as reply
use Rattle.fam_rules.specs.Reply.{Reply}
use Rattle.fam_journal.specs.declared.event.Event.{Event}
use Rattle.fam_journal.specs.declared.refusal.Refusal.{Refusal}
use Rattle.fam_journal.specs.declared.refusal.Refusal.TheVariants as why
use Rattle.fam_outcomes.specs.declared.status.Status.{Status}
use Rattle.fam_outcomes.specs.declared.status.Status.TheVariants as status
use Rattle.fam_journal.specs.Ends.{AllDone, Ending, HasCounted, MkfsFails, SourceFails, faults_of, note_faults}
use Rattle.fam_journal.specs.Follows.{Faulted, Short, SourceEnd}
use Rattle.fam_journal.specs.Notes.{Answer, Replied, MediaFault, Note, Answered, Refused}
use Rattle.fam_outcomes.specs.Programs.{Command, CommandRuns, Early, EndsEarly, Grammar, IsEarly, Makes, MakesParents, NoCommand, OfScript, OneShot, Runs, Script, ScriptCaused, ScriptFails, Single, Storm, Storms, TopEnds, done_status, early_status, script_status, shot_status, storm_status}
use Rattle.fam_outcomes.specs.Runs.{EndsBroken, HasRisen, IsCaused, Outside, SourceCaused}
use Rattle.fam_outcomes.specs.Statuses.{answer_status, cause_status, good_status, is_good, last_status, last_stops, note_status, parents_status, reply_status, sound_status}

-- What is said of a command, alone: a status of its own, or that the media failed.

-- the statuses that no fault has: done, refused or damaged
abbrev IsOrdinary : Status → Type 0
IsOrdinary status.Done = ⊤
IsOrdinary status.Refused = ⊤
IsOrdinary status.Damaged = ⊤
IsOrdinary status.Usage = ⊥
IsOrdinary status.BadScript = ⊥
IsOrdinary status.MediaFault = ⊥
IsOrdinary status.SourceFault = ⊥
IsOrdinary status.SinkFault = ⊥
IsOrdinary status.OutOfMemory = ⊥
IsOrdinary status.ShadeFault = ⊥

-- such a status; or a media fault, and then so many faults are told as are counted here
abbrev IsTold : Status → ℕ → Type 0
IsTold s faults = IsOrdinary s ⊎ ((s ≡ status.MediaFault) × (1 ≤ faults))

-- what has the status of a media fault tells one
told_fault : (s : Status) (faults : ℕ) → IsTold s faults → s ≡ status.MediaFault → 1 ≤ faults
told_fault s faults (inl x) e = absurd (subst IsOrdinary e x)
told_fault s faults (inr x) e = x.1

-- and nothing of this kind has the status of a source that failed
told_source : (s : Status) (faults : ℕ) → IsTold s faults → s ≡ status.SourceFault → ⊥
told_source s faults (inl x) e = subst IsOrdinary e x
told_source s faults (inr x) e = absurd (let other : status.MediaFault ≡ status.SourceFault = sym x.0 ∙ e in cc)

sound_told : (t : Bool) → IsOrdinary (sound_status t)
sound_told true = tt
sound_told false = tt

reply_told : (given : Reply) → IsOrdinary (reply_status given)
reply_told (reply.Checks m checked) = sound_told _
reply_told (reply.Reports report) = sound_told _
reply_told e = tt

answer_told : (host : ℕ) (answer : Answer) → IsTold (answer_status answer) (note_faults (Answered host answer))
answer_told host (Replied given) = inl (reply_told given)
answer_told host (MediaFault at) = inr (refl, omega arith)

cause_told : (name : List ℕ) (cause : Refusal) → IsTold (cause_status cause) (note_faults (Refused name cause))
cause_told name (why.MediaFault at) = inr (refl, omega arith)
cause_told name e = inl tt

note_told : (note : Note) → IsTold (note_status note) (note_faults note)
note_told (Answered host answer) = answer_told host answer
note_told (Refused name cause) = cause_told name cause
note_told e = inl tt

-- more faults are told where more is said
told_more : (s : Status) (a b : ℕ) → a ≤ b → IsTold s a → IsTold s b
told_more s a b more (inl x) = inl x
told_more s a b more (inr x) = inr (x.0, let some = x.1 in omega (arith, more, some))

-- a journal whose last note alone has the status of a media fault tells one
last_told : (journal : List Note) → IsTold (last_status journal) (faults_of journal)
last_told [] = inl tt
last_told (note ∷ []) = told_more (note_status note) (note_faults note) (faults_of (note ∷ [])) (omega arith) (note_told note)
last_told (note ∷ next ∷ notes) = told_more (last_status (next ∷ notes)) (faults_of (next ∷ notes)) (faults_of (note ∷ next ∷ notes)) (omega arith) (last_told (next ∷ notes))

parents_told : (journal : List Note) → IsTold (parents_status journal) (faults_of journal)
parents_told journal = go (last_stops journal)
  where
    go : (t : Bool) → IsTold (if t then last_status journal else status.Done) (faults_of journal)
    go true = last_told journal
    go false = inl tt

done_told : (shot : OneShot) (journal : List Note) → IsTold (done_status shot journal) (faults_of journal)
done_told (Makes request) journal = last_told journal
done_told (Runs what) journal = last_told journal
done_told (MakesParents path attr) journal = parents_told journal

good_told : (t : Bool) (faults : ℕ) → IsTold (good_status t) faults
good_told true faults = inl tt
good_told false faults = inl tt

-- Media faults.

faults_behind : (prefix rest : List Note) → faults_of rest ≤ faults_of (prefix ++ rest)
faults_behind [] rest = omega arith
faults_behind (note ∷ prefix) rest = let more = faults_behind prefix rest in omega (arith, more)

-- a journal behind which a mkfs was cut tells a fault
pub broken_faults : (events : List Event) (journal : List Note) → EndsBroken events journal → 1 ≤ faults_of journal
broken_faults events journal b = subst (λ (z : List Note). 1 ≤ faults_of z) (sym b.is) (faults_behind b.prefix (Refused b.name (why.MediaFault b.line) ∷ []))

-- then the media's count rose
pub risen : (before now : ℕ) (journal : List Note) → HasCounted before now journal → 1 ≤ faults_of journal → HasRisen before now
risen before now journal counted some = grind (arith, counted, some)

module _ (out : Outside) (events : List Event) (journal : List Note) where
  shot_fault : (shot : OneShot) (ending : Ending) → IsCaused ending events journal out → shot_status shot ending journal ≡ status.MediaFault → 1 ≤ faults_of journal
  shot_fault shot AllDone caused e = told_fault (done_status shot journal) (faults_of journal) (done_told shot journal) e
  shot_fault shot MkfsFails caused e = broken_faults events journal caused
  shot_fault shot c caused e = absurd cc

  script_fault : (ending : Ending) → IsCaused ending events journal out → script_status ending journal ≡ status.MediaFault → 1 ≤ faults_of journal
  script_fault AllDone caused e = told_fault (good_status (is_good journal)) (faults_of journal) (good_told (is_good journal) (faults_of journal)) e
  script_fault MkfsFails caused e = broken_faults events journal caused
  script_fault c caused e = absurd cc

  storm_fault : (ending : Ending) → IsCaused ending events journal out → storm_status ending journal ≡ status.MediaFault → 1 ≤ faults_of journal
  storm_fault MkfsFails caused e = broken_faults events journal caused
  storm_fault c caused e = absurd cc

-- Sources.

abbrev SourceRose : Outside → Type 0
SourceRose out = HasRisen out.shelf.old.faults out.shelf.new.faults ⊎ HasRisen out.shelf.old.shorts out.shelf.new.shorts

by_end : (out : Outside) (end : SourceEnd) → SourceCaused end out → SourceRose out
by_end out Faulted x = inl x
by_end out (Short size got) x = inr x.0

module _ (out : Outside) (events : List Event) (journal : List Note) where
  shot_source : (shot : OneShot) (ending : Ending) → IsCaused ending events journal out → shot_status shot ending journal ≡ status.SourceFault → SourceRose out
  shot_source shot AllDone caused e = absurd (told_source (done_status shot journal) (faults_of journal) (done_told shot journal) e)
  shot_source shot (SourceFails end) caused e = by_end out end caused
  shot_source shot c caused e = absurd cc

  script_source : (ending : Ending) → IsCaused ending events journal out → script_status ending journal ≡ status.SourceFault → SourceRose out
  script_source AllDone caused e = absurd (told_source (good_status (is_good journal)) (faults_of journal) (good_told (is_good journal) (faults_of journal)) e)
  script_source (SourceFails end) caused e = by_end out end caused
  script_source c caused e = absurd cc

  storm_source : (ending : Ending) → IsCaused ending events journal out → storm_status ending journal ≡ status.SourceFault → SourceRose out
  storm_source (SourceFails end) caused e = by_end out end caused
  storm_source c caused e = absurd cc

-- The top call.

module _ (grammar : Grammar) (storms : Storms) (out : Outside) (given : Status) (text : List ℕ) (own : Status) where
  early_fault : (early : Early) → early_status early ≡ status.MediaFault → ⊥
  early_fault NoCommand e = absurd cc
  early_fault c e = absurd cc

  runs_fault : (command : Option Command) → CommandRuns grammar storms command out given text own → own ≡ status.MediaFault → HasRisen out.media.old.faults out.media.new.faults
  runs_fault None x e = absurd x
  runs_fault (Some (Single me shot)) x e = risen out.media.old.faults out.media.new.faults x.run.journal x.run.counted
      (shot_fault out x.events x.run.journal shot x.ending x.run.caused (sym x.run.status_is ∙ e))
  runs_fault (Some (Script name)) x e = risen out.media.old.faults out.media.new.faults x.run.journal x.run.counted
      (script_fault out x.events x.run.journal x.ending x.run.caused (sym x.run.status_is ∙ e))
  runs_fault (Some (Storm seed size true)) x e = absurd x
  runs_fault (Some (Storm seed size false)) x e = risen out.media.old.faults out.media.new.faults x.run.journal x.run.counted
      (storm_fault out x.events x.run.journal x.ending x.run.caused (sym x.run.status_is ∙ e))

  runs_source : (command : Option Command) → CommandRuns grammar storms command out given text own → own ≡ status.SourceFault → SourceRose out
  runs_source None x e = absurd x
  runs_source (Some (Single me shot)) x e = shot_source out x.events x.run.journal shot x.ending x.run.caused (sym x.run.status_is ∙ e)
  runs_source (Some (Script name)) x e = script_source out x.events x.run.journal x.ending x.run.caused (sym x.run.status_is ∙ e)
  runs_source (Some (Storm seed size true)) x e = absurd x
  runs_source (Some (Storm seed size false)) x e = storm_source out x.events x.run.journal x.ending x.run.caused (sym x.run.status_is ∙ e)

  script_end : (end : SourceEnd) (command : Option Command) → OfScript command (ScriptCaused end out) → SourceRose out
  script_end end None x = absurd x
  script_end end (Some (Single me shot)) x = absurd x
  script_end Faulted (Some (Script name)) x = inl x
  script_end (Short size got) (Some (Script name)) x = inr x.0.0
  script_end end (Some (Storm seed size prints)) x = absurd x

  early_source : (command : Option Command) (early : Early) → IsEarly grammar storms command out early → early_status early ≡ status.SourceFault → SourceRose out
  early_source command (ScriptFails end) x e = script_end end command x
  early_source command c x e = absurd cc

  shows_fault : (command : Option Command) → EndsEarly grammar storms command out text own ⊎ CommandRuns grammar storms command out given text own
      → own ≡ status.MediaFault → HasRisen out.media.old.faults out.media.new.faults
  shows_fault command (inl x) e = absurd (early_fault x.early (sym x.status_is ∙ e))
  shows_fault command (inr x) e = runs_fault command x e

  shows_source : (command : Option Command) → EndsEarly grammar storms command out text own ⊎ CommandRuns grammar storms command out given text own → own ≡ status.SourceFault → SourceRose out
  shows_source command (inl x) e = early_source command x.early x.is (sym x.status_is ∙ e)
  shows_source command (inr x) e = runs_source command x e

module _ (grammar : Grammar) (storms : Storms) (command : Option Command) (out : Outside) (given : Status) (top : TopEnds grammar storms command out given) where
  -- a status other than the sink's is the text's own
  own_status : (wanted : Status) → given ≡ wanted → (wanted ≡ status.SinkFault → ⊥) → top.own ≡ wanted
  own_status wanted e other = go top.put.outcome
    where
      go : ((given ≡ top.own) × (out.sink.new.bytes ≡ option_map (with_piece top.text) out.sink.old.bytes))
          ⊎ ((given ≡ status.SinkFault) × IsPartlyPut out.sink.old.bytes out.sink.new.bytes top.text) → top.own ≡ wanted
      go (inl x) = sym x.0 ∙ e
      go (inr x) = absurd (other (sym e ∙ x.0))

  pub media_cause : given ≡ status.MediaFault → HasRisen out.media.old.faults out.media.new.faults
  media_cause e = shows_fault grammar storms out given top.text top.own command top.shows (own_status status.MediaFault e (λ z. absurd cc))

  pub source_cause : given ≡ status.SourceFault → SourceRose out
  source_cause e = shows_source grammar storms out given top.text top.own command top.shows (own_status status.SourceFault e (λ z. absurd cc))

  pub sink_cause : given ≡ status.SinkFault → HasRisen out.sink.old.faults out.sink.new.faults
  sink_cause e = top.put.rose e
