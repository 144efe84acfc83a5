-- What the program puts, leaves and answers, for each of its commands. The grammar of scripts and the script of a storm are
-- parameters.
use Rattle.std.specs.Prelude.{ℕ, ⊤, ◌≡◌, ◌⊎◌, ◌<◌, ◌≤◌, ◌==◌, Bool, true, false, if◌then◌else◌, List, [], ◌∷◌, ◌++◌, codes, length, map, take, Option, Some, None, Result, Ok, Err}
use Rattle.std.specs.FinMap as finmap
use Rattle.std.specs.List.{list_any}
use Rattle.fam_base.specs.declared.cmd.Attr.{Attr}
use Rattle.fam_base.specs.declared.cmd.Cmd.TheVariants as cmd
use Rattle.fam_base.specs.Paths.{slash}
use Rattle.fam_machine.specs.declared.request.MkfsRequest.{MkfsRequest}
use Rattle.fam_crc.specs.Crc.{crc32}
use Rattle.fam_media.specs.Files.{Files}
use Rattle.fam_media.specs.Outside.{IfModelled}
use Rattle.fam_journal.specs.Events.{Session, first_session}
use Rattle.fam_journal.specs.declared.event.Ask.{Ask}
use Rattle.fam_journal.specs.declared.event.Ask.TheVariants as ask
use Rattle.fam_journal.specs.declared.event.Event.{Event}
use Rattle.fam_journal.specs.declared.event.Event.TheVariants as event
use Rattle.fam_outcomes.specs.declared.status.Status.{Status}
use Rattle.fam_outcomes.specs.declared.status.Status.TheVariants as status
use Rattle.fam_journal.specs.Ends.{AllDone, Ending, EventsDone, MkfsFails, EndsOutOfMemory, EndsOutOfMemoryBroken, IsFaultless, SinkFails, SourceFails, counted}
use Rattle.fam_journal.specs.Follows.{Faulted, FollowsCut, FollowsLast, Short, SourceEnd}
use Rattle.fam_journal.specs.Notes.{Note}
use Rattle.fam_outcomes.specs.Runs.{HasRun, IsPut, NoneFalls, Outside, RunsOn, SourceCaused}
use Rattle.fam_outcomes.specs.Statuses.{good_status, is_good, last_status, last_stops, note_stops, parents_status}
use Rattle.fam_outcomes.specs.Texts.{line, name_text, number, render, shown}
use Rattle.fam_journal.specs.NoteClasses.{NoteClass, note_class, Declared, Formatted, Going, Answering, Refusing}

-- Lines that end a run early.

-- the line of a source that failed or was short
abbrev pub source_line : SourceEnd → List ℕ
source_line Faulted = line (codes "source fault")
source_line (Short size got) = line (codes "short source" ++ number size ++ number got)

-- the line of a run for which no memory was left
abbrev pub memory_line : List ℕ
memory_line = line (codes "out of memory")

-- the line of words that are no command
abbrev pub usage_line : List ℕ
usage_line = line (codes "usage: famfs mkfs|logplay|mkdir|creat|cp|verify|read|check|fsck|script|storm WORDS")

-- Scripts.

-- a script puts its notes, and behind them the line that ends it early. Where there is no memory left for the text of all
-- notes the first ones are put
abbrev pub ScriptPuts : Ending → List Note → List ℕ → Type 0
ScriptPuts AllDone journal text = text ≡ render journal
ScriptPuts MkfsFails journal text = text ≡ render journal
ScriptPuts (SourceFails end) journal text = text ≡ render journal ++ source_line end
ScriptPuts EndsOutOfMemory journal text = (count : ℕ) × (text ≡ render (take count journal) ++ memory_line)
ScriptPuts EndsOutOfMemoryBroken journal text = (count : ℕ) × (text ≡ render (take count journal) ++ memory_line)
ScriptPuts SinkFails journal text = text ≡ render journal

-- the status of a script, by how its run ends
abbrev pub script_status : Ending → List Note → Status
script_status AllDone journal = good_status (is_good journal)
script_status MkfsFails journal = status.MediaFault
script_status (SourceFails end) journal = status.SourceFault
script_status EndsOutOfMemory journal = status.OutOfMemory
script_status EndsOutOfMemoryBroken journal = status.OutOfMemory
script_status SinkFails journal = status.SinkFault

-- Commands on their own.

-- a mkfs, a command, or directories along a path
pub data OneShot : Type 0 where
  Makes : (request : MkfsRequest) → OneShot
  Runs : (what : Ask) → OneShot
  MakesParents : (path : List ℕ) (attr : Attr) → OneShot

-- the prefixes of a path that end at a component, the shortest first; `prefix` stands before the bytes
abbrev pub prefixes_behind : List ℕ → List ℕ → List (List ℕ)
prefixes_behind prefix [] = prefix ∷ []
prefixes_behind prefix (byte ∷ bytes) = if byte == slash then prefix ∷ prefixes_behind (prefix ++ byte ∷ []) bytes else prefixes_behind (prefix ++ byte ∷ []) bytes

-- the directories along a path, the shortest first, and last the path itself
abbrev pub path_prefixes : List ℕ → List (List ℕ)
path_prefixes path = prefixes_behind [] path

-- what the one host does
abbrev pub shot_events : List ℕ → OneShot → List Event
shot_events name (Makes request) = event.Mkfs name request ∷ []
shot_events name (Runs what) = event.Run name what ∷ []
shot_events name (MakesParents path attr) = map (λ prefix. event.Run name (ask.Plain (cmd.Mkdir prefix attr))) (path_prefixes path)

-- the notes but the last one
abbrev pub without_last : List Note → List Note
without_last [] = []
without_last (note ∷ []) = []
without_last (note ∷ next ∷ notes) = note ∷ without_last (next ∷ notes)

-- the events of a command on its own, whose host is declared. It goes on up to the first note that stops it; where none does,
-- all events are done
pub record IsWholeRun (me : List ℕ) (shot : OneShot) (events : List Event) (journal : List Note) : Type 0 where
  pub name : List ℕ
  pub count : ℕ
  pub events_are : events ≡ event.Host name me ∷ take count (shot_events name shot)
  pub goes_on : list_any note_stops (without_last journal) ≡ false
  pub all : last_stops journal ≡ false → take count (shot_events name shot) ≡ shot_events name shot

-- the last note of a mkfs, and of a command, that were run to their end; by the class of the note
abbrev pub ends_mkfs_in : NoteClass → Bool
ends_mkfs_in (Declared name uuid) = false
ends_mkfs_in (Formatted host p) = true
ends_mkfs_in (Going host) = false
ends_mkfs_in (Answering host answer) = false
ends_mkfs_in (Refusing name cause) = true

-- so of a note, by its class
abbrev pub ends_mkfs : Note → Bool
ends_mkfs note = ends_mkfs_in (note_class note)

-- a note that ends a command: its answer, or a refusal; by the class of the note
abbrev pub ends_command_in : NoteClass → Bool
ends_command_in (Declared name uuid) = false
ends_command_in (Formatted host p) = false
ends_command_in (Going host) = false
ends_command_in (Answering host answer) = true
ends_command_in (Refusing name cause) = true

-- so of a note, by its class
abbrev pub ends_command : Note → Bool
ends_command note = ends_command_in (note_class note)

-- a note that ends a run of a command on its own
abbrev pub ends_shot : OneShot → Note → Bool
ends_shot (Makes request) note = ends_mkfs note
ends_shot (Runs what) note = ends_command note
ends_shot (MakesParents path attr) note = ends_command note

-- the last note is one of these
abbrev pub last_passes : (Note → Bool) → List Note → Bool
last_passes test [] = false
last_passes test (note ∷ []) = test note
last_passes test (note ∷ next ∷ notes) = last_passes test (next ∷ notes)

-- it puts its last note; or the line that ends it early, alone. The media fails a mkfs alone; and where no memory was left
-- no note tells a media fault
abbrev pub ShotText : OneShot → Ending → List Note → List ℕ → Type 0
ShotText shot AllDone journal text = (last_passes (ends_shot shot) journal ≡ true) × (text ≡ shown journal)
ShotText (Makes request) MkfsFails journal text = text ≡ shown journal
ShotText (Runs what) MkfsFails journal text = ⊥
ShotText (MakesParents path attr) MkfsFails journal text = ⊥
ShotText shot (SourceFails end) journal text = text ≡ source_line end
ShotText shot EndsOutOfMemory journal text = (text ≡ memory_line) × IsFaultless journal
ShotText shot EndsOutOfMemoryBroken journal text = ⊥
ShotText shot SinkFails journal text = ⊥

-- what a command on its own puts, of a run up to the note that stops it
abbrev pub ShotPuts : List ℕ → OneShot → List Event → Ending → List Note → List ℕ → Type 0
ShotPuts me shot events ending journal text = IsWholeRun me shot events journal × ShotText shot ending journal text

-- the status of what was run to its end
abbrev pub done_status : OneShot → List Note → Status
done_status (Makes request) journal = last_status journal
done_status (Runs what) journal = last_status journal
done_status (MakesParents path attr) journal = parents_status journal

-- the status of a command on its own, by how its run ends
abbrev pub shot_status : OneShot → Ending → List Note → Status
shot_status shot AllDone journal = done_status shot journal
shot_status shot MkfsFails journal = status.MediaFault
shot_status shot (SourceFails end) journal = status.SourceFault
shot_status shot EndsOutOfMemory journal = status.OutOfMemory
shot_status shot EndsOutOfMemoryBroken journal = status.OutOfMemory
shot_status shot SinkFails journal = status.SinkFault

-- Storms.

-- the number of the script's events, the counts of the notes, and the CRC-32 of the notes' text
abbrev pub storm_line : ℕ → ℕ → List Event → List Note → List ℕ
storm_line seed size events journal =
    line (codes "storm" ++ number seed ++ number size ++ codes " events" ++ number (length events) ++ codes " answers" ++ number (counted journal).answers ++ codes " refused" ++ number (counted journal).refused ++ codes " settled" ++ number (counted journal).settled ++ codes " crc" ++ number (crc32 (render journal)))

-- a storm puts its line, also where the media failed in a mkfs; or the line of out of memory alone. It reads no source
abbrev pub StormPuts : ℕ → ℕ → List Event → Ending → List Note → List ℕ → Type 0
StormPuts seed size events AllDone journal text = text ≡ storm_line seed size events journal
StormPuts seed size events MkfsFails journal text = text ≡ storm_line seed size events journal
StormPuts seed size events (SourceFails end) journal text = ⊥
StormPuts seed size events EndsOutOfMemory journal text = text ≡ memory_line
StormPuts seed size events EndsOutOfMemoryBroken journal text = text ≡ memory_line
StormPuts seed size events SinkFails journal text = ⊥

-- the status of a storm, by how its run ends
abbrev pub storm_status : Ending → List Note → Status
storm_status AllDone journal = status.Done
storm_status MkfsFails journal = status.MediaFault
storm_status (SourceFails end) journal = status.SourceFault
storm_status EndsOutOfMemory journal = status.OutOfMemory
storm_status EndsOutOfMemoryBroken journal = status.OutOfMemory
storm_status SinkFails journal = status.SinkFault

-- The commands.

-- what the program is asked for
pub data Command : Type 0 where
  -- a command on its own, for a host of this UUID
  Single : (me : List ℕ) (shot : OneShot) → Command
  -- the script of this name
  Script : (name : List ℕ) → Command
  -- a storm is run; or its script is printed, and nothing is run
  Storm : (seed size : ℕ) (prints : Bool) → Command

-- what a script's bytes are: its events, or its first bad line and the column there
abbrev pub Grammar : Type 0
Grammar = List ℕ → Result (List Event) (ℕ × ℕ)

-- the script of a storm, by its seed and size
abbrev pub Storms : Type 0
Storms = ℕ → ℕ → List ℕ

-- the most bytes of a script
abbrev pub script_limit : ℕ
script_limit = 16777216

-- Why no event is run.

-- why no event is run
pub data Early : Type 0 where
  -- the words are no command
  NoCommand : Early
  -- there is no script of this name
  NoScript : (name : List ℕ) → Early
  -- it has so many bytes, which are too many
  LongScript : (size : ℕ) → Early
  -- the shelf failed, or the script was short
  ScriptFails : (end : SourceEnd) → Early
  -- this line has no event: here is the first word that doesn't fit
  BadLine : (line column : ℕ) → Early
  -- a storm's script is printed
  Prints : (script : List ℕ) → Early
  -- no memory was left
  EarlyOutOfMemory : Early

-- the text where no event is run
abbrev pub early_text : Early → List ℕ
early_text NoCommand = usage_line
early_text (NoScript name) = line (codes "no file" ++ name_text name)
early_text (LongScript size) = line (codes "script too long" ++ number size)
early_text (ScriptFails end) = source_line end
early_text (BadLine at column) = line (codes "bad line" ++ number at ++ number column)
early_text (Prints script) = script
early_text EarlyOutOfMemory = memory_line

-- the status where no event is run
abbrev pub early_status : Early → Status
early_status NoCommand = status.Usage
early_status (NoScript name) = status.Refused
early_status (LongScript size) = status.BadScript
early_status (ScriptFails end) = status.SourceFault
early_status (BadLine at column) = status.BadScript
early_status (Prints script) = status.Done
early_status EarlyOutOfMemory = status.OutOfMemory

-- for a script alone
abbrev pub OfScript : Option Command → (List ℕ → Type 0) → Type 0
OfScript None P = ⊥
OfScript (Some (Single me shot)) P = ⊥
OfScript (Some (Script name)) P = P name
OfScript (Some (Storm seed size prints)) P = ⊥

-- for a storm that is printed
abbrev pub OfPrint : Option Command → (ℕ → ℕ → Type 0) → Type 0
OfPrint None P = ⊥
OfPrint (Some (Single me shot)) P = ⊥
OfPrint (Some (Script name)) P = ⊥
OfPrint (Some (Storm seed size false)) P = ⊥
OfPrint (Some (Storm seed size true)) P = P seed size

-- where the files are modelled, these are the script's bytes
abbrev pub HoldsScript : Outside → List ℕ → List ℕ → Type 0
HoldsScript out name bytes = IfModelled out.shelf.old.files (λ files. finmap.get files name ≡ Some bytes)

-- where the files are modelled, the script has so many bytes
abbrev pub HasSize : Outside → List ℕ → ℕ → Type 0
HasSize out name size = IfModelled out.shelf.old.files (λ files. (bytes : List ℕ) × (finmap.get files name ≡ Some bytes) × (size ≡ length bytes))

-- a script that is short is no longer than a script may be: a longer one isn't read
abbrev pub ScriptCaused : SourceEnd → Outside → List ℕ → Type 0
ScriptCaused Faulted out name = SourceCaused Faulted out
ScriptCaused (Short size got) out name = SourceCaused (Short size got) out × (size ≤ script_limit) × HasSize out name size

-- the script's first bad line
pub record HasBadLine (grammar : Grammar) (out : Outside) (name : List ℕ) (at column : ℕ) : Type 0 where
  pub bytes : List ℕ
  pub holds : HoldsScript out name bytes
  pub within : length bytes ≤ script_limit
  pub bad : grammar bytes ≡ Err (at, column)

-- each of them has its cause. Memory may run out at any time
abbrev pub IsEarly : Grammar → Storms → Option Command → Outside → Early → Type 0
IsEarly grammar storms command out NoCommand = command ≡ None
IsEarly grammar storms command out (NoScript own) = OfScript command (λ name. (own ≡ name) × IfModelled out.shelf.old.files (λ files. finmap.get files name ≡ None))
IsEarly grammar storms command out (LongScript size) = OfScript command (λ name. (script_limit < size) × HasSize out name size)
IsEarly grammar storms command out (ScriptFails end) = OfScript command (ScriptCaused end out)
IsEarly grammar storms command out (BadLine at column) = OfScript command (λ name. HasBadLine grammar out name at column)
IsEarly grammar storms command out (Prints script) = OfPrint command (λ seed size. script ≡ storms seed size)
IsEarly grammar storms command out EarlyOutOfMemory = ⊤

-- no event was run: the image is as it was
pub record EndsEarly (grammar : Grammar) (storms : Storms) (command : Option Command) (out : Outside) (text : List ℕ) (own : Status) : Type 0 where
  pub early : Early
  pub is : IsEarly grammar storms command out early
  pub text_is : text ≡ early_text early
  pub status_is : own ≡ early_status early
  pub same : out.media.new.image ≡ out.media.old.image

-- Runs.

-- the image is as it was, where it and the files are modelled
abbrev pub LeavesImage : Outside → Type 0
LeavesImage out = IfModelled out.media.old.image (λ start. IfModelled out.shelf.old.files (λ files. out.media.new.image ≡ Some start))

-- so it is where a command says that no memory is left: an append has stored nothing then
abbrev pub SparesImage : OneShot → Status → Outside → Type 0
SparesImage (Makes request) own out = ⊤
SparesImage (Runs what) own out = own ≡ status.OutOfMemory → LeavesImage out
SparesImage (MakesParents path attr) own out = ⊤

-- a command on its own has run, for a host of this UUID
pub record ShotRuns (me : List ℕ) (shot : OneShot) (out : Outside) (text : List ℕ) (own : Status) : Type 0 where
  pub ending : Ending
  pub events : List Event
  pub run : HasRun (ShotPuts me shot events) (shot_status shot) ending out events text own
  pub spares : SparesImage shot own out

-- where the sink tells its bytes, at least this text is put
abbrev pub HasPut : Outside → List ℕ → Type 0
HasPut out text = IfModelled out.sink.old.bytes (λ old. IfModelled out.sink.new.bytes (λ now. (more : List ℕ) × (now ≡ old ++ text ++ more)))

-- each event's notes are put when it is done, and nothing is run behind a put that failed: so of the events that are done the
-- notes are put, of all but the last one
abbrev pub PutsEach : (ending : Ending) (files : Files) (events : List Event) (old : Session) (journal : List Note) (new : Session) → EventsDone ending files events old journal new → Outside → Type 0
PutsEach AllDone files events old journal new follows out = HasPut out (render journal)
PutsEach MkfsFails files events old journal new follows out = HasPut out (render follows.whole_notes)
PutsEach (SourceFails end) files events old journal new follows out = HasPut out (render journal)
PutsEach EndsOutOfMemory files events old journal new follows out =
    (journal ≡ []) ⊎ ((last : FollowsLast files events old journal new) × HasPut out (render last.whole_notes)) ⊎ ((cut : FollowsCut files events old journal new) × HasPut out (render cut.whole_notes))
PutsEach EndsOutOfMemoryBroken files events old journal new follows out = HasPut out (render follows.whole_notes)
PutsEach SinkFails files events old journal new follows out = HasPut out (render follows.whole_notes)

-- where image and files are modelled, the run that they tell puts so
abbrev pub PutsTold : Ending → List Event → List Note → Outside → Type 0
PutsTold ending events journal out =
    IfModelled out.media.old.image (λ start. IfModelled out.shelf.old.files (λ files. (run : RunsOn ending files events start out.media.new.image journal) × PutsEach ending files events (first_session start) journal run.last run.follows out))

-- all events are done only where no put failed
pub record ScriptRuns (grammar : Grammar) (name : List ℕ) (out : Outside) (given : Status) (text : List ℕ) (own : Status) : Type 0 where
  pub ending : Ending
  pub events : List Event
  pub bytes : List ℕ
  pub holds : HoldsScript out name bytes
  pub within : length bytes ≤ script_limit
  pub reads : grammar bytes ≡ Ok events
  pub run : HasRun ScriptPuts script_status ending out events text own
  pub whole : ending ≡ AllDone → given ≡ own
  pub each : PutsTold ending events run.journal out

-- a storm has run, whose script is that of its seed and size
pub record StormRuns (grammar : Grammar) (storms : Storms) (seed size : ℕ) (out : Outside) (text : List ℕ) (own : Status) : Type 0 where
  pub ending : Ending
  pub events : List Event
  pub reads : grammar (storms seed size) ≡ Ok events
  pub run : HasRun (StormPuts seed size events) storm_status ending out events text own

-- the command has run: but no storm that is printed alone
abbrev pub CommandRuns : Grammar → Storms → Option Command → Outside → Status → List ℕ → Status → Type 0
CommandRuns grammar storms None out given text own = ⊥
CommandRuns grammar storms (Some (Single me shot)) out given text own = ShotRuns me shot out text own
CommandRuns grammar storms (Some (Script name)) out given text own = ScriptRuns grammar name out given text own
CommandRuns grammar storms (Some (Storm seed size true)) out given text own = ⊥
CommandRuns grammar storms (Some (Storm seed size false)) out given text own = StormRuns grammar storms seed size out text own

-- The top call: what is to be put, and what of it is put; and counts never fall. `own` is the status were the sink sound.
pub record TopEnds (grammar : Grammar) (storms : Storms) (command : Option Command) (out : Outside) (given : Status) : Type 0 where
  pub text : List ℕ
  pub own : Status
  pub shows : EndsEarly grammar storms command out text own ⊎ CommandRuns grammar storms command out given text own
  pub later : NoneFalls out
  pub put : IsPut own given text out
