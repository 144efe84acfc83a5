-- What is put of logplay with a folder for the tree's shadow, and what it leaves there. docs/MANUAL.md, "Shadows".
use Rattle.std.specs.Prelude.{ℕ, ◌≡◌, ◌⊎◌, ◌++◌, List, [], ◌∷◌, codes, Option, Some, None, option_map, Result, Ok, Err, IfErr}
use Rattle.std.specs.FinMap as map
use Rattle.fam_base.specs.declared.cmd.Cmd.TheVariants as cmd
use Rattle.fam_media.specs.Outside.{with_piece}
use Rattle.fam_media.specs.States.{ShelfState, ShelfChange, SinkChange, SinkState}
use Rattle.fam_format.specs.Tree.{Tree}
use Rattle.fam_grammar.specs.Scripts.{script_events}
use Rattle.fam_rules.specs.Reply as reply
use Rattle.fam_rules.specs.Reply.{Reply}
use Rattle.fam_shadow.specs.declared.fault.ShadowFault.{ShadowFault}
use Rattle.fam_shadow.specs.declared.fault.ShadowFault.TheVariants as fault
use Rattle.fam_shadow.specs.Calls.{CallsMade}
use Rattle.fam_shadow.specs.Nodes.{ShadeChange}
use Rattle.fam_shadow.specs.Shadows.{NodesBecome, FaultCaused, ShadowEnds}
use Rattle.fam_storm.specs.Storm.{storm}
use Rattle.fam_journal.specs.declared.event.Ask.TheVariants as ask
use Rattle.fam_journal.specs.declared.event.Event.{Event}
use Rattle.fam_outcomes.specs.declared.status.Status.{Status}
use Rattle.fam_outcomes.specs.declared.status.Status.TheVariants as status
use Rattle.fam_journal.specs.Ends.{AllDone}
use Rattle.fam_journal.specs.Notes.{Answer, Replied, MediaFault, Note, Refused}
use Rattle.fam_outcomes.specs.Programs.{EndsEarly, IsWholeRun, OneShot, Runs, ShotRuns, Single, TopEnds, memory_line}
use Rattle.fam_outcomes.specs.Runs.{IsPut, NoneFalls, Outside}
use Rattle.fam_outcomes.specs.Statuses.{last_status}
use Rattle.fam_outcomes.specs.Texts.{line, number, shown}
use Rattle.fam_program.specs.Runs.{HasEnded}
use Rattle.fam_journal.specs.NoteClasses.{NoteClass, note_class, Declared, Formatted, Going, Answering, Refusing}

-- a shelf on which no file is, and no call of which failed
abbrev pub bare_shelf : ShelfState
bare_shelf = record { files = Some map.empty; faults = 0; shorts = 0 }

-- it stays so
abbrev pub no_files : ShelfChange
no_files = record { old = bare_shelf; new = bare_shelf }

-- it is as it was, and no call was made of it
abbrev pub IsShadeUntouched : ShadeChange → Type 0
IsShadeUntouched shade = shade.new ≡ shade.old

-- the command that shows the tree
abbrev pub logplay : OneShot
logplay = Runs (ask.Plain cmd.Logplay)

-- the tree that an answer shows, and how many of the log's entries it has
abbrev pub replied_tree : Reply → Option (ℕ × Tree)
replied_tree (reply.Appended seq) = None
replied_tree (reply.NotAppended refused) = None
replied_tree (reply.Played m tree) = Some (m, tree)
replied_tree (reply.Mounted m) = None
replied_tree (reply.Same m) = None
replied_tree (reply.Differs m offset found wanted) = None
replied_tree (reply.Length m size wanted) = None
replied_tree (reply.Bytes m bytes) = None
replied_tree (reply.NotFound m) = None
replied_tree (reply.IsDirectory m) = None
replied_tree (reply.Checks m checked) = None
replied_tree (reply.Reports report) = None
replied_tree (reply.NoSuperblock fault) = None
replied_tree (reply.BadHeader fault) = None
replied_tree (reply.BadSlot seq reason) = None

-- the tree that a logplay answers, and of how many entries it is
abbrev pub answered_tree : Answer → Option (ℕ × Tree)
answered_tree (Replied given) = replied_tree given
answered_tree (MediaFault at) = None

-- that of a note; by the class of the note
abbrev pub tree_in_in : NoteClass → Option (ℕ × Tree)
tree_in_in (Declared name uuid) = None
tree_in_in (Formatted host p) = None
tree_in_in (Going host) = None
tree_in_in (Answering host answer) = answered_tree answer
tree_in_in (Refusing name cause) = None

-- so of a note, by its class
abbrev pub tree_in : Note → Option (ℕ × Tree)
tree_in note = tree_in_in (note_class note)

-- that of the last note
abbrev pub shown_tree : List Note → Option (ℕ × Tree)
shown_tree [] = None
shown_tree (note ∷ []) = tree_in note
shown_tree (note ∷ next ∷ notes) = shown_tree (next ∷ notes)

-- why the shadow wasn't written, as a line. A name stands as it is, without further escapes
abbrev pub shadow_fault_text : ShadowFault → List ℕ
shadow_fault_text (fault.Clash name) = line (codes "refused clash " ++ name)
shadow_fault_text (fault.ShadeFault name) = line (codes "shade fault " ++ name)
shadow_fault_text fault.OutOfMemory = memory_line

-- how it was written, as a line
abbrev pub shadow_text : ℕ → Result (Unit {0}) ShadowFault → List ℕ
shadow_text m (Ok done) = line (codes "shadowed" ++ number m)
shadow_text m (Err given) = shadow_fault_text given

-- the status of a shadow, by how the writing ended
abbrev pub shadow_status : Result (Unit {0}) ShadowFault → Status
shadow_status (Ok done) = status.Done
shadow_status (Err (fault.Clash name)) = status.Refused
shadow_status (Err (fault.ShadeFault name)) = status.ShadeFault
shadow_status (Err fault.OutOfMemory) = status.OutOfMemory

-- the line is put, or that no memory is left for it
abbrev pub ShadowSays : ℕ → Result (Unit {0}) ShadowFault → List ℕ → Status → Type 0
ShadowSays m written text own = ((text ≡ shadow_text m written) × (own ≡ shadow_status written)) ⊎ ((text ≡ memory_line) × (own ≡ status.OutOfMemory))

-- logplay showed a tree, whose shadow was written: the theorem of `shadow`
pub record HasShadowed (me : List ℕ) (out : Outside) (shade : ShadeChange) (text : List ℕ) (own : Status) : Type 0 where
  pub events : List Event
  pub journal : List Note
  pub ended : HasEnded AllDone out events journal
  pub whole : IsWholeRun me logplay events journal
  pub m : ℕ
  pub tree : Tree
  pub shown : shown_tree journal ≡ Some (m, tree)
  pub written : Result (Unit {0}) ShadowFault
  pub becomes : NodesBecome shade.old.nodes shade.new.nodes (ShadowEnds tree written)
  pub caused : IfErr written (FaultCaused tree shade.old.faults shade.new.faults)
  pub calls : CallsMade tree shade written
  pub says : ShadowSays m written text own

-- text and status are logplay's, which showed no tree
pub record HasLogplayed (me : List ℕ) (out : Outside) (shade : ShadeChange) (text : List ℕ) (own : Status) : Type 0 where
  pub runs : ShotRuns me logplay out text own
  pub none : runs.ending ≡ AllDone → shown_tree runs.run.journal ≡ None
  pub untouched : IsShadeUntouched shade

-- what a shadow comes to: a logplay ran, and its tree was written, or not
abbrev pub ShadowRuns : Option (List ℕ) → Outside → ShadeChange → List ℕ → Status → Type 0
ShadowRuns None out shade text own = ⊥
ShadowRuns (Some me) out shade text own = HasShadowed me out shade text own ⊎ HasLogplayed me out shade text own

-- no event was run: the words ask for no shadow, or no memory was left
pub record ShadowEarly (asked : Option (List ℕ)) (out : Outside) (shade : ShadeChange) (text : List ℕ) (own : Status) : Type 0 where
  pub early : EndsEarly script_events storm (option_map (λ me. Single me logplay) asked) out text own
  pub untouched : IsShadeUntouched shade

-- what is to be put, what of it is put, and what is left in the folder, for a host of this UUID; or the words ask for no shadow
pub record ShadowTop (asked : Option (List ℕ)) (out : Outside) (shade : ShadeChange) (given : Status) : Type 0 where
  pub text : List ℕ
  pub own : Status
  pub shows : ShadowEarly asked out shade text own ⊎ ShadowRuns asked out shade text own
  pub later : NoneFalls out
  pub put : IsPut own given text out

-- Of logplay alone.

-- a sink that takes a text whole
abbrev pub takes_whole : List ℕ → SinkState → SinkChange
takes_whole text old = record { old = old; new = record { bytes = option_map (with_piece text) old.bytes; faults = old.faults } }

-- the same, but for what is put
abbrev pub with_sink : SinkChange → Outside → Outside
with_sink sink out = record { lines = out.lines; media = out.media; shelf = out.shelf; sink = sink }

-- logplay by itself, on the same media, puts the text of a journal; and it is the tree shown there that was written
pub record ShowsTree (me : List ℕ) (out : Outside) (shade : ShadeChange) (given : Status) : Type 0 where
  pub journal : List Note
  pub ends : TopEnds script_events storm (Some (Single me logplay)) (with_sink (takes_whole (shown journal) out.sink.old) out) (last_status journal)
  pub puts : ends.text ≡ shown journal
  pub m : ℕ
  pub tree : Tree
  pub shows : shown_tree journal ≡ Some (m, tree)
  pub written : Result (Unit {0}) ShadowFault
  pub becomes : NodesBecome shade.old.nodes shade.new.nodes (ShadowEnds tree written)
  pub calls : CallsMade tree shade written
  pub text : List ℕ
  pub own : Status
  pub says : ShadowSays m written text own
  pub put : IsPut own given text out

-- or it ends as logplay by itself does, and the folder is as it was
abbrev pub IsOfLogplay : List ℕ → Outside → ShadeChange → Status → Type 0
IsOfLogplay me out shade given = ShowsTree me out shade given ⊎ (TopEnds script_events storm (Some (Single me logplay)) out given × IsShadeUntouched shade)
