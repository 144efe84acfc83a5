-- What follows the first line of a note, and which note a line with what follows it is.
use Rattle.std.specs.Prelude.{ℕ, ⊤, ◌≡◌, List, [], Option, Some, None, is_some, slice_get, not}
use Rattle.std.specs.FinMap as finmap
use Rattle.fam_base.specs.declared.entry.Entry.{Entry}
use Rattle.fam_base.specs.declared.entry.Params.{Params}
use Rattle.fam_format.specs.Layout.{slots_of}
use Rattle.fam_format.specs.Tree.{Tree, replay}
use Rattle.fam_rules.specs.declared.answers.Checked.{Checked}
use Rattle.fam_rules.specs.declared.answers.Report.{Report}
use Rattle.fam_rules.specs.Reply as reply
use Rattle.fam_rules.specs.Reply.{Reply}
use Rattle.fam_journal.specs.Notes.{Answer, Replied, MediaFault, Note, Host, Made, Cut, Start, Mark, Found, Writes, Answered, Stop, Halt, Umount, Refused}
use Rattle.fam_history.specs.Answers.{none_differs}
use Rattle.fam_history.specs.declared.note.ToldLine.{ToldLine}
use Rattle.fam_history.specs.ToldNotes.{line_told}
use Rattle.fam_judge.specs.Standing.{OfFace}
use Rattle.fam_lines.specs.Hosts.{faces_of}
use Rattle.fam_lines.specs.declared.host.SeenHost.{SeenHost}

-- the further lines, as what they tell: entries, or a report
pub record Further : Type 0 where
  pub entries : List Entry
  pub report : Option Report

-- these entries and this report
abbrev pub further : List Entry → Option Report → Further
further entries report = record { entries = entries; report = report }

-- no line follows
abbrev pub nothing : Further
nothing = further [] None

-- what follows the first line of a reply
abbrev pub behind_reply : Reply → Further
behind_reply (reply.Appended seq) = nothing
behind_reply (reply.NotAppended why) = nothing
behind_reply (reply.Played m tree) = further (finmap.values tree) None
behind_reply (reply.Mounted m) = nothing
behind_reply (reply.Same m) = nothing
behind_reply (reply.Differs m offset found wanted) = nothing
behind_reply (reply.Length m size wanted) = nothing
behind_reply (reply.Bytes m bytes) = nothing
behind_reply (reply.NotFound m) = nothing
behind_reply (reply.IsDirectory m) = nothing
behind_reply (reply.Checks m checked) = nothing
behind_reply (reply.Reports report) = further [] (Some report)
behind_reply (reply.NoSuperblock fault) = nothing
behind_reply (reply.BadHeader fault) = nothing
behind_reply (reply.BadSlot seq why) = nothing

-- so of an answer
abbrev pub behind_answer : Answer → Further
behind_answer (Replied given) = behind_reply given
behind_answer (MediaFault at) = nothing

-- so of a note
abbrev pub behind_note : Note → Further
behind_note (Host name uuid) = nothing
behind_note (Made h p) = nothing
behind_note (Cut h k) = nothing
behind_note (Start h cmd) = nothing
behind_note (Mark h) = nothing
behind_note (Found h n) = nothing
behind_note (Writes h seq entry) = nothing
behind_note (Answered h answer) = behind_answer answer
behind_note (Stop h) = nothing
behind_note (Halt h) = nothing
behind_note (Umount h) = nothing
behind_note (Refused name cause) = nothing

-- of hosts of these names the note's first line tells this, and so much follows it
pub record IsNoteOf (names : List (List ℕ)) (told : ToldLine) (further : Further) (note : Note) : Type 0 where
  pub first : line_told names note ≡ told
  pub behind : behind_note note ≡ further

-- What no text tells, of notes that stand and fit.

-- a tree is of entries
pub record IsTreeOfEntries (tree : Tree) : Type 0 where
  pub entries : List Entry
  pub is : tree ≡ replay entries

-- a first path is named just where some path differs
abbrev pub NamesFirst : Checked → Type 0
NamesFirst c = is_some c.first ≡ not (none_differs c.missing c.extra c.changed)

-- of a reply
abbrev pub IsEntireReply : Reply → Type 0
IsEntireReply (reply.Appended seq) = ⊤
IsEntireReply (reply.NotAppended why) = ⊤
IsEntireReply (reply.Played m tree) = IsTreeOfEntries tree
IsEntireReply (reply.Mounted m) = ⊤
IsEntireReply (reply.Same m) = ⊤
IsEntireReply (reply.Differs m offset found wanted) = ⊤
IsEntireReply (reply.Length m size wanted) = ⊤
IsEntireReply (reply.Bytes m bytes) = ⊤
IsEntireReply (reply.NotFound m) = ⊤
IsEntireReply (reply.IsDirectory m) = ⊤
IsEntireReply (reply.Checks m checked) = NamesFirst checked
IsEntireReply (reply.Reports report) = ⊤
IsEntireReply (reply.NoSuperblock fault) = ⊤
IsEntireReply (reply.BadHeader fault) = ⊤
IsEntireReply (reply.BadSlot seq why) = ⊤

-- of an answer
abbrev pub IsEntireAnswer : Answer → Type 0
IsEntireAnswer (Replied given) = IsEntireReply given
IsEntireAnswer (MediaFault at) = ⊤

-- the slots follow from format and log, and the master is the host of this UUID
pub record IsWholeMade (me : List ℕ) (p : Params) : Type 0 where
  pub slots : p.slots ≡ slots_of p.format p.log_length
  pub master : p.master ≡ me

-- of a note: what its text doesn't tell is what it is of each note that stands and fits
abbrev pub IsEntireNote : List SeenHost → Note → Type 0
IsEntireNote hosts (Host name uuid) = ⊤
IsEntireNote hosts (Made h p) = OfFace (slice_get (faces_of hosts) h) (λ f. IsWholeMade f.uuid p)
IsEntireNote hosts (Cut h k) = ⊤
IsEntireNote hosts (Start h cmd) = ⊤
IsEntireNote hosts (Mark h) = ⊤
IsEntireNote hosts (Found h n) = ⊤
IsEntireNote hosts (Writes h seq entry) = ⊤
IsEntireNote hosts (Answered h answer) = IsEntireAnswer answer
IsEntireNote hosts (Stop h) = ⊤
IsEntireNote hosts (Halt h) = ⊤
IsEntireNote hosts (Umount h) = ⊤
IsEntireNote hosts (Refused name cause) = ⊤
