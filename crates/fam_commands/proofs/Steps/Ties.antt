-- What a task that stands for a command has of the words that its loads gave, phase by phase.
use Rattle.std.proofs.Common.{ℕ, ◌≡◌, ◌<◌, ◌≤◌, ◌+◌, ◌-◌, ◌*◌, true, List, [], length, drop, Option, Some, None, Ok}
use Rattle.std.specs.Prelude.{find, slice_index, nat_lt, if◌then◌else◌, ◌==◌}
use Rattle.std.specs.FinMap as finmap
use Rattle.fam_base.specs.declared.cmd.Cmd.{Cmd}
use Rattle.fam_base.specs.declared.cmd.Cmd.TheVariants.{Verify, Read, Fsck, Logplay, Mount, Mkdir, Creat, Cp, Check}
use Rattle.fam_base.specs.declared.cmd.Content.{Content}
use Rattle.fam_base.specs.declared.entry.Params.{Params}
use Rattle.fam_base.specs.declared.entry.Entry.{Entry}
use Rattle.fam_base.specs.declared.entry.Kind.TheVariants as kind
use Rattle.fam_base.specs.PathOrder.{path_eq}
use Rattle.fam_format.specs.Layout.{geometry, log_line}
use Rattle.fam_format.specs.Log.{log_fault, gate_fault}
use Rattle.fam_format.specs.Slot.{spelling}
use Rattle.fam_format.specs.Super.{magic_fault}
use Rattle.fam_format.specs.Tree.{replay}
use Rattle.fam_format.specs.Reading.{Sound}
use Rattle.fam_rules.specs.Content.{byte_in, content_byte}
use Rattle.fam_rules.specs.Decide.{decide, wish_of}
use Rattle.fam_rules.specs.Reports.{Survey, no_survey, survey_slots}
use Rattle.fam_rules.specs.Reply.{Appended}
use Rattle.fam_rules.specs.Written.{lines_of}
use Rattle.fam_commands.specs.declared.phase.Part.{Part}
use Rattle.fam_commands.specs.declared.phase.Part.TheVariants.{Superblock, Header, Slot, File}
use Rattle.fam_commands.specs.declared.phase.Phase.{Phase}
use Rattle.fam_commands.specs.declared.phase.Phase.TheVariants as at
use Rattle.fam_commands.specs.Kept.{Kept, IsKept, used}
use Rattle.fam_commands.specs.Task.{Task, used_in, first_in, size_of, wanted_lines, part_count}
use Rattle.fam_commands.specs.Turns.{Turn, Goes, Marks, Finds, Writes, Ends, slots_read, host_refusal}
use Rattle.fam_commands.specs.Counts.{steps_of, head_steps, word_steps, superblock_steps, log_header_steps, line_steps, slot_steps}
use Rattle.fam_commands.specs.Table.{RowNote, Quiet, Mark, Answer, fed, fed_super, fed_gate, fed_slots, entries_read, fits_content, magic_note, super_note, header_note, gate_note, slot_note, decision_note, line_note, fed_head, head_words}
use Rattle.fam_format.specs.Line.{line_words, last_word, line_bytes}

-- What the words say.

-- no slot was looked at; what the host kept is a history
pub record IsFresh (kept : Option Kept) (entries : List Entry) (survey : Survey) : Type 0 where
  pub joined : IsKept kept
  pub no_entry : entries ≡ []
  pub nothing : survey ≡ no_survey

-- the superblock is sound
pub record HasSuper (cmd : Cmd) (me : List ℕ) (lines : ℕ) (p : Params) (words : List ℕ) : Type 0 where
  pub super : fed_super words lines ≡ Ok p
  -- the host may go on
  pub host : host_refusal (wish_of cmd) p me ≡ None
  pub long : 1 + 2 * line_words ≤ length words

-- and so is the header
pub record HasHeader (cmd : Cmd) (me : List ℕ) (lines : ℕ) (p : Params) (words : List ℕ) : Type 0 where
  pub head : HasSuper cmd me lines p words
  pub header : log_fault (fed_head words log_line) p ≡ None
  pub long : 1 + 3 * line_words ≤ length words

-- and the gate
pub record HasGate (cmd : Cmd) (me : List ℕ) (lines : ℕ) (p : Params) (gate : ℕ) (words : List ℕ) : Type 0 where
  pub log : HasHeader cmd me lines p words
  pub gate_is : fed_gate words ≡ gate
  pub within : gate_fault gate p ≡ None
  pub long : head_words ≤ length words

-- the first i slots hold these entries
pub record AreRead (p : Params) (used entries : List Entry) (words : List ℕ) (i : ℕ) : Type 0 where
  pub sound : fed_slots words p used i ≡ Sound p entries
  pub count : length entries ≡ i
  pub lookups : (path : List ℕ) → finmap.get (replay entries) path ≡ find (λ e. path_eq e.path path) entries

-- what was found in the first i slots
abbrev pub SlotsKnown : Cmd → Params → ℕ → List Entry → List Entry → Survey → List ℕ → ℕ → Type 0
SlotsKnown Fsck p gate used entries survey words i = survey ≡ survey_slots (fed p 0 words) p gate 0 i no_survey
SlotsKnown Logplay p gate used entries survey words i = AreRead p used entries words i
SlotsKnown Mount p gate used entries survey words i = AreRead p used entries words i
SlotsKnown (Mkdir path attr) p gate used entries survey words i = AreRead p used entries words i
SlotsKnown (Creat path size attr stripe fill) p gate used entries survey words i = AreRead p used entries words i
SlotsKnown (Cp path attr stripe bytes) p gate used entries survey words i = AreRead p used entries words i
SlotsKnown (Verify path against) p gate used entries survey words i = AreRead p used entries words i
SlotsKnown (Read path offset count) p gate used entries survey words i = AreRead p used entries words i
SlotsKnown (Check listing) p gate used entries survey words i = AreRead p used entries words i

-- how many words are loaded before slot i, and how many operations are made, where f is the first slot
abbrev pub words_to : Params → ℕ → ℕ → ℕ
words_to p f i = head_words + (geometry p).words * (i - f)

abbrev pub steps_to : Params → ℕ → ℕ → ℕ
steps_to p f i = head_steps + slot_steps (geometry p) * (i - f)

-- operations up to the decision of a command that reads the slots below the gate, and so many more
abbrev pub decided_and : Params → ℕ → ℕ → ℕ → ℕ
decided_and p f gate more = head_steps + 1 + more + slot_steps (geometry p) * (gate - f)

-- superblock, header and gate are read, and so many slots
pub record HasSlots (kept : Option Kept) (cmd : Cmd) (me : List ℕ) (lines : ℕ) (p : Params) (gate : ℕ) (entries : List Entry) (survey : Survey) (words : List ℕ) (i : ℕ) : Type 0 where
  pub gated : HasGate cmd me lines p gate words
  pub known : SlotsKnown cmd p gate (used kept cmd p gate) entries survey words i
  pub behind : length (used kept cmd p gate) ≤ i
  pub long : words_to p (length (used kept cmd p gate)) i ≤ length words

-- of a task
abbrev pub TaskSlots : Task → List ℕ → ℕ → Type 0
TaskSlots t words i = HasSlots t.kept t.cmd t.me t.lines t.params t.gate t.entries t.survey words i

-- the entry whose file is read
pub record IsChosen (cmd : Cmd) (path : List ℕ) (entries : List Entry) (entry : Option Entry) (e : Entry) : Type 0 where
  pub is : entry ≡ Some e
  pub found : find (λ x. path_eq x.path path) entries ≡ Some e
  pub file : e.kind ≡ kind.File
  pub fits : fits_content cmd e.size ≡ true
  pub some : 0 < wanted_lines cmd e.size

-- the first j lines of the file have the content's bytes
abbrev pub IsSame : Content → Entry → List ℕ → ℕ → Type 0
IsSame against e loaded j = (o : ℕ) → o < line_bytes * j → o < e.size → (byte_in loaded o == content_byte against o) ≡ true

-- what is known of the file when its line j is read
abbrev pub FileKnown : Cmd → Params → ℕ → ℕ → List Entry → Option Entry → List ℕ → ℕ → Type 0
FileKnown (Verify path against) p f gate entries entry words j =
    (e : Entry) × IsChosen (Verify path against) path entries entry e × IsSame against e (drop (words_to p f gate) words) j × (words_to p f gate + line_words * j ≤ length words)
FileKnown (Read path offset count) p f gate entries entry words j = (e : Entry) × IsChosen (Read path offset count) path entries entry e
FileKnown Logplay p f gate entries entry words j = ⊥
FileKnown Mount p f gate entries entry words j = ⊥
FileKnown (Mkdir path attr) p f gate entries entry words j = ⊥
FileKnown (Creat path size attr stripe fill) p f gate entries entry words j = ⊥
FileKnown (Cp path attr stripe bytes) p f gate entries entry words j = ⊥
FileKnown (Check listing) p f gate entries entry words j = ⊥
FileKnown Fsck p f gate entries entry words j = ⊥

-- an entry is appended
pub record IsAppending (t : Task) (words : List ℕ) : Type 0 where
  pub e : Entry
  pub slots : TaskSlots t words t.gate
  pub decided : decide t.params t.me t.entries t.cmd ≡ Some (Ok e)
  pub entry_is : t.entry ≡ Some e
  pub spelled : t.words ≡ spelling (geometry t.params) e t.gate

-- The parts that are read.

-- how many words are loaded before a part
abbrev pub part_words : Task → Part → ℕ
part_words t Superblock = 1
part_words t Header = 1 + 2 * line_words
part_words t (Slot i) = words_to t.params (first_in t) i
part_words t File = words_to t.params (first_in t) t.gate

-- and how many operations are made
abbrev pub part_made : Task → Part → ℕ
part_made t Superblock = word_steps
part_made t Header = superblock_steps
part_made t (Slot i) = steps_to t.params (first_in t) i
part_made t File = decided_and t.params (first_in t) t.gate 0

-- how many words of a part a command has done with before line j
abbrev pub done_with : Part → Cmd → ℕ → ℕ
done_with File (Verify path against) j = line_words * j
done_with File Logplay j = 0
done_with File Mount j = 0
done_with File (Mkdir path attr) j = 0
done_with File (Creat path size attr stripe fill) j = 0
done_with File (Cp path attr stripe bytes) j = 0
done_with File (Read path offset count) j = 0
done_with File (Check listing) j = 0
done_with File Fsck j = 0
done_with Superblock cmd j = 0
done_with Header cmd j = 0
done_with (Slot i) cmd j = 0

-- what is known when line j of a part is read
abbrev pub PartKnown : Part → Task → List ℕ → ℕ → Type 0
PartKnown Superblock t words j = (magic_fault (slice_index words 0) ≡ None) × (1 ≤ length words) × IsFresh t.kept t.entries t.survey
PartKnown Header t words j = HasSuper t.cmd t.me t.lines t.params words × IsFresh t.kept t.entries t.survey
PartKnown (Slot i) t words j = TaskSlots t words i × (i < slots_read t)
PartKnown File t words j = TaskSlots t words t.gate × FileKnown t.cmd t.params (first_in t) t.gate t.entries t.entry words j

-- k words of line j of a part are loaded, and so many operations of the line are made
pub record InPart (part : Part) (t : Task) (words : List ℕ) (j k ops made : ℕ) : Type 0 where
  pub known : PartKnown part t words j
  pub within : j < part_count t part
  pub long : length words ≡ part_words t part + (line_words * j + k)
  pub held : t.words ≡ drop (part_words t part + done_with part t.cmd j) words
  pub made_is : made ≡ part_made t part + (line_steps * j + ops)

-- The places.

-- the lines of the new file
abbrev pub new_lines : Task → ℕ
new_lines t = lines_of (size_of t.entry)

-- what ties a task at a place to the words and the number of operations
abbrev pub TieAt : Phase → Task → List ℕ → ℕ → Type 0
TieAt at.DropMagic t words made = (words ≡ []) × (made ≡ 0) × IsFresh t.kept t.entries t.survey
TieAt at.Magic t words made = (words ≡ []) × (made ≡ 1) × IsFresh t.kept t.entries t.survey
TieAt (at.Drop part j) t words made = InPart part t words j 0 0 made
TieAt (at.Word part j k) t words made = InPart part t words j k (1 + k) made × (k < line_words)
TieAt at.DropGate t words made = HasHeader t.cmd t.me t.lines t.params words × (length words ≡ 1 + 3 * line_words) × (made ≡ log_header_steps) × IsFresh t.kept t.entries t.survey × (t.words ≡ [])
TieAt at.Gate t words made = HasHeader t.cmd t.me t.lines t.params words × (length words ≡ 1 + 3 * line_words) × (made ≡ log_header_steps + 1) × IsFresh t.kept t.entries t.survey × (t.words ≡ [])
TieAt (at.Check i) t words made =
    TaskSlots t words i × (i < slots_read t) × (length words ≡ words_to t.params (first_in t) i + (geometry t.params).words)
    × (t.words ≡ drop (words_to t.params (first_in t) i) words)
    × (made ≡ steps_to t.params (first_in t) i + line_steps * (geometry t.params).lines)
TieAt at.Decide t words made =
    TaskSlots t words (slots_read t) × (length words ≡ words_to t.params (first_in t) (slots_read t)) × (made ≡ steps_to t.params (first_in t) (slots_read t))
TieAt (at.StoreData j k) t words made = IsAppending t words × (j < new_lines t) × (k < line_words) × (made ≡ decided_and t.params (first_in t) t.gate 0 + (line_steps * j + k))
TieAt (at.SendData j) t words made = IsAppending t words × (j < new_lines t) × (made ≡ decided_and t.params (first_in t) t.gate 0 + (line_steps * j + line_words))
TieAt (at.StoreSlot j k) t words made = IsAppending t words × (j < (geometry t.params).lines) × (k < line_words)
    × (made ≡ decided_and t.params (first_in t) t.gate 0 + line_steps * new_lines t + (line_steps * j + k))
TieAt (at.SendSlot j) t words made = IsAppending t words × (j < (geometry t.params).lines)
    × (made ≡ decided_and t.params (first_in t) t.gate 0 + line_steps * new_lines t + (line_steps * j + line_words))
TieAt at.FenceSlot t words made = IsAppending t words × (made ≡ decided_and t.params (first_in t) t.gate (line_steps * (geometry t.params).lines) + line_steps * new_lines t)
TieAt at.StoreGate t words made = IsAppending t words × (made ≡ decided_and t.params (first_in t) t.gate (line_steps * (geometry t.params).lines + 1) + line_steps * new_lines t)
TieAt at.SendGate t words made = IsAppending t words × (made ≡ decided_and t.params (first_in t) t.gate (line_steps * (geometry t.params).lines + 2) + line_steps * new_lines t)
TieAt at.FenceGate t words made = IsAppending t words × (made ≡ decided_and t.params (first_in t) t.gate (line_steps * (geometry t.params).lines + 3) + line_steps * new_lines t)

-- A task that stands for a command.

-- so of a task of this command
pub record Tied (cmd : Cmd) (me : List ℕ) (lines : ℕ) (kept : Option Kept) (t : Task) (words : List ℕ) (made : ℕ) : Type 0 where
  pub cmd_is : t.cmd ≡ cmd
  pub me_is : t.me ≡ me
  pub lines_is : t.lines ≡ lines
  pub kept_is : t.kept ≡ kept
  pub tie : TieAt t.phase t words made

-- so does the task of a turn, where it goes on; where it ends, the operations are as many as the answer says
abbrev pub TurnTied : Cmd → List ℕ → ℕ → Option Kept → Turn → List ℕ → ℕ → Type 0
TurnTied cmd me lines kept (Goes t) words made = Tied cmd me lines kept t words made
TurnTied cmd me lines kept (Marks t) words made = Tied cmd me lines kept t words made
TurnTied cmd me lines kept (Finds n t) words made = Tied cmd me lines kept t words made
TurnTied cmd me lines kept (Writes seq e t) words made = Tied cmd me lines kept t words made
TurnTied cmd me lines kept (Ends reply) words made = made ≡ steps_of kept cmd lines words reply

-- The notes of the table.

-- with the last load of line j of a part
abbrev pub line_end : Part → Task → List ℕ → ℕ → RowNote
line_end Superblock t words j = if nat_lt (j + 1) 2 then Quiet else super_note t.cmd t.me words t.lines (fed_super words t.lines)
line_end Header t words j = header_note t.cmd words t.lines (log_fault (fed_head words log_line) t.params)
line_end (Slot i) t words j = Quiet
line_end File t words j = line_note t.cmd words t.params (first_in t) t.entries (wanted_lines t.cmd (size_of t.entry)) j

-- at a place, after these words
abbrev pub note_at : Phase → Task → List ℕ → RowNote
note_at at.Magic t words = magic_note t.cmd words t.lines (magic_fault (slice_index words 0))
note_at (at.Word part j k) t words = if nat_lt k last_word then Quiet else line_end part t words j
note_at at.DropGate t words = Mark
note_at at.Gate t words = gate_note t.cmd words t.lines (gate_fault (fed_gate words) t.params)
note_at (at.Check i) t words = slot_note t.cmd words t.params (used_in t) i
note_at at.Decide t words = decision_note t.cmd t.me words t.lines t.params (first_in t) (entries_read (fed_slots words t.params (used_in t) (fed_gate words)))
note_at at.FenceGate t words = Answer (Appended t.gate)
note_at other t words = Quiet
