-- The text of a journal. docs/MANUAL.md.
use Rattle.std.specs.Prelude.{ℕ, ◌/◌, ◌%◌, Bool, true, false, ◌==◌, ◌&&◌, if◌then◌else◌, List, [], ◌∷◌, ◌++◌, codes, length, slice_index_or, Option, Some, None}
use Rattle.std.specs.Fmt.{decimal}
use Rattle.std.specs.List.{flat_map}
use Rattle.uuid.specs.Text.{lower, hyphenated_text}
use Rattle.fam_base.specs.declared.cmd.Attr.{Attr}
use Rattle.fam_base.specs.declared.cmd.Cmd.{Cmd}
use Rattle.fam_base.specs.declared.cmd.Cmd.TheVariants.{Logplay, Mount, Mkdir, Creat, Cp, Verify, Read, Check, Fsck}
use Rattle.fam_base.specs.declared.cmd.Content.{Content}
use Rattle.fam_base.specs.declared.cmd.Content.TheVariants as content
use Rattle.fam_base.specs.declared.cmd.Stripe.{Stripe}
use Rattle.fam_base.specs.declared.entry.Kind.{Kind}
use Rattle.fam_base.specs.declared.entry.Kind.TheVariants.{File, Directory}
use Rattle.fam_base.specs.declared.entry.Params.{Params}
use Rattle.fam_base.specs.Escapes.{escaped, hex_digit}
use Rattle.fam_format.specs.declared.faults.SuperField.{SuperField}
use Rattle.fam_format.specs.declared.faults.SuperField.TheVariants as super
use Rattle.fam_format.specs.declared.faults.LogField.{LogField}
use Rattle.fam_format.specs.declared.faults.LogField.TheVariants as field
use Rattle.fam_format.specs.declared.faults.SuperFault.{SuperFault}
use Rattle.fam_format.specs.declared.faults.SuperFault.TheVariants.{NoSuper, BadSuper}
use Rattle.fam_format.specs.declared.faults.LogFault.{LogFault}
use Rattle.fam_format.specs.declared.faults.LogFault.TheVariants.{BadLog}
use Rattle.fam_format.specs.declared.faults.Reason.{Reason}
use Rattle.fam_format.specs.declared.faults.Reason.TheVariants as reason
use Rattle.fam_format.specs.Params.{first_number}
use Rattle.fam_rules.specs.declared.answers.Refused.{Refused as Cause}
use Rattle.fam_rules.specs.declared.answers.Refused.TheVariants as cause
use Rattle.fam_rules.specs.declared.answers.Checked.{Checked}
use Rattle.fam_rules.specs.declared.answers.Report.{Report}
use Rattle.fam_rules.specs.declared.answers.SuperState.{SuperState}
use Rattle.fam_rules.specs.declared.answers.SuperState.TheVariants as superblock
use Rattle.fam_rules.specs.declared.answers.LogState.{LogState}
use Rattle.fam_rules.specs.declared.answers.LogState.TheVariants as log
use Rattle.fam_rules.specs.Reply as reply
use Rattle.fam_rules.specs.Reply.{Reply}
use Rattle.fam_tree.specs.Lines.{entry_line, listing, mode_text}
use Rattle.fam_journal.specs.declared.refusal.Refusal.{Refusal}
use Rattle.fam_journal.specs.declared.refusal.Refusal.TheVariants as why
use Rattle.fam_journal.specs.Notes.{Answer, Replied, MediaFault, Note, Host, Made, Cut, Start, Mark, Found, Writes, Answered, Stop, Halt, Umount, Refused}
use Rattle.fam_journal.specs.NoteClasses.{NoteClass, note_class, Declared, Formatted, Going, Answering, Refusing}

-- a text as a line
abbrev pub line : List ℕ → List ℕ
line text = text ++ 10 ∷ []

-- a space, and a number in decimal
abbrev pub number : ℕ → List ℕ
number n = codes " " ++ decimal n

-- a space, and a UUID: hyphenated, in lower case
abbrev pub uuid_text : List ℕ → List ℕ
uuid_text uuid = codes " " ++ hyphenated_text lower uuid

-- a space, and a path or a file's name
abbrev pub name_text : List ℕ → List ℕ
name_text bytes = codes " " ++ escaped bytes

-- a byte has two digits
abbrev pub byte_text : ℕ → List ℕ
byte_text byte = hex_digit (byte / 16) ∷ hex_digit (byte % 16) ∷ []

-- no bytes are `-`
abbrev pub bytes_text : List ℕ → List ℕ
bytes_text [] = codes "-"
bytes_text (byte ∷ bytes) = flat_map byte_text (byte ∷ bytes)

-- Faults.

-- the word of a superblock's field
abbrev pub super_field_text : SuperField → List ℕ
super_field_text super.Crc = codes "crc"
super_field_text super.Version = codes "version"
super_field_text super.Offset = codes "offset"
super_field_text super.Unit = codes "unit"
super_field_text super.Length = codes "length"
super_field_text super.Device = codes "device"
super_field_text super.Small = codes "small"
super_field_text super.Rest = codes "rest"

-- the word of a field of the log's header, or of the gate
abbrev pub log_field_text : LogField → List ℕ
log_field_text field.Magic = codes "magic"
log_field_text field.Crc = codes "crc"
log_field_text field.Length = codes "length"
log_field_text field.Slots = codes "slots"
log_field_text field.Uuid = codes "uuid"
log_field_text field.Rest = codes "rest"
log_field_text field.Gate = codes "gate"

-- why there is no sound superblock: `no superblock` and the word there, or the field with what was found and wanted
abbrev pub super_text : SuperFault → List ℕ
super_text (NoSuper word) = codes "no superblock" ++ number word
super_text (BadSuper f found wanted) = codes "bad superblock " ++ super_field_text f ++ number found ++ number wanted

-- why there is no sound log: the field with what was found and wanted
abbrev pub log_text : LogFault → List ℕ
log_text (BadLog f found wanted) = codes "bad log " ++ log_field_text f ++ number found ++ number wanted

-- the word of an entry's kind
abbrev pub kind_text : Kind → List ℕ
kind_text File = codes "file"
kind_text Directory = codes "directory"

-- why a slot holds no entry that joins
abbrev pub reason_text : Reason → List ℕ
reason_text (reason.Crc found wanted) = codes "crc" ++ number found ++ number wanted
reason_text (reason.Seq found wanted) = codes "sequence" ++ number found ++ number wanted
reason_text (reason.BadKind word) = codes "kind" ++ number word
reason_text (reason.Attribute index) = codes "attribute" ++ number index
reason_text reason.BadPath = codes "path"
reason_text reason.Map = codes "map"
reason_text (reason.Rest index) = codes "rest" ++ number index
reason_text (reason.Exists kind) = codes "exists " ++ kind_text kind
reason_text reason.NoParent = codes "no parent"
reason_text reason.ParentIsFile = codes "parent is a file"
reason_text (reason.Overlap unit) = codes "overlap" ++ number unit

-- `bad entry`, its number, and why
abbrev pub slot_text : ℕ → Reason → List ℕ
slot_text seq r = codes "bad entry " ++ (decimal seq ++ (codes " " ++ reason_text r))

-- Commands.

-- mode, user and group, each behind its word
abbrev pub attr_text : Attr → List ℕ
attr_text attr = codes " mode=" ++ mode_text attr.mode ++ codes " uid=" ++ decimal attr.uid ++ codes " gid=" ++ decimal attr.gid

-- how a file is striped: nothing where it isn't
abbrev pub stripe_text : Option Stripe → List ℕ
stripe_text None = []
stripe_text (Some s) = codes " stripe=" ++ decimal s.nstrips ++ codes "," ++ decimal s.nbuckets ++ codes "," ++ decimal s.chunk

-- the seed of a file's bytes: nothing where they are zeros or given
abbrev pub seed_text : Content → List ℕ
seed_text content.Zero = []
seed_text (content.Seed seed) = codes " seed=" ++ decimal seed
seed_text (content.Bytes bytes) = []

-- what bytes are compared with: nothing for zeros, a seed, or how many are given
abbrev pub against_text : Content → List ℕ
against_text content.Zero = []
against_text (content.Seed seed) = codes " seed=" ++ decimal seed
against_text (content.Bytes bytes) = codes " bytes=" ++ decimal (length bytes)

-- a command as it starts
abbrev pub cmd_text : Cmd → List ℕ
cmd_text Logplay = codes "logplay"
cmd_text Mount = codes "mount"
cmd_text Fsck = codes "fsck"
cmd_text (Mkdir path attr) = codes "mkdir" ++ name_text path ++ attr_text attr
cmd_text (Creat path size attr stripe fill) = codes "creat" ++ name_text path ++ number size ++ attr_text attr ++ seed_text fill ++ stripe_text stripe
cmd_text (Cp path attr stripe bytes) = codes "cp" ++ name_text path ++ number (length bytes) ++ attr_text attr ++ stripe_text stripe
cmd_text (Verify path against) = codes "verify" ++ name_text path ++ against_text against
cmd_text (Read path offset count) = codes "read" ++ name_text path ++ number offset ++ number count
cmd_text (Check entries) = codes "check" ++ number (length entries)

-- Answers.

-- a path behind a space, or `-`
abbrev pub path_or_none : Option (List ℕ) → List ℕ
path_or_none None = codes " -"
path_or_none (Some path) = name_text path

-- how a tree of m entries differs from a listing
abbrev pub checked_text : ℕ → Checked → List ℕ
checked_text m c =
    codes "checked" ++ number m ++ codes " missing" ++ number c.missing ++ codes " extra" ++ number c.extra ++ codes " changed" ++ number c.changed ++ codes " first" ++ path_or_none c.first

-- what a report says of the superblock
abbrev pub super_state_text : SuperState → List ℕ
super_state_text superblock.Sound = codes "superblock sound"
super_state_text (superblock.NoSuper word) = super_text (NoSuper word)
super_state_text (superblock.BadSuper f found wanted) = super_text (BadSuper f found wanted)

-- what a report says of the log
abbrev pub log_state_text : LogState → List ℕ
log_state_text (log.Sound entries slots) = codes "log sound" ++ number entries ++ codes " of" ++ number slots
log_state_text (log.BadLog f found wanted) = log_text (BadLog f found wanted)
log_state_text log.Unread = codes "log unread"

-- what a report says of two entries that overlap
abbrev pub overlap_text : Option (ℕ × ℕ) → List ℕ
overlap_text None = codes "overlap none"
overlap_text (Some pair) = codes "overlap" ++ number pair.0 ++ number pair.1

-- what a report says of the first bad entry
abbrev pub bad_text : Option (ℕ × Reason) → List ℕ
bad_text None = codes "bad entry none"
bad_text (Some bad) = slot_text bad.0 bad.1

-- the superblock is sound
abbrev pub is_sound_super : SuperState → Bool
is_sound_super superblock.Sound = true
is_sound_super (superblock.NoSuper word) = false
is_sound_super (superblock.BadSuper f found wanted) = false

-- the log's header and gate are sound
abbrev pub is_sound_log : LogState → Bool
is_sound_log (log.Sound entries slots) = true
is_sound_log (log.BadLog f found wanted) = false
is_sound_log log.Unread = false

-- there is nothing of it
abbrev pub is_none : {A : Type 0} → Option A → Bool
is_none None = true
is_none (Some x) = false

-- superblock and log are sound, and nothing is bad or overlaps
abbrev pub is_sound_report : Report → Bool
is_sound_report r = is_sound_super r.superblock && is_sound_log r.log && is_none r.overlap && is_none r.bad

-- the eight lines of a report
abbrev pub report_text : Report → List ℕ
report_text r =
    line (if is_sound_report r then codes "fsck sound" else codes "fsck damaged") ++ line (super_state_text r.superblock) ++ line (log_state_text r.log) ++ line (codes "files" ++ number r.files ++ codes " directories" ++ number r.directories) ++ line (codes "units used" ++ number r.used ++ codes " free" ++ number r.free) ++ line (overlap_text r.overlap) ++ line (bad_text r.bad) ++ line (codes "past gate" ++ number r.past)

-- why an append is refused
abbrev pub cause_text : Cause → List ℕ
cause_text (cause.NotMaster me master) = codes "not master" ++ uuid_text me ++ uuid_text master
cause_text (cause.LongPath limit) = codes "path too long" ++ number limit
cause_text cause.BadStripe = codes "bad stripe"
cause_text (cause.Exists kind) = codes "exists " ++ kind_text kind
cause_text cause.NoParent = codes "no parent"
cause_text cause.ParentIsFile = codes "parent is a file"
cause_text (cause.LogFull slots) = codes "log full" ++ number slots
cause_text (cause.NoSpace units) = codes "no space" ++ number units

-- the lines of a reply
abbrev pub reply_text : Reply → List ℕ
reply_text (reply.Appended seq) = line (codes "ok" ++ number seq)
reply_text (reply.NotAppended why) = line (cause_text why)
reply_text (reply.Played m tree) = line (codes "played" ++ number m) ++ listing tree
reply_text (reply.Mounted m) = line (codes "mounted" ++ number m)
reply_text (reply.Same m) = line (codes "same" ++ number m)
reply_text (reply.Differs m offset found wanted) = line (codes "differs" ++ number m ++ number offset ++ codes " " ++ byte_text found ++ codes " " ++ byte_text wanted)
reply_text (reply.Length m size wanted) = line (codes "length differs" ++ number m ++ number size ++ number wanted)
reply_text (reply.Bytes m bytes) = line (codes "bytes" ++ number m ++ codes " " ++ bytes_text bytes)
reply_text (reply.NotFound m) = line (codes "not found" ++ number m)
reply_text (reply.IsDirectory m) = line (codes "is a directory" ++ number m)
reply_text (reply.Checks m checked) = line (checked_text m checked)
reply_text (reply.Reports report) = report_text report
reply_text (reply.NoSuperblock fault) = line (super_text fault)
reply_text (reply.BadHeader fault) = line (log_text fault)
reply_text (reply.BadSlot seq r) = line (slot_text seq r)

-- the media failed at this line
abbrev pub fault_text : ℕ → List ℕ
fault_text at = codes "media fault" ++ number at

-- the lines of an answer: its reply's, or that the media failed
abbrev pub answer_text : Answer → List ℕ
answer_text (Replied given) = reply_text given
answer_text (MediaFault at) = line (fault_text at)

-- Notes. `names` are those of the hosts declared so far.

-- the name of host h
abbrev pub host_name : List (List ℕ) → ℕ → List ℕ
host_name names h = slice_index_or names h []

-- why a call is refused
abbrev pub refusal_text : List (List ℕ) → Refusal → List ℕ
refusal_text names why.NoHost = codes "no host"
refusal_text names (why.SameHost host) = codes "same host " ++ host_name names host.0
refusal_text names why.TooManyHosts = codes "too many hosts"
refusal_text names (why.BadGeometry unit log) = codes "bad geometry" ++ number unit ++ number log
refusal_text names (why.TooSmall need have) = codes "too small" ++ number need ++ number have
refusal_text names (why.ImageSmall lines) = codes "image too small" ++ number lines
refusal_text names (why.Busy host) = codes "busy " ++ host_name names host.0
refusal_text names (why.Dirty host) = codes "dirty " ++ host_name names host.0
refusal_text names (why.HasSuper uuid) = codes "has superblock" ++ uuid_text uuid
refusal_text names why.Idle = codes "idle"
refusal_text names why.Mounted = codes "mounted"
refusal_text names why.NotMounted = codes "not mounted"
refusal_text names (why.NoLine at lines) = codes "no line" ++ number at ++ number lines
refusal_text names (why.NoFile name) = codes "no file" ++ name_text name
refusal_text names (why.CopyLimit sum) = codes "copy limit" ++ number sum
refusal_text names (why.BadListing at) = codes "bad listing" ++ number at
refusal_text names (why.MediaFault at) = fault_text at.0

-- the sizes of a file system: the bytes of a unit, of the log and of the device
abbrev pub sizes_text : ℕ → ℕ → ℕ → List ℕ
sizes_text unit log device = codes " unit " ++ (decimal unit ++ (codes " log " ++ (decimal log ++ (codes " device " ++ decimal device))))

-- the number of a format: nothing where it is the first
abbrev pub format_text : ℕ → List ℕ
format_text format = if format == first_number then [] else codes " format" ++ number format

-- a file system that was made: its UUID, its sizes, and its format where that isn't the first
abbrev pub made_text : Params → List ℕ
made_text p = codes "made" ++ uuid_text p.fs ++ sizes_text p.unit p.log_length p.device ++ format_text p.format

-- the text of a note without its host's name, with its line feeds
abbrev pub note_text : List (List ℕ) → Note → List ℕ
note_text names (Host name uuid) = line (codes "host" ++ uuid_text uuid)
note_text names (Made host p) = line (made_text p)
note_text names (Cut host k) = line (codes "mkfs halted" ++ number k)
note_text names (Start host cmd) = line (codes "start " ++ cmd_text cmd)
note_text names (Mark host) = line (codes "mark")
note_text names (Found host n) = line (codes "found" ++ number n)
note_text names (Writes host seq entry) = line (codes "writes" ++ number seq ++ codes " " ++ entry_line entry)
note_text names (Answered host answer) = answer_text answer
note_text names (Stop host) = line (codes "stop")
note_text names (Halt host) = line (codes "halt")
note_text names (Umount host) = line (codes "umount")
note_text names (Refused name cause) = line (codes "refused " ++ refusal_text names cause)

-- the name of a note's host; by the class of the note
abbrev pub name_of_note_in : List (List ℕ) → NoteClass → List ℕ
name_of_note_in names (Declared name uuid) = name
name_of_note_in names (Formatted host p) = host_name names host
name_of_note_in names (Going host) = host_name names host
name_of_note_in names (Answering host answer) = host_name names host
name_of_note_in names (Refusing name cause) = name

-- so of a note, by its class
abbrev pub name_of_note : List (List ℕ) → Note → List ℕ
name_of_note names note = name_of_note_in names (note_class note)

-- the names after a note; by the class of the note
abbrev pub names_after_in : List (List ℕ) → NoteClass → List (List ℕ)
names_after_in names (Declared name uuid) = names ++ name ∷ []
names_after_in names (Formatted host p) = names
names_after_in names (Going host) = names
names_after_in names (Answering host answer) = names
names_after_in names (Refusing name cause) = names

-- so of a note, by its class
abbrev pub names_after : List (List ℕ) → Note → List (List ℕ)
names_after names note = names_after_in names (note_class note)

-- the names after some notes
abbrev pub names_behind : List (List ℕ) → List Note → List (List ℕ)
names_behind names [] = names
names_behind names (note ∷ notes) = names_behind (names_after names note) notes

-- one note: NAME TEXT, a line feed and its further lines
abbrev pub note_line : List (List ℕ) → Note → List ℕ
note_line names note = name_of_note names note ++ codes " " ++ note_text names note

-- notes behind those that declared these names
abbrev pub render_behind : List (List ℕ) → List Note → List ℕ
render_behind names [] = []
render_behind names (note ∷ notes) = note_line names note ++ render_behind (names_after names note) notes

-- the text of a journal
unfoldable pub render : List Note → List ℕ
render journal = render_behind [] journal

-- what a command on its own shows: the text of the last note
abbrev pub shown_last : List (List ℕ) → List Note → List ℕ
shown_last names [] = []
shown_last names (note ∷ []) = note_text names note
shown_last names (note ∷ next ∷ notes) = shown_last (names_after names note) (next ∷ notes)

-- what a command on its own shows of a whole journal
unfoldable pub shown : List Note → List ℕ
shown journal = shown_last [] journal
