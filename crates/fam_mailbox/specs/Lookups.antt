-- The file of a mailbox: what stands at its path, whether that is a box, and what is put where it is none. docs/MANUAL.md,
-- "Mailboxes".
use Rattle.std.specs.Prelude.{ℕ, ⊤, ◌≡◌, ◌⊎◌, ◌<◌, ◌≤◌, ◌++◌, ◌*◌, List, codes, length, Some, None, Err}
use Rattle.std.specs.FinMap as map
use Rattle.fam_base.specs.Image.{Image, line_at}
use Rattle.fam_base.specs.declared.entry.Entry.{Entry}
use Rattle.fam_base.specs.declared.entry.Kind.TheVariants as kind
use Rattle.fam_base.specs.declared.entry.Params.{Params}
use Rattle.fam_format.specs.declared.faults.LogFault.TheVariants as log
use Rattle.fam_format.specs.declared.faults.SuperFault.TheVariants as super
use Rattle.fam_format.specs.Layout.{least_lines}
use Rattle.fam_format.specs.Params.{SoundParams}
use Rattle.fam_format.specs.Reading as read
use Rattle.fam_format.specs.Reading.{Reading, reading}
use Rattle.fam_format.specs.Slot.{Proper}
use Rattle.fam_format.specs.Tree.{replay}
use Rattle.fam_format.specs.Units.{units_in}
use Rattle.fam_journal.specs.declared.refusal.Refusal.TheVariants as why
use Rattle.fam_mail.specs.Boxes.{box_of, capacity_of}
use Rattle.fam_mail.specs.Checks.{IsReadLine}
use Rattle.fam_mail.specs.declared.check.BoxFault.{BoxFault}
use Rattle.fam_mail.specs.declared.check.BoxFault.TheVariants as check
use Rattle.fam_mail.specs.declared.check.WrongBox.{WrongBox}
use Rattle.fam_mail.specs.declared.check.WrongBox.TheVariants as wrong
use Rattle.fam_media.specs.Causes.{Rose}
use Rattle.fam_media.specs.Plans.{one_more}
use Rattle.fam_media.specs.States.{MediaChange}
use Rattle.fam_outcomes.specs.declared.status.Status.{Status}
use Rattle.fam_outcomes.specs.declared.status.Status.TheVariants as status
use Rattle.fam_outcomes.specs.Programs.{memory_line}
use Rattle.fam_outcomes.specs.Texts.{fault_text, line, log_text, number, slot_text, super_text}
use Rattle.fam_program.specs.Dups.{refused_line}
use Rattle.fam_replay.specs.Sources.{IsAskedFor}
use Rattle.fam_replay.specs.declared.fault.ReadFault.{ReadFault}
use Rattle.fam_replay.specs.declared.fault.ReadFault.TheVariants as log_read
use Rattle.fam_rules.specs.Place.{IsOnce, line_bytes}
use Rattle.fam_rules.specs.Written.{file_line}
use Rattle.fam_mailbox.specs.declared.fault.LookFault.{LookFault}
use Rattle.fam_mailbox.specs.declared.fault.LookFault.TheVariants as fault

-- Images.

-- an image is long enough for a log, and reads as these entries
pub record HasEntries (image : Image) (params : Params) (entries : List Entry) : Type 0 where
  pub enough : least_lines ≤ length image
  pub reads : reading image ≡ read.Sound params entries

-- the file at this path of an image: it is long enough for a log, reads as entries, and their tree has this one there
pub record HasFile (path : List ℕ) (image : Image) (entry : Entry) : Type 0 where
  pub params : Params
  pub entries : List Entry
  pub has : HasEntries image params entries
  pub there : map.get (replay entries) path ≡ Some entry
  pub file : entry.kind ≡ kind.File

-- it reads so as a whole, of which something is wrong
pub record ImageReadsAs (image : Image) (wrong : Reading) : Type 0 where
  pub enough : least_lines ≤ length image
  pub reads : reading image ≡ wrong

-- nothing stands at this path, behind so many entries
pub record HasNothing (path : List ℕ) (image : Image) (m : ℕ) : Type 0 where
  pub params : Params
  pub entries : List Entry
  pub has : HasEntries image params entries
  pub count : m ≡ length entries
  pub none : map.get (replay entries) path ≡ None

-- a directory does
pub record HasDirectory (path : List ℕ) (image : Image) (m : ℕ) : Type 0 where
  pub params : Params
  pub entries : List Entry
  pub has : HasEntries image params entries
  pub count : m ≡ length entries
  pub entry : Entry
  pub there : map.get (replay entries) path ≡ Some entry
  pub directory : entry.kind ≡ kind.Directory

-- the file there has so many bytes, too few for a gate and a record
pub record HasSmallFile (path : List ℕ) (image : Image) (size : ℕ) : Type 0 where
  pub entry : Entry
  pub file : HasFile path image entry
  pub size_is : size ≡ entry.size
  pub small : size < 128

-- the file there has room, and is no box
pub record HasWrongBox (path : List ℕ) (image : Image) (wrong : WrongBox) : Type 0 where
  pub entry : Entry
  pub file : HasFile path image entry
  pub room : 128 ≤ entry.size
  pub wrong_is : box_of (file_line entry) (capacity_of entry.size) (line_at image) ≡ Err wrong

-- a line of the box in the file at this path: the gate's, or that of a record below the gate behind records
pub record IsLookedBoxLine (path : List ℕ) (image : Image) (at : ℕ) : Type 0 where
  pub entry : Entry
  pub file : HasFile path image entry
  pub room : 128 ≤ entry.size
  pub line_is : IsReadLine (file_line entry) (capacity_of entry.size) (Some image) at

-- a line that is asked for: of the log, as a reading goes through it, of an image that is long enough for one; or of the box in the file
-- at the path
abbrev pub IsLookedAt : List ℕ → Image → ℕ → Type 0
IsLookedAt path image at =
    ((least_lines ≤ length image) × IsAskedFor (line_at image) (line_bytes * length image) at) ⊎ IsLookedBoxLine path image at

-- what is so of an image where a fault comes. One that tells of the image comes only where none stands before it; want of memory
-- may come anywhere, and a media fault at a line that is asked for
abbrev pub IsSo : List ℕ → Image → LookFault → Type 0
IsSo path image (fault.ImageSmall lines) = (lines ≡ length image) × (length image < least_lines)
IsSo path image (fault.NoSuper word) = ImageReadsAs image (read.NoSuperblock (super.NoSuper word))
IsSo path image (fault.BadSuper field found wanted) = ImageReadsAs image (read.NoSuperblock (super.BadSuper field found wanted))
IsSo path image (fault.BadLog field found wanted) = ImageReadsAs image (read.BadHeader (log.BadLog field found wanted))
IsSo path image (fault.BadEntry seq reason) = ImageReadsAs image (read.BadSlot seq reason)
IsSo path image (fault.NotFound m) = HasNothing path image m
IsSo path image (fault.IsDirectory m) = HasDirectory path image m
IsSo path image (fault.BoxSmall size) = HasSmallFile path image size
IsSo path image (fault.BadBox gate capacity) = HasWrongBox path image (wrong.BadBox gate capacity)
IsSo path image (fault.BadRecord i) = HasWrongBox path image (wrong.BadRecord i)
IsSo path image (fault.MediaFault at) = IsLookedAt path image at.0
IsSo path image fault.OutOfMemory = ⊤

-- the media failed only where its count of faults rose, at one of its lines
abbrev pub IsLookCaused : ℕ → MediaChange → LookFault → Type 0
IsLookCaused lines media (fault.ImageSmall n) = ⊤
IsLookCaused lines media (fault.NoSuper word) = ⊤
IsLookCaused lines media (fault.BadSuper field found wanted) = ⊤
IsLookCaused lines media (fault.BadLog field found wanted) = ⊤
IsLookCaused lines media (fault.BadEntry seq reason) = ⊤
IsLookCaused lines media (fault.NotFound m) = ⊤
IsLookCaused lines media (fault.IsDirectory m) = ⊤
IsLookCaused lines media (fault.BoxSmall size) = ⊤
IsLookCaused lines media (fault.BadBox gate capacity) = ⊤
IsLookCaused lines media (fault.BadRecord i) = ⊤
IsLookCaused lines media (fault.MediaFault at) = Rose media.old.faults media.new.faults × (at.0 < lines)
IsLookCaused lines media fault.OutOfMemory = ⊤

-- a media that counts exactly has counted one fault where a fault tells that it failed, and none where another one came
abbrev pub IsLookCounted : ℕ → ℕ → LookFault → Type 0
IsLookCounted before now (fault.ImageSmall n) = now ≡ before
IsLookCounted before now (fault.NoSuper word) = now ≡ before
IsLookCounted before now (fault.BadSuper field found wanted) = now ≡ before
IsLookCounted before now (fault.BadLog field found wanted) = now ≡ before
IsLookCounted before now (fault.BadEntry seq reason) = now ≡ before
IsLookCounted before now (fault.NotFound m) = now ≡ before
IsLookCounted before now (fault.IsDirectory m) = now ≡ before
IsLookCounted before now (fault.BoxSmall size) = now ≡ before
IsLookCounted before now (fault.BadBox gate capacity) = now ≡ before
IsLookCounted before now (fault.BadRecord i) = now ≡ before
IsLookCounted before now (fault.MediaFault at) = now ≡ one_more before
IsLookCounted before now fault.OutOfMemory = now ≡ before

-- Parts of the look.

-- an entry is proper, and no unit stands in it twice
pub record IsFilePlacedIn (p : Params) (entry : Entry) : Type 0 where
  pub sound : SoundParams p
  pub proper : Proper p entry
  pub once : IsOnce (units_in p.unit entry.extents)

-- on a device of so many lines
pub record IsFilePlaced (lines : ℕ) (entry : Entry) : Type 0 where
  pub params : Params
  pub placed : IsFilePlacedIn params entry
  pub device : params.device ≤ line_bytes * lines

-- no file stands at a path of entries: nothing, or a directory
abbrev pub IsNoFile : List Entry → List ℕ → LookFault → Type 0
IsNoFile entries path (fault.ImageSmall n) = ⊥
IsNoFile entries path (fault.NoSuper word) = ⊥
IsNoFile entries path (fault.BadSuper field found wanted) = ⊥
IsNoFile entries path (fault.BadLog field found wanted) = ⊥
IsNoFile entries path (fault.BadEntry seq reason) = ⊥
IsNoFile entries path (fault.NotFound m) = (m ≡ length entries) × (map.get (replay entries) path ≡ None)
IsNoFile entries path (fault.IsDirectory m) = (m ≡ length entries) × (entry : Entry) × (map.get (replay entries) path ≡ Some entry) × (entry.kind ≡ kind.Directory)
IsNoFile entries path (fault.BoxSmall size) = ⊥
IsNoFile entries path (fault.BadBox gate capacity) = ⊥
IsNoFile entries path (fault.BadRecord i) = ⊥
IsNoFile entries path (fault.MediaFault at) = ⊥
IsNoFile entries path fault.OutOfMemory = ⊥

-- a fault of the image's log
abbrev pub read_look : ReadFault → LookFault
read_look (log_read.NoSuper word) = fault.NoSuper word
read_look (log_read.BadSuper field found wanted) = fault.BadSuper field found wanted
read_look (log_read.BadLog field found wanted) = fault.BadLog field found wanted
read_look (log_read.BadEntry seq reason) = fault.BadEntry seq reason
read_look (log_read.MediaFault line) = fault.MediaFault line
read_look log_read.OutOfMemory = fault.OutOfMemory

-- the fault that a box is none for, or that the media failed
abbrev pub box_look : BoxFault → LookFault
box_look (check.Wrong (wrong.BadBox gate capacity)) = fault.BadBox gate capacity
box_look (check.Wrong (wrong.BadRecord i)) = fault.BadRecord i
box_look (check.MediaFault line) = fault.MediaFault line

-- Texts and statuses.

-- of each fault its line: those of the path are a read's
abbrev pub look_text : LookFault → List ℕ
look_text (fault.ImageSmall lines) = refused_line (why.ImageSmall lines)
look_text (fault.NoSuper word) = line (super_text (super.NoSuper word))
look_text (fault.BadSuper field found wanted) = line (super_text (super.BadSuper field found wanted))
look_text (fault.BadLog field found wanted) = line (log_text (log.BadLog field found wanted))
look_text (fault.BadEntry seq reason) = line (slot_text seq reason)
look_text (fault.NotFound m) = line (codes "not found" ++ number m)
look_text (fault.IsDirectory m) = line (codes "is a directory" ++ number m)
look_text (fault.BoxSmall size) = line (codes "box too small" ++ number size)
look_text (fault.BadBox gate capacity) = line (codes "bad box" ++ number gate ++ number capacity)
look_text (fault.BadRecord i) = line (codes "bad record" ++ number i)
look_text (fault.MediaFault at) = line (fault_text at.0)
look_text fault.OutOfMemory = memory_line

-- and its status
abbrev pub look_status : LookFault → Status
look_status (fault.ImageSmall lines) = status.Damaged
look_status (fault.NoSuper word) = status.Damaged
look_status (fault.BadSuper field found wanted) = status.Damaged
look_status (fault.BadLog field found wanted) = status.Damaged
look_status (fault.BadEntry seq reason) = status.Damaged
look_status (fault.NotFound m) = status.Refused
look_status (fault.IsDirectory m) = status.Refused
look_status (fault.BoxSmall size) = status.Refused
look_status (fault.BadBox gate capacity) = status.Damaged
look_status (fault.BadRecord i) = status.Damaged
look_status (fault.MediaFault at) = status.MediaFault
look_status fault.OutOfMemory = status.OutOfMemory
