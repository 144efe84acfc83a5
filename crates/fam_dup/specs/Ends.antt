-- How a copy ends, and what each end leaves of TO.
use Rattle.std.specs.Prelude.{ℕ, ◌≡◌, ◌⊎◌, ◌+◌, ◌*◌, ◌<◌, ◌≤◌, ⊤, Bool, false, IsTrue, List, length, slice_get, Option, Some, Result, Ok, Err}
use Rattle.fam_base.specs.declared.entry.Params.{Params}
use Rattle.fam_base.specs.declared.entry.Entry.{Entry}
use Rattle.fam_base.specs.Image.{Image, line_at}
use Rattle.fam_format.specs.declared.faults.SuperFault.TheVariants as super
use Rattle.fam_format.specs.Layout.{least_lines, slots_of}
use Rattle.fam_format.specs.Params.{is_format, is_log_length, is_unit, need}
use Rattle.fam_format.specs.Reading.{Reading, NoSuperblock, Sound, reading, super_in}
use Rattle.fam_media.specs.Causes.{Rose}
use Rattle.fam_media.specs.Outside.{IfModelled}
use Rattle.fam_media.specs.Plans.{one_more}
use Rattle.fam_replay.specs.Sources.{IsOfLog}
use Rattle.fam_replay.specs.declared.fault.ReadFault.{ReadFault}
use Rattle.fam_replay.specs.declared.fault.ReadFault.TheVariants as read
use Rattle.fam_rules.specs.Place.{line_bytes}
use Rattle.fam_rules.specs.Written.{Put, file_line, put_lines}
use Rattle.fam_dup.specs.Copies.{AreCopies}
use Rattle.fam_dup.specs.Findings.{Copies, FailsFrom, FailsTo, FaultClass, FaultInLog, FaultInSlot, FaultInSuper, Finding, FullTo, SmallFrom, SmallTo, Stops, Names, Refuses, WantsMemory, fault_class, finding}
use Rattle.fam_dup.specs.Lines.{LinesPartlyPut, AreCutAt, IsOffCopy, bytes_in, copy_puts}
use Rattle.fam_dup.specs.declared.fault.DupFault.{DupFault}
use Rattle.fam_dup.specs.declared.fault.DupFault.TheVariants as fault
use Rattle.fam_dup.specs.declared.files.TheConstants.{RUN_LINES}

-- parameters that are asked for on a device of so many lines: a format, a unit, a log of such units, and the slots and the bytes
-- that follow from these
pub record AreAsked (p : Params) (lines : ℕ) : Type 0 where
  pub format : IsTrue (is_format p.format)
  pub unit : IsTrue (is_unit p.unit)
  pub log_length : IsTrue (is_log_length p.unit p.log_length)
  pub slots : p.slots ≡ slots_of p.format p.log_length
  pub device : p.device ≡ line_bytes * lines

-- TO reads as the copies, each file has the bytes of its entry, and lines that hold no part of the copy are as before
pub record IsCopied (from old new : Image) (p : Params) (entries copies : List Entry) : Type 0 where
  pub reads : reading new ≡ Sound p copies
  pub are : AreCopies entries copies
  pub bytes : (i : ℕ) (e c : Entry) → slice_get entries i ≡ Some e → slice_get copies i ≡ Some c
      → bytes_in (line_at new) c ≡ bytes_in (line_at from) e
  pub others : (l : ℕ) → IsOffCopy p copies l → line_at new l ≡ line_at old l

-- nothing was against the copy, and all of it was made
pub record IsMade (from old new : Image) (p : Params) (force : Bool) (count : ℕ) : Type 0 where
  pub entries : List Entry
  pub copies : List Entry
  pub found : finding from old p force ≡ Copies entries copies
  pub number : count ≡ length entries
  -- all its lines were put, in their order
  pub written : new ≡ put_lines (copy_puts (line_at from) p entries copies) old
  pub copied : IsCopied from old new p entries copies

-- what TO reads as where a media failed before the whole copy was made: what it read as before, or no superblock
abbrev pub IsOldOrNone : Reading → Reading → Type 0
IsOldOrNone old new = (new ≡ old) ⊎ (new ≡ NoSuperblock (super.NoSuper 0))

-- nothing was against the copy, and a part of it was made: some of its lines were put, in their order, and of the next one nothing
-- or some of its words. So lines that hold no part of it are as before
pub record IsBegun (from old new : Image) (p : Params) (force : Bool) : Type 0 where
  pub entries : List Entry
  pub copies : List Entry
  pub found : finding from old p force ≡ Copies entries copies
  pub written : LinesPartlyPut (copy_puts (line_at from) p entries copies) (Some old) (Some new)
  pub left : IsOldOrNone (reading old) (reading new) ⊎ IsCopied from old new p entries copies
  pub others : (l : ℕ) → IsOffCopy p copies l → line_at new l ≡ line_at old l

-- nothing was written, or a part of the copy
abbrev pub IsLeft : Image → Image → Image → Params → Bool → Type 0
IsLeft from old new p force = (new ≡ old) ⊎ IsBegun from old new p force

-- a media that failed may leave a part of the copy; every other fault changes nothing
abbrev pub ClassLeaves : Image → Image → Image → Params → Bool → FaultClass → Type 0
ClassLeaves from old new p force (Refuses found) = new ≡ old
ClassLeaves from old new p force FailsFrom = IsLeft from old new p force
ClassLeaves from old new p force FailsTo = IsLeft from old new p force
ClassLeaves from old new p force WantsMemory = new ≡ old

-- how a copy ends
abbrev pub DupEnds : Image → Image → Image → Params → Bool → Result ℕ DupFault → Type 0
DupEnds from old new p force (Ok count) = IsMade from old new p force count
DupEnds from old new p force (Err fault) =
    Names (fault_class fault) (finding from old p force) × ClassLeaves from old new p force (fault_class fault)

-- a media failed only where its count of faults rose
abbrev pub IsCausedBy : ℕ → ℕ → ℕ → ℕ → FaultClass → Type 0
IsCausedBy from from_now to to_now (Refuses found) = ⊤
IsCausedBy from from_now to to_now FailsFrom = Rose from from_now
IsCausedBy from from_now to to_now FailsTo = Rose to to_now
IsCausedBy from from_now to to_now WantsMemory = ⊤

-- the same of a fault
abbrev pub IsDupCaused : ℕ → ℕ → ℕ → ℕ → DupFault → Type 0
IsDupCaused from from_now to to_now fault = IsCausedBy from from_now to to_now (fault_class fault)

-- the line that a fault names is one of its image, where FROM and TO have so many lines
abbrev pub NamesLine : ℕ → ℕ → DupFault → Type 0
NamesLine from to (fault.ImageSmall lines) = ⊤
NamesLine from to (fault.NoSuper word) = ⊤
NamesLine from to (fault.BadSuper field found wanted) = ⊤
NamesLine from to (fault.BadLog field found wanted) = ⊤
NamesLine from to (fault.BadEntry seq reason) = ⊤
NamesLine from to (fault.TooSmall needed have) = ⊤
NamesLine from to (fault.HasSuper fs) = ⊤
NamesLine from to (fault.Stopped seq refusal) = ⊤
NamesLine from to (fault.FromFault line) = line.0 < from
NamesLine from to (fault.ToFault line) = line.0 < to
NamesLine from to fault.OutOfMemory = ⊤

-- the line at which FROM failed is one of these
abbrev pub FailsFromAt : (ℕ → Type 0) → DupFault → Type 0
FailsFromAt At (fault.ImageSmall lines) = ⊤
FailsFromAt At (fault.NoSuper word) = ⊤
FailsFromAt At (fault.BadSuper field found wanted) = ⊤
FailsFromAt At (fault.BadLog field found wanted) = ⊤
FailsFromAt At (fault.BadEntry seq reason) = ⊤
FailsFromAt At (fault.TooSmall needed have) = ⊤
FailsFromAt At (fault.HasSuper fs) = ⊤
FailsFromAt At (fault.Stopped seq refusal) = ⊤
FailsFromAt At (fault.FromFault line) = At line.0
FailsFromAt At (fault.ToFault line) = ⊤
FailsFromAt At fault.OutOfMemory = ⊤

-- the same of TO
abbrev pub FailsToAt : (ℕ → Type 0) → DupFault → Type 0
FailsToAt At (fault.ImageSmall lines) = ⊤
FailsToAt At (fault.NoSuper word) = ⊤
FailsToAt At (fault.BadSuper field found wanted) = ⊤
FailsToAt At (fault.BadLog field found wanted) = ⊤
FailsToAt At (fault.BadEntry seq reason) = ⊤
FailsToAt At (fault.TooSmall needed have) = ⊤
FailsToAt At (fault.HasSuper fs) = ⊤
FailsToAt At (fault.Stopped seq refusal) = ⊤
FailsToAt At (fault.FromFault line) = ⊤
FailsToAt At (fault.ToFault line) = At line.0
FailsToAt At fault.OutOfMemory = ⊤

-- a line that is read of FROM before anything is written: FROM has lines enough for a log, and it is one of the superblock, or of the
-- log behind one that reads
abbrev pub IsReadAt : Image → ℕ → Type 0
IsReadAt from at =
    (least_lines ≤ length from)
    × ((at < 3) ⊎ ((p : Params) × (super_in (line_at from) (line_bytes * length from) ≡ Ok p) × IsOfLog (line_at from) p at))

-- a line that is read of TO before anything is written: FROM was read whole by then, and is sound; TO has room for these parameters, and
-- isn't forced; and it is one of TO's lines 0 to 2
pub record IsReadTo (from to : Image) (p : Params) (force : Bool) (at : ℕ) : Type 0 where
  pub enough : least_lines ≤ length from
  pub params : Params
  pub entries : List Entry
  pub sound : reading from ≡ Sound params entries
  pub room : need p.log_length p.unit ≤ line_bytes * length to
  pub unforced : force ≡ false
  pub first : at < 3

-- the step of a copy at which a fault came: TO failed at the line that was to be put
abbrev pub IsToStep : DupFault → Put → Type 0
IsToStep (fault.ImageSmall lines) put = ⊥
IsToStep (fault.NoSuper word) put = ⊥
IsToStep (fault.BadSuper field found wanted) put = ⊥
IsToStep (fault.BadLog field found wanted) put = ⊥
IsToStep (fault.BadEntry seq reason) put = ⊥
IsToStep (fault.TooSmall needed have) put = ⊥
IsToStep (fault.HasSuper fs) put = ⊥
IsToStep (fault.Stopped seq refusal) put = ⊥
IsToStep (fault.FromFault line) put = ⊥
IsToStep (fault.ToFault line) put = put.0 ≡ line.0
IsToStep fault.OutOfMemory put = ⊥

-- or FROM failed at a line of an entry's file, of which the copy's next lines were to be put: this one, or one of
-- the few before it that one run may have
pub record IsLineAhead (e c : Entry) (line at : ℕ) : Type 0 where
  pub next : ℕ
  pub ahead : ℕ
  pub puts : at ≡ file_line c next
  pub reads : line ≡ file_line e (next + ahead)
  pub within : line_bytes * (next + ahead) < e.size
  pub few : ahead < RUN_LINES

-- the step of a copy of this entry's file
abbrev pub IsFileStep : Entry → Entry → DupFault → Put → Type 0
IsFileStep e c (fault.ImageSmall lines) put = ⊥
IsFileStep e c (fault.NoSuper word) put = ⊥
IsFileStep e c (fault.BadSuper field found wanted) put = ⊥
IsFileStep e c (fault.BadLog field found wanted) put = ⊥
IsFileStep e c (fault.BadEntry seq reason) put = ⊥
IsFileStep e c (fault.TooSmall needed have) put = ⊥
IsFileStep e c (fault.HasSuper fs) put = ⊥
IsFileStep e c (fault.Stopped seq refusal) put = ⊥
IsFileStep e c (fault.FromFault line) put = IsLineAhead e c line.0 put.0
IsFileStep e c (fault.ToFault line) put = put.0 ≡ line.0
IsFileStep e c fault.OutOfMemory put = ⊥

-- of one of these entries and its copy
pub record IsStep (entries copies : List Entry) (fault : DupFault) (put : Put) : Type 0 where
  pub step : IsToStep fault put ⊎ ((i : ℕ) × (e : Entry) × (c : Entry) × (slice_get entries i ≡ Some e) × (slice_get copies i ≡ Some c) × IsFileStep e c fault put)

-- a copy was cut at the step of a fault
pub record IsCutStep (from old : Image) (new : Option Image) (p : Params) (force : Bool) (fault : DupFault) : Type 0 where
  pub entries : List Entry
  pub copies : List Entry
  pub found : finding from old p force ≡ Copies entries copies
  pub cut : AreCutAt (IsStep entries copies fault) (copy_puts (line_at from) p entries copies) (Some old) new

-- the line at which a media failed is one that was asked for then: one that is read of FROM or of TO before anything is written, or that
-- of the step at which the copy was cut
abbrev pub IsAskedIn : Image → Image → Option Image → Params → Bool → DupFault → Type 0
IsAskedIn from old new p force (fault.ImageSmall lines) = ⊤
IsAskedIn from old new p force (fault.NoSuper word) = ⊤
IsAskedIn from old new p force (fault.BadSuper field found wanted) = ⊤
IsAskedIn from old new p force (fault.BadLog field found wanted) = ⊤
IsAskedIn from old new p force (fault.BadEntry seq reason) = ⊤
IsAskedIn from old new p force (fault.TooSmall needed have) = ⊤
IsAskedIn from old new p force (fault.HasSuper fs) = ⊤
IsAskedIn from old new p force (fault.Stopped seq refusal) = ⊤
IsAskedIn from old new p force (fault.FromFault line) =
    ((new ≡ Some old) × IsReadAt from line.0) ⊎ IsCutStep from old new p force (fault.FromFault line)
IsAskedIn from old new p force (fault.ToFault line) =
    ((new ≡ Some old) × IsReadTo from old p force line.0) ⊎ IsCutStep from old new p force (fault.ToFault line)
IsAskedIn from old new p force fault.OutOfMemory = ⊤

-- how often FROM has failed behind a fault, where it counts exactly: once more where the fault tells it, and not at all else
abbrev pub from_counted : FaultClass → ℕ → ℕ
from_counted (Refuses found) count = count
from_counted FailsFrom count = one_more count
from_counted FailsTo count = count
from_counted WantsMemory count = count

-- the same of TO
abbrev pub to_counted : FaultClass → ℕ → ℕ
to_counted (Refuses found) count = count
to_counted FailsFrom count = count
to_counted FailsTo count = one_more count
to_counted WantsMemory count = count

-- a fault of FROM's log
abbrev pub of_read : ReadFault → DupFault
of_read (read.NoSuper word) = fault.NoSuper word
of_read (read.BadSuper field found wanted) = fault.BadSuper field found wanted
of_read (read.BadLog field found wanted) = fault.BadLog field found wanted
of_read (read.BadEntry seq reason) = fault.BadEntry seq reason
of_read (read.MediaFault line) = fault.FromFault line
of_read read.OutOfMemory = fault.OutOfMemory

-- what FROM's lines alone can tell
abbrev pub IsInFrom : Finding → Type 0
IsInFrom (SmallFrom lines) = ⊥
IsInFrom (FaultInSuper fault) = ⊤
IsInFrom (FaultInLog fault) = ⊤
IsInFrom (FaultInSlot seq reason) = ⊤
IsInFrom (SmallTo needed have) = ⊥
IsInFrom (FullTo fs) = ⊥
IsInFrom (Stops seq refused) = ⊥
IsInFrom (Copies entries copies) = ⊥

-- a cause, of a fault behind which TO was not asked: it is told of FROM's lines, or FROM failed
abbrev pub IsCausedByFrom : ℕ → ℕ → FaultClass → Type 0
IsCausedByFrom before now (Refuses found) = IsInFrom found
IsCausedByFrom before now FailsFrom = Rose before now
IsCausedByFrom before now FailsTo = ⊥
IsCausedByFrom before now WantsMemory = ⊤

-- of one behind which FROM was not asked
abbrev pub IsCausedByTo : ℕ → ℕ → FaultClass → Type 0
IsCausedByTo before now (Refuses found) = ⊤
IsCausedByTo before now FailsFrom = ⊥
IsCausedByTo before now FailsTo = Rose before now
IsCausedByTo before now WantsMemory = ⊤

-- of a failed write, or of a failed read of FROM in front of one
abbrev pub IsFailure : ℕ → ℕ → ℕ → ℕ → FaultClass → Type 0
IsFailure from from_now to to_now (Refuses found) = ⊥
IsFailure from from_now to to_now FailsFrom = Rose from from_now
IsFailure from from_now to to_now FailsTo = Rose to to_now
IsFailure from from_now to to_now WantsMemory = ⊥

-- of a fault before which no media was asked
abbrev pub IsOwn : FaultClass → Type 0
IsOwn (Refuses found) = ⊤
IsOwn FailsFrom = ⊥
IsOwn FailsTo = ⊥
IsOwn WantsMemory = ⊤

-- where it is modelled, an image becomes another one
abbrev pub Becomes : Option Image → Option Image → (Image → Image → Type 0) → Type 0
Becomes old new P = IfModelled old (λ before. (after : Image) × (new ≡ Some after) × P before after)
