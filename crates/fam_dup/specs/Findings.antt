-- What is found before anything is written: the first cause against a copy, or the entries and their copies.
use Rattle.std.specs.Prelude.{ℕ, ◌≡◌, ◌*◌, ⊤, Bool, true, false, nat_lt, if◌then◌else◌, List, length, Option, Some, None, Result, Ok, Err}
use Rattle.fam_base.specs.declared.entry.Params.{Params}
use Rattle.fam_base.specs.declared.entry.Entry.{Entry}
use Rattle.fam_base.specs.Image.{Image, line_at}
use Rattle.fam_format.specs.declared.faults.SuperFault.{SuperFault}
use Rattle.fam_format.specs.declared.faults.SuperFault.TheVariants as super
use Rattle.fam_format.specs.declared.faults.LogFault.{LogFault}
use Rattle.fam_format.specs.declared.faults.LogFault.TheVariants as log
use Rattle.fam_format.specs.declared.faults.Reason.{Reason}
use Rattle.fam_format.specs.Layout.{least_lines}
use Rattle.fam_format.specs.Params.{need}
use Rattle.fam_format.specs.Reading as read
use Rattle.fam_format.specs.Reading.{Reading, reading, super_in}
use Rattle.fam_rules.specs.declared.answers.Refused.{Refused}
use Rattle.fam_rules.specs.declared.answers.Refused.TheVariants as refused
use Rattle.fam_rules.specs.Place.{line_bytes}
use Rattle.fam_dup.specs.Copies.{Copying, Copied, StoppedAt, copying}
use Rattle.fam_dup.specs.declared.fault.DupFault.{DupFault}
use Rattle.fam_dup.specs.declared.fault.DupFault.TheVariants as fault
use Rattle.fam_dup.specs.declared.fault.DupRefusal.{DupRefusal}
use Rattle.fam_dup.specs.declared.fault.DupRefusal.TheVariants as refusal

-- FROM has too few lines, or its first fault; TO has too few bytes, or a superblock that isn't to be written over; an
-- entry that has no copy; or all entries with their copies
pub data Finding : Type 0 where
  SmallFrom : (lines : ℕ) → Finding
  FaultInSuper : (fault : SuperFault) → Finding
  FaultInLog : (fault : LogFault) → Finding
  FaultInSlot : (seq : ℕ) (reason : Reason) → Finding
  SmallTo : (needed have : ℕ) → Finding
  FullTo : (fs : List ℕ) → Finding
  Stops : (seq : ℕ) (refused : Refused) → Finding
  Copies : (entries copies : List Entry) → Finding

-- what comes of copying these entries
abbrev pub copies_or : List Entry → Copying → Finding
copies_or entries (Copied copies) = Copies entries copies
copies_or entries (StoppedAt seq refused) = Stops seq refused

-- by what stands on TO: a superblock is in the way, unless it is to be written over
abbrev pub standing_or : Bool → Result Params SuperFault → Finding → Finding
standing_or true stands rest = rest
standing_or false (Ok other) rest = FullTo other.fs
standing_or false (Err fault) rest = rest

-- by TO, on which these parameters are asked for
abbrev pub to_or : Image → Params → Bool → Finding → Finding
to_or to p force rest =
    if nat_lt (line_bytes * length to) (need p.log_length p.unit) then SmallTo (need p.log_length p.unit) (line_bytes * length to)
    else standing_or force (super_in (line_at to) (line_bytes * length to)) rest

-- by what FROM reads as
abbrev pub from_or : Reading → (List Entry → Finding) → Finding
from_or (read.NoSuperblock fault) rest = FaultInSuper fault
from_or (read.BadHeader fault) rest = FaultInLog fault
from_or (read.BadSlot seq reason) rest = FaultInSlot seq reason
from_or (read.Sound params entries) rest = rest entries

-- the first cause in this order, or the copies
unfoldable pub finding : Image → Image → Params → Bool → Finding
finding from to p force =
    if nat_lt (length from) least_lines then SmallFrom (length from)
    else from_or (reading from) (λ entries. to_or to p force (copies_or entries (copying p entries)))

-- a want of slots or of room, for the path or for the bytes, among the refusals of a decision
abbrev pub refused_of : DupRefusal → Refused
refused_of (refusal.LongPath limit) = refused.LongPath limit
refused_of (refusal.LogFull slots) = refused.LogFull slots
refused_of (refusal.NoSpace units) = refused.NoSpace units

-- what a fault says: what was found, or that a media failed, or that no memory was left
pub data FaultClass : Type 0 where
  Refuses : (found : Finding) → FaultClass
  FailsFrom : FaultClass
  FailsTo : FaultClass
  WantsMemory : FaultClass

-- of each fault
abbrev pub fault_class : DupFault → FaultClass
fault_class (fault.ImageSmall lines) = Refuses (SmallFrom lines)
fault_class (fault.NoSuper word) = Refuses (FaultInSuper (super.NoSuper word))
fault_class (fault.BadSuper field found wanted) = Refuses (FaultInSuper (super.BadSuper field found wanted))
fault_class (fault.BadLog field found wanted) = Refuses (FaultInLog (log.BadLog field found wanted))
fault_class (fault.BadEntry seq reason) = Refuses (FaultInSlot seq reason)
fault_class (fault.TooSmall needed have) = Refuses (SmallTo needed have)
fault_class (fault.HasSuper fs) = Refuses (FullTo fs)
fault_class (fault.Stopped seq refusal) = Refuses (Stops seq (refused_of refusal))
fault_class (fault.FromFault line) = FailsFrom
fault_class (fault.ToFault line) = FailsTo
fault_class fault.OutOfMemory = WantsMemory

-- what such a fault says was found; a media that failed and want of memory say nothing of it
abbrev pub Names : FaultClass → Finding → Type 0
Names (Refuses told) found = found ≡ told
Names FailsFrom found = ⊤
Names FailsTo found = ⊤
Names WantsMemory found = ⊤

-- of a reason against a slot's entry; without one memory was wanted
abbrev pub slot_class : ℕ → Option Reason → FaultClass
slot_class seq (Some reason) = Refuses (FaultInSlot seq reason)
slot_class seq None = WantsMemory
