-- The reading of a media's log: what a fault says of it, and which lines are asked for.
use Rattle.std.specs.Prelude.{ℕ, ◌≡◌, ◌⊎◌, ◌<◌, ⊤, List, [], Option, Some, None, Ok, slice_index}
use Rattle.fam_base.specs.declared.entry.Entry.{Entry}
use Rattle.fam_base.specs.declared.entry.Params.{Params}
use Rattle.fam_format.specs.declared.faults.SuperFault.{SuperFault}
use Rattle.fam_format.specs.declared.faults.SuperFault.TheVariants as super
use Rattle.fam_format.specs.declared.faults.LogFault.{LogFault}
use Rattle.fam_format.specs.declared.faults.LogFault.TheVariants as log
use Rattle.fam_format.specs.declared.faults.Reason.{Reason}
use Rattle.fam_format.specs.Layout.{gate_line, geometry, log_line, slot_line}
use Rattle.fam_format.specs.Log.{gate_fault, log_fault}
use Rattle.fam_format.specs.Reading.{Lines, Reading, BadHeader, BadSlot, NoSuperblock, Sound, gate_in, read_slots, super_in}
use Rattle.fam_format.specs.Super.{magic}
use Rattle.fam_media.specs.Causes.{Rose}
use Rattle.fam_media.specs.Plans.{one_more}
use Rattle.fam_replay.specs.declared.fault.ReadFault.{ReadFault}
use Rattle.fam_replay.specs.declared.fault.ReadFault.TheVariants as fault

-- a fault of a superblock
abbrev pub of_super : SuperFault → ReadFault
of_super (super.NoSuper word) = fault.NoSuper word
of_super (super.BadSuper field found wanted) = fault.BadSuper field found wanted

-- of a header or a gate
abbrev pub of_log : LogFault → ReadFault
of_log (log.BadLog field found wanted) = fault.BadLog field found wanted

-- of the reason against a slot's entry: without one memory was wanted
abbrev pub of_slot : ℕ → Option Reason → ReadFault
of_slot seq (Some reason) = fault.BadEntry seq reason
of_slot seq None = fault.OutOfMemory

-- what the image reads as, by a fault; a media that failed and want of memory say nothing of it
abbrev pub Tells : ReadFault → Reading → Type 0
Tells (fault.NoSuper word) read = read ≡ NoSuperblock (super.NoSuper word)
Tells (fault.BadSuper field found wanted) read = read ≡ NoSuperblock (super.BadSuper field found wanted)
Tells (fault.BadLog field found wanted) read = read ≡ BadHeader (log.BadLog field found wanted)
Tells (fault.BadEntry seq reason) read = read ≡ BadSlot seq reason
Tells (fault.MediaFault line) read = ⊤
Tells fault.OutOfMemory read = ⊤

-- a media failed only where its count of faults rose
abbrev pub IsReadCaused : ℕ → ℕ → ReadFault → Type 0
IsReadCaused before now (fault.NoSuper word) = ⊤
IsReadCaused before now (fault.BadSuper field found wanted) = ⊤
IsReadCaused before now (fault.BadLog field found wanted) = ⊤
IsReadCaused before now (fault.BadEntry seq reason) = ⊤
IsReadCaused before now (fault.MediaFault line) = Rose before now
IsReadCaused before now fault.OutOfMemory = ⊤

-- a media that counts exactly has counted one fault where a fault tells that it failed, and none where another one came
abbrev pub IsCounted : ℕ → ℕ → ReadFault → Type 0
IsCounted before now (fault.NoSuper word) = now ≡ before
IsCounted before now (fault.BadSuper field found wanted) = now ≡ before
IsCounted before now (fault.BadLog field found wanted) = now ≡ before
IsCounted before now (fault.BadEntry seq reason) = now ≡ before
IsCounted before now (fault.MediaFault line) = now ≡ one_more before
IsCounted before now fault.OutOfMemory = now ≡ before

-- the line at which it failed is one of these
abbrev pub FailsAt : (ℕ → Type 0) → ReadFault → Type 0
FailsAt At (fault.NoSuper word) = ⊤
FailsAt At (fault.BadSuper field found wanted) = ⊤
FailsAt At (fault.BadLog field found wanted) = ⊤
FailsAt At (fault.BadEntry seq reason) = ⊤
FailsAt At (fault.MediaFault line) = At line.0
FailsAt At fault.OutOfMemory = ⊤

-- a line of the superblock: line 0, and lines 1 and 2 behind the magic
abbrev pub IsOfSuper : Lines → ℕ → Type 0
IsOfSuper lines at = (at ≡ 0) ⊎ ((slice_index (lines 0) 0 ≡ magic) × ((at ≡ 1) ⊎ (at ≡ 2)))

-- the header's line, and the gate's behind a header that reads
abbrev pub IsOfHead : Lines → Params → ℕ → Type 0
IsOfHead lines p at = (at ≡ log_line) ⊎ ((log_fault (lines log_line) p ≡ None) × (at ≡ gate_line))

-- a line of this slot
abbrev pub IsOfSlot : Params → ℕ → ℕ → Type 0
IsOfSlot p slot at = (line : ℕ) × (line < (geometry p).lines) × (at ≡ slot_line p slot line)

-- a line of one of the first slots, behind slots that all read and join: none behind the first bad one
pub record IsOfSlots (lines : Lines) (p : Params) (count at : ℕ) : Type 0 where
  pub slot : ℕ
  pub below : slot < count
  pub before : List Entry
  pub sound : read_slots lines p 0 slot [] ≡ Sound p before
  pub line : IsOfSlot p slot at

-- header and gate read
pub record ReadsHead (lines : Lines) (p : Params) : Type 0 where
  pub header : log_fault (lines log_line) p ≡ None
  pub gate : gate_fault (gate_in lines) p ≡ None

-- a line of the log with these parameters: of its head, or, behind a head that reads, of a slot below the gate, behind slots that
-- all read and join
abbrev pub IsOfLog : Lines → Params → ℕ → Type 0
IsOfLog lines p at = IsOfHead lines p at ⊎ (ReadsHead lines p × IsOfSlots lines p (gate_in lines) at)

-- a line that a reading may ask for: of the superblock, or of the log behind one that reads
abbrev pub IsAskedFor : Lines → ℕ → ℕ → Type 0
IsAskedFor lines have at = IsOfSuper lines at ⊎ ((p : Params) × (super_in lines have ≡ Ok p) × IsOfLog lines p at)
