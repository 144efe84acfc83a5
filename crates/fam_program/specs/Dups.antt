-- What is put of a file system that is copied onto another image, and what both images hold behind that. docs/MANUAL.md,
-- "Copies".
use Rattle.std.specs.Prelude.{ℕ, ⊤, Bool, ◌≡◌, ◌⊎◌, ◌++◌, ◌≤◌, true, false, List, [], codes, Option, Some, None, Result, Ok, Err, IfErr}
use Rattle.fam_base.specs.declared.entry.Params.{Params}
use Rattle.fam_base.specs.Image.{Image}
use Rattle.fam_dup.specs.declared.fault.DupFault.{DupFault}
use Rattle.fam_dup.specs.declared.fault.DupFault.TheVariants as fault
use Rattle.fam_dup.specs.declared.fault.DupRefusal.{DupRefusal}
use Rattle.fam_dup.specs.Ends.{Becomes, DupEnds, IsAskedIn, IsDupCaused, NamesLine, from_counted, to_counted}
use Rattle.fam_dup.specs.Findings.{Copies, FailsFrom, FailsTo, FaultClass, FaultInLog, FaultInSlot, FaultInSuper, Finding, FullTo, Refuses, SmallFrom, SmallTo, Stops, WantsMemory, fault_class, refused_of}
use Rattle.fam_format.specs.declared.faults.SuperFault.TheVariants as super
use Rattle.fam_format.specs.declared.faults.LogFault.TheVariants as log
use Rattle.fam_journal.specs.declared.refusal.Refusal.{Refusal}
use Rattle.fam_journal.specs.declared.refusal.Refusal.TheVariants as why
use Rattle.fam_machine.specs.declared.request.MkfsRequest.{MkfsRequest}
use Rattle.fam_machine.specs.Mkfs.{asked, is_geometry}
use Rattle.fam_media.specs.Outside.{IfModelled}
use Rattle.fam_media.specs.States.{MediaChange, SinkChange}
use Rattle.fam_outcomes.specs.declared.status.Status.{Status}
use Rattle.fam_outcomes.specs.declared.status.Status.TheVariants as status
use Rattle.fam_outcomes.specs.Programs.{memory_line, usage_line}
use Rattle.fam_outcomes.specs.Texts.{cause_text, line, log_text, number, refusal_text, slot_text, super_text}
use Rattle.fam_program.specs.declared.numbers.NumberLine.TheVariants as by
use Rattle.fam_program.specs.Puts.{Put}
use Rattle.fam_program.specs.Shots.{number_text}

-- a copy that is asked for: the UUID of the host that its log belongs to, and what a mkfs with the same options asks for
pub record CopyAsked : Type 0 where
  pub me : List ℕ
  pub request : MkfsRequest

-- from its parts
abbrev pub copy_asked : List ℕ → MkfsRequest → CopyAsked
copy_asked me request = record { me = me; request = request }

-- its parameters on an image of so many lines: those of a file system that such a mkfs makes there
abbrev pub copy_params : CopyAsked → ℕ → Params
copy_params copy lines = asked copy.request copy.me lines

-- what both images and the sink tell before and behind a call, how many lines FROM and TO have, and whether each counts exactly:
-- a fault for each of its calls that fails, and no other
pub record CopyOutside : Type 0 where
  pub from_lines : ℕ
  pub lines : ℕ
  pub from_exact : Bool
  pub to_exact : Bool
  pub from : MediaChange
  pub to : MediaChange
  pub sink : SinkChange

-- from its parts
abbrev pub copy_outside : ℕ → ℕ → Bool → Bool → MediaChange → MediaChange → SinkChange → CopyOutside
copy_outside from_lines lines from_exact to_exact from to sink =
    record { from_lines = from_lines; lines = lines; from_exact = from_exact; to_exact = to_exact; from = from; to = to; sink = sink }

-- where both images are modelled, this is so of FROM, of TO before, and of TO behind
abbrev pub OfImages : CopyOutside → (Image → Image → Image → Type 0) → Type 0
OfImages out P = IfModelled out.from.old.image (λ source. Becomes out.to.old.image out.to.new.image (P source))

-- Texts and statuses.

-- a refusal that names no host, as a line
abbrev pub refused_line : Refusal → List ℕ
refused_line cause = line (codes "refused " ++ refusal_text [] cause)

-- the first entry that has no copy, and why
abbrev pub stopped_line : ℕ → DupRefusal → List ℕ
stopped_line seq refusal = line (codes "dup stopped" ++ number seq ++ (codes " " ++ cause_text (refused_of refusal)))

-- why there is no copy, as a line. Of FROM it is logplay's
abbrev pub fault_line : DupFault → List ℕ
fault_line (fault.ImageSmall lines) = refused_line (why.ImageSmall lines)
fault_line (fault.NoSuper word) = line (super_text (super.NoSuper word))
fault_line (fault.BadSuper field found wanted) = line (super_text (super.BadSuper field found wanted))
fault_line (fault.BadLog field found wanted) = line (log_text (log.BadLog field found wanted))
fault_line (fault.BadEntry seq reason) = line (slot_text seq reason)
fault_line (fault.TooSmall needed have) = refused_line (why.TooSmall needed have)
fault_line (fault.HasSuper fs) = refused_line (why.HasSuper fs)
fault_line (fault.Stopped seq refusal) = stopped_line seq refusal
fault_line (fault.FromFault at) = number_text (by.FromFault at.0)
fault_line (fault.ToFault at) = number_text (by.ToFault at.0)
fault_line fault.OutOfMemory = memory_line

-- the status of what is found: damage of FROM, and a refusal
abbrev pub finding_status : Finding → Status
finding_status (SmallFrom lines) = status.Damaged
finding_status (FaultInSuper found) = status.Damaged
finding_status (FaultInLog found) = status.Damaged
finding_status (FaultInSlot seq reason) = status.Damaged
finding_status (SmallTo needed have) = status.Refused
finding_status (FullTo fs) = status.Refused
finding_status (Stops seq refused) = status.Refused
finding_status (Copies entries copies) = status.Done

-- a line for which memory is wanted is put, or that none is left for it
abbrev pub PutMade : Status → List ℕ → SinkChange → Status → Type 0
PutMade own text s given = Put own text s given ⊎ Put status.OutOfMemory memory_line s given

-- what is put of a fault, by its class: that an image failed is put in any case
abbrev pub PutFault : FaultClass → List ℕ → SinkChange → Status → Type 0
PutFault (Refuses found) text s given = PutMade (finding_status found) text s given
PutFault FailsFrom text s given = Put status.MediaFault text s given
PutFault FailsTo text s given = Put status.MediaFault text s given
PutFault WantsMemory text s given = Put status.OutOfMemory text s given

-- what is put of a copy: that it is made is put in any case
abbrev pub PutDup : Result ℕ DupFault → SinkChange → Status → Type 0
PutDup (Ok count) s given = Put status.Done (number_text (by.Copied count)) s given
PutDup (Err fault) s given = PutFault (fault_class fault) (fault_line fault) s given

-- The top call.

-- why neither image is asked: the words ask for no copy; it can have no such unit or log; or no memory was left for the words
-- or for a line
pub data EarlyCopy : Type 0 where
  NoCopy : EarlyCopy
  BadSizes : (unit log : ℕ) → EarlyCopy
  CopyOutOfMemory : EarlyCopy

-- a copy is asked for whose log can't have so many bytes, in units of so many
pub record HasBadSizes (wanted : Option CopyAsked) (unit log : ℕ) : Type 0 where
  pub copy : CopyAsked
  pub is : wanted ≡ Some copy
  pub unit_is : copy.request.unit ≡ unit
  pub log_is : copy.request.log ≡ log
  pub bad : is_geometry unit log ≡ false

-- each has its cause
abbrev pub IsEarlyCopy : Option CopyAsked → EarlyCopy → Type 0
IsEarlyCopy wanted NoCopy = wanted ≡ None
IsEarlyCopy wanted (BadSizes unit log) = HasBadSizes wanted unit log
IsEarlyCopy wanted CopyOutOfMemory = ⊤

-- its text
abbrev pub early_copy_text : EarlyCopy → List ℕ
early_copy_text NoCopy = usage_line
early_copy_text (BadSizes unit log) = refused_line (why.BadGeometry unit log)
early_copy_text CopyOutOfMemory = memory_line

-- its status
abbrev pub early_copy_status : EarlyCopy → Status
early_copy_status NoCopy = status.Usage
early_copy_status (BadSizes unit log) = status.Refused
early_copy_status CopyOutOfMemory = status.OutOfMemory

-- no call of either image was made
pub record CopyEndsEarly (wanted : Option CopyAsked) (out : CopyOutside) (given : Status) : Type 0 where
  pub early : EarlyCopy
  pub is : IsEarlyCopy wanted early
  pub from : out.from.new ≡ out.from.old
  pub to : out.to.new ≡ out.to.old
  pub put : Put (early_copy_status early) (early_copy_text early) out.sink given

-- the count of an image's faults behind a copy that ended so
abbrev pub counted_behind : (FaultClass → ℕ → ℕ) → Result ℕ DupFault → ℕ → ℕ
counted_behind counted (Ok count) faults = faults
counted_behind counted (Err fault) faults = counted (fault_class fault) faults

-- a copy was tried: how it ended, what that leaves, and what is put of it
pub record HasCopied (copy : CopyAsked) (out : CopyOutside) (given : Status) : Type 0 where
  pub good : is_geometry copy.request.unit copy.request.log ≡ true
  pub ended : Result ℕ DupFault
  pub ends : OfImages out (λ source old new. DupEnds source old new (copy_params copy out.lines) copy.request.force ended)
  pub caused : IfErr ended (λ fault. IsDupCaused out.from.old.faults out.from.new.faults out.to.old.faults out.to.new.faults fault)
  -- the line of a media fault is one of its image
  pub named : IfErr ended (λ fault. NamesLine out.from_lines out.lines fault)
  -- and one that was asked for at that step
  pub asked : IfErr ended (λ fault. IfModelled out.from.old.image (λ source. IfModelled out.to.old.image (λ old. IsAskedIn source old out.to.new.image (copy_params copy out.lines) copy.request.force fault)))
  -- an image that counts exactly has failed once where the fault tells it, and never else
  pub counted_from : out.from_exact ≡ true → out.from.new.faults ≡ counted_behind from_counted ended out.from.old.faults
  pub counted_to : out.to_exact ≡ true → out.to.new.faults ≡ counted_behind to_counted ended out.to.old.faults
  pub put : PutDup ended out.sink given

-- so of a copy that is asked for
abbrev pub CopyRuns : Option CopyAsked → CopyOutside → Status → Type 0
CopyRuns None out given = ⊥
CopyRuns (Some copy) out given = HasCopied copy out given

-- what is put of a copy and left on TO, or the words ask for none; FROM is as it was, and no count falls
pub record DupTop (wanted : Option CopyAsked) (out : CopyOutside) (given : Status) : Type 0 where
  pub shows : CopyEndsEarly wanted out given ⊎ CopyRuns wanted out given
  pub same : out.from.new.image ≡ out.from.old.image
  pub later_from : out.from.old.faults ≤ out.from.new.faults
  pub later_to : out.to.old.faults ≤ out.to.new.faults
  pub later_sink : out.sink.old.faults ≤ out.sink.new.faults
