-- Why a call or an operation is not done: the media failed, or no memory was left.
use Rattle.std.specs.Prelude.{⊤, Bool, true, false, Result, Ok, Err}
use Rattle.fam_base.specs.declared.line.LineNo.{LineNo}
use Rattle.fam_cache.specs.declared.fault.CacheFault.{CacheFault}
use Rattle.fam_cache.specs.declared.fault.CacheFault.TheVariants as call
use Rattle.fam_cache.specs.declared.fault.OperationFault.{OperationFault}
use Rattle.fam_cache.specs.declared.fault.OperationFault.TheVariants.{MediaFault, OutOfMemory}

-- where it is a media fault, P holds of its line
abbrev pub IfMediaFault : OperationFault → (LineNo → Type 0) → Type 0
IfMediaFault (MediaFault line) P = P line
IfMediaFault OutOfMemory P = ⊤

-- does a fault tell that the media failed
abbrev pub tells_failure : CacheFault → Bool
tells_failure call.Failed = true
tells_failure call.OutOfMemory = false

-- does that of an operation
abbrev pub tells_media_fault : OperationFault → Bool
tells_media_fault (MediaFault line) = true
tells_media_fault OutOfMemory = false

-- did it fail in a call
abbrev pub is_failed : {T : Type 0} → Result T CacheFault → Bool
is_failed (Ok x) = false
is_failed (Err fault) = tells_failure fault

-- and in an operation
abbrev pub is_media_fault : {T : Type 0} → Result T OperationFault → Bool
is_media_fault (Ok x) = false
is_media_fault (Err fault) = tells_media_fault fault
