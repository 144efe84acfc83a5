-- Why an operation wasn't done.
use Rattle.std.proofs.Common.{◌≡◌, subst}
use Rattle.fam_base.specs.declared.line.LineNo.{LineNo}
use Rattle.fam_cache.specs.declared.fault.OperationFault.{OperationFault}
use Rattle.fam_cache.specs.declared.fault.OperationFault.TheVariants as fault
use Rattle.fam_cache.specs.Faults.{IfMediaFault}

-- a fault of the media names its line
pub fault_at : (f : OperationFault) (line : LineNo) (P : LineNo → Type 0) → f ≡ fault.MediaFault line → IfMediaFault f P → P line
fault_at f line P is p = subst (λ (z : OperationFault). IfMediaFault z P) is p
