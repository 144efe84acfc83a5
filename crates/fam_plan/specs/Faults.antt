-- The faults of a plan among the reasons of a log's reader.
use Rattle.std.specs.Prelude.{Option, Some, None}
use Rattle.fam_format.specs.declared.faults.Reason.{Reason}
use Rattle.fam_format.specs.declared.faults.Reason.TheVariants as reason
use Rattle.fam_plan.specs.declared.fault.AddFault.{AddFault}
use Rattle.fam_plan.specs.declared.fault.AddFault.TheVariants.{Exists, NoParent, ParentIsFile, Overlap, OutOfMemory}

-- why the entry doesn't join; running out of memory says nothing against it
abbrev pub reason_of : AddFault → Option Reason
reason_of (Exists kind) = Some (reason.Exists kind)
reason_of NoParent = Some reason.NoParent
reason_of ParentIsFile = Some reason.ParentIsFile
reason_of (Overlap unit) = Some (reason.Overlap unit)
reason_of OutOfMemory = None
