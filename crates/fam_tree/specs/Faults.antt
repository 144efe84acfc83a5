-- The faults of a tree among the reasons of a log's reader.
use Rattle.std.specs.Prelude.{Option, Some, None}
use Rattle.fam_format.specs.declared.faults.Reason.{Reason}
use Rattle.fam_format.specs.declared.faults.Reason.TheVariants as reason
use Rattle.fam_tree.specs.declared.fault.ApplyFault.{ApplyFault}
use Rattle.fam_tree.specs.declared.fault.ApplyFault.TheVariants.{Exists, NoParent, ParentIsFile, OutOfMemory}

-- why the entry doesn't fit the tree; running out of memory says nothing against it
abbrev pub reason_of : ApplyFault → Option Reason
reason_of (Exists kind) = Some (reason.Exists kind)
reason_of NoParent = Some reason.NoParent
reason_of ParentIsFile = Some reason.ParentIsFile
reason_of OutOfMemory = None
