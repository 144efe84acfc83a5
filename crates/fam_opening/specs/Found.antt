-- The faults of a reading, by what is damaged.
use Rattle.fam_replay.specs.Sources.{of_log, of_super}
use Rattle.fam_replay.specs.declared.fault.ReadFault.{ReadFault}
use Rattle.fam_replay.specs.declared.fault.ReadFault.TheVariants as read
use Rattle.fam_opening.specs.declared.fault.OpenFault.{OpenFault}
use Rattle.fam_opening.specs.declared.fault.OpenFault.TheVariants as fault
use Rattle.fam_opening.specs.declared.found.Found.{Found}
use Rattle.fam_opening.specs.declared.found.Found.TheVariants.{Header, Slot, Superblock, Unread}

-- why nothing was read
abbrev pub unread : OpenFault → ReadFault
unread (fault.MediaFault line) = read.MediaFault (record { 0 = line })
unread fault.OutOfMemory = read.OutOfMemory

-- the fault of the reading
abbrev pub fault_told : Found → ReadFault
fault_told (Superblock fault) = of_super fault
fault_told (Header fault) = of_log fault
fault_told (Slot seq reason) = read.BadEntry seq reason
fault_told (Unread fault) = unread fault
