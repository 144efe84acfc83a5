-- Faults that come later in a pass.
use Rattle.std.proofs.Common.{ℕ, ◌≤◌, inl, inr, arith}
use Rattle.fam_media.specs.Causes.{Rose}
use Rattle.fam_dup.specs.Ends.{IsCausedBy, IsCausedByFrom, IsFailure}
use Rattle.fam_dup.specs.Findings.{FailsFrom, FailsTo, FaultClass, Refuses, WantsMemory}

-- a count that rose has risen from what it was before
pub rose_later : (first before now : ℕ) → first ≤ before → Rose before now → Rose first now
rose_later first before now later (inl rose) = inl (omega arith)
rose_later first before now later (inr last) = inr last

pub from_later : (first before now : ℕ) (class : FaultClass) → first ≤ before → IsCausedByFrom before now class → IsCausedByFrom first now class
from_later first before now FailsFrom later cause = rose_later first before now later cause
from_later first before now FailsTo later cause = absurd cause
from_later first before now (Refuses found) later cause = cause
from_later first before now WantsMemory later cause = cause

pub failure_later : (from_first from from_now to_first to to_now : ℕ) (class : FaultClass) → from_first ≤ from → to_first ≤ to
    → IsFailure from from_now to to_now class → IsFailure from_first from_now to_first to_now class
failure_later from_first from from_now to_first to to_now (Refuses found) later_from later_to fails = fails
failure_later from_first from from_now to_first to to_now FailsFrom later_from later_to fails = rose_later from_first from from_now later_from fails
failure_later from_first from from_now to_first to to_now FailsTo later_from later_to fails = rose_later to_first to to_now later_to fails
failure_later from_first from from_now to_first to to_now WantsMemory later_from later_to fails = fails

-- a failure is a cause
pub failure_cause : (from from_now to to_now : ℕ) (class : FaultClass) → IsFailure from from_now to to_now class → IsCausedBy from from_now to to_now class
failure_cause from from_now to to_now (Refuses found) fails = tt
failure_cause from from_now to to_now FailsFrom fails = fails
failure_cause from from_now to to_now FailsTo fails = fails
failure_cause from from_now to to_now WantsMemory fails = tt
