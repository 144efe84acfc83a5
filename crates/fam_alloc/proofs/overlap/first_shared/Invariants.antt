use Rattle.std.proofs.Common.{true, take}
use Rattle.fam_format.specs.Units.{units_in}
use Rattle.fam_alloc.specs.Next.{IsNext}
use Rattle.fam_alloc.specs.Taken.{holds}
use Rattle.fam_alloc.proofs.overlap.first_shared.Given as goal

abbrev pub invariant-loop-i : goal.invariant-loop-i
invariant-loop-i l = IsNext (holds (units_in l.unit (take l.i l.extents))) true l.run.start l.run.end l.first
