use Rattle.std.proofs.Common.{true, take}
use Rattle.fam_format.specs.Units.{is_used}
use Rattle.fam_alloc.specs.Next.{IsNext}
use Rattle.fam_plan.proofs.plan.Plan.first_used.Given as goal

abbrev pub invariant-loop-i : goal.invariant-loop-i
invariant-loop-i l = IsNext (is_used l.self.params (take l.i l.self.entries)) true l.run.start l.run.end l.end
