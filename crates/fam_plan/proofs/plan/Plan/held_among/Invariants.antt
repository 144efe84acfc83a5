use Rattle.std.proofs.Common.{◌≡◌, take}
use Rattle.std.specs.FinMap as map
use Rattle.fam_format.specs.Tree.{replay}
use Rattle.fam_plan.proofs.plan.Plan.held_among.Given as goal

abbrev pub invariant-loop-i : goal.invariant-loop-i
invariant-loop-i l = l.found ≡ map.get (replay (take l.i l.self.entries)) l.path
