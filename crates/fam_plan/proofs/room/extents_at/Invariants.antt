use Rattle.std.proofs.Common.{◌≡◌, take, map}
use Rattle.fam_rules.specs.Decide.{extent_from}
use Rattle.fam_plan.proofs.room.extents_at.Given as goal

abbrev pub invariant-loop-start : goal.invariant-loop-start
invariant-loop-start l = l.extents ≡ map (extent_from l.unit l.count) (take l.start-index l.starts)
