use Rattle.std.proofs.Common.{ap}
use Rattle.fam_world.specs.Counted.{WorldStanding}
use Rattle.fam_world.proofs.Counting.{none_said, one_said}
use Rattle.fam_world.proofs.world.World.step.Goals as goal

pub returns-clause-answered : goal.returns-clause-answered
returns-clause-answered g c = one_said c.args.name.now _ _ _ c.steps.result c.steps.ensures.says

pub returns-clause-err : goal.returns-clause-err
returns-clause-err g c = λ full. ap (λ (s : WorldStanding). s.world) (none_said c.args.name.now _ _ _ c.steps.result c.steps.ensures.says full)
