use Rattle.std.proofs.Common.{◌≡◌, drop}
use Rattle.fam_media.specs.Plans.{is_planned}
use Rattle.fam_media.proofs.plan.has_planned.Given as goal

abbrev pub invariant-loop-p : goal.invariant-loop-p
invariant-loop-p l = is_planned (drop l.p-index l.plan) l.call ≡ is_planned l.plan l.call
