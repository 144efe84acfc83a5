use Rattle.std.proofs.Common.{◌≡◌, List, take}
use Rattle.fam_base.specs.declared.entry.Entry.{Entry}
use Rattle.fam_base.specs.declared.entry.Params.{Params}
use Rattle.fam_plan.specs.State.{PlanState}
use Rattle.fam_plan.proofs.plan.Plan.first.Given as goal

-- the first entries so far
pub record IsFirst (list : List Entry) (p : Params) (plan : PlanState) : Type 0 where
  pub first : plan.entries ≡ list
  pub params : plan.params ≡ p

abbrev pub invariant-loop-i : goal.invariant-loop-i
invariant-loop-i l = IsFirst (take l.i l.self.entries) l.self.params l.plan
