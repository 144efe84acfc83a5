use Rattle.std.proofs.Common.{sym, ◌∙◌}
use Rattle.fam_plan.proofs.FirstEntries.{missing_refused}
use Rattle.fam_plan.proofs.first.check_root.Goals as goal

pub returns-in-Some : goal.returns-in-Some
returns-in-Some c = missing_refused c.args.path.now c.in-Some.field-0 (sym c.parent.ensures ∙ c.in-Some.is)
