use Rattle.std.proofs.Common.{None, Some, sym, ap, ◌∙◌}
use Rattle.std.specs.Option.{is_some}
use Rattle.fam_base.specs.Paths.{parent_of}
use Rattle.fam_plan.proofs.FirstEntries.{missing_parent, none_of_false, some_of_true, units_alone}
use Rattle.fam_plan.proofs.first.first_entry_fault.Goals as goal

pub returns-then-is_some : goal.returns-then-is_some
returns-then-is_some c =
    let parent = some_of_true (parent_of c.args.entry.now.path) (c.if-is_some.ensures ∙ ap is_some c.parent.ensures) in
    missing_parent c.args.params.now c.args.entry.now parent.0 parent.1

pub returns-in-Some : goal.returns-in-Some
returns-in-Some c =
    units_alone c.args.params.now c.args.entry.now (Some c.in-Some.unit) (none_of_false (parent_of c.args.entry.now.path) (c.if-is_some.ensures ∙ ap is_some c.parent.ensures))
    (sym c.in-Some.is ∙ c.overlap_alone.ensures)

pub returns-in-None : goal.returns-in-None
returns-in-None c =
    units_alone c.args.params.now c.args.entry.now None (none_of_false (parent_of c.args.entry.now.path) (c.if-is_some.ensures ∙ ap is_some c.parent.ensures))
    (sym c.in-None.is ∙ c.overlap_alone.ensures)
