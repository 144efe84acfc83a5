use Rattle.std.proofs.Common.{sym, ◌∙◌}
use Rattle.fam_tasks.proofs.KeptAnew.{is_host_kept, is_left, left_decides, left_mounts, none_left}
use Rattle.fam_tasks.proofs.task.Task.into_all_kept.Goals as goal

pub returns-then-keeps : goal.returns-then-keeps
returns-then-keeps c = c.into_host_kept.ensures ∙ sym (is_host_kept c.args.self (c.keeps.ensures.some c.if-keeps.true))

pub into_left-requires-clause-phase : goal.into_left-requires-clause-phase
into_left-requires-clause-phase c = left_decides c.args.self.phase c.args.self.cmd (sym c.has_left.ensures ∙ c.if-has_left.true)

pub into_left-requires-clause-mount : goal.into_left-requires-clause-mount
into_left-requires-clause-mount c = left_mounts c.args.self.phase c.args.self.cmd (sym c.has_left.ensures ∙ c.if-has_left.true)

pub returns-then-has_left : goal.returns-then-has_left
returns-then-has_left c =
    c.into_left.ensures ∙ sym (is_left c.args.self (c.keeps.ensures.none c.if-keeps.false) (sym c.has_left.ensures ∙ c.if-has_left.true))

pub returns : goal.returns
returns c =
    c.into_host_kept-2.ensures ∙ sym (none_left c.args.self (c.keeps.ensures.none c.if-keeps.false) (sym c.has_left.ensures ∙ c.if-has_left.false))
