use Rattle.std.proofs.Common.{length, sym, ap, ◌∙◌}
use Rattle.fam_replay.specs.Replay.{entries_in}
use Rattle.fam_tasks.proofs.Begun.{uses_kept, uses_none}
use Rattle.fam_tasks.proofs.task.loads.begin_history.Goals as goal

pub returns-then-is_fsck-clause-entries : goal.returns-then-is_fsck-clause-entries
returns-then-is_fsck-clause-entries c =
    ap entries_in c.requires ∙ sym (uses_none c.args.cmd.now c.args.history.now.kept c.args.params.now c.args.gate (sym c.is_fsck.ensures ∙ c.if-is_fsck.true))

pub returns-then-is_fsck-clause-count : goal.returns-then-is_fsck-clause-count
returns-then-is_fsck-clause-count c =
    sym (ap length (uses_none c.args.cmd.now c.args.history.now.kept c.args.params.now c.args.gate (sym c.is_fsck.ensures ∙ c.if-is_fsck.true)))

pub returns-clause-entries : goal.returns-clause-entries
returns-clause-entries c =
    c.begin.ensures.entries ∙ sym (uses_kept c.args.cmd.now c.args.history.now.kept c.args.params.now c.args.gate (sym c.is_fsck.ensures ∙ c.if-is_fsck.false))

pub returns-clause-count : goal.returns-clause-count
returns-clause-count c =
    c.begin.ensures.count ∙ sym (ap length (uses_kept c.args.cmd.now c.args.history.now.kept c.args.params.now c.args.gate (sym c.is_fsck.ensures ∙ c.if-is_fsck.false)))
