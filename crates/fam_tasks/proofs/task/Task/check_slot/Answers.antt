use Rattle.std.proofs.Common.{sym, ap, ◌∙◌}
use Rattle.fam_commands.specs.Classes.{is_fsck}
use Rattle.fam_tasks.proofs.Feeding.{check_keeps, check_told, check_wants, slot_checked, survey_checked}
use Rattle.fam_tasks.proofs.task.Task.check_slot.Goals as goal

pub returns-then-is_fsck-clause-turn : goal.returns-then-is_fsck-clause-turn
returns-then-is_fsck-clause-turn c =
    check_told c.show_slot.result c.args.self.now c.show_slot.new.self c.args.slot _
    (survey_checked c.args.self.now c.args.slot c.requires (ap is_fsck (sym c.command.ensures) ∙ sym c.is_fsck.ensures ∙ c.if-is_fsck.true))
    c.show_slot.ensures.turn

pub returns-then-is_fsck-clause-kept : goal.returns-then-is_fsck-clause-kept
returns-then-is_fsck-clause-kept c =
    check_keeps c.args.self.now c.show_slot.new.self c.args.slot c.requires c.show_slot.ensures.kept

pub returns-clause-turn : goal.returns-clause-turn
returns-clause-turn c =
    check_told c.read_slot.result c.args.self.now c.read_slot.new.self c.args.slot _
    (slot_checked c.args.self.now c.args.slot c.requires (ap is_fsck (sym c.command.ensures) ∙ sym c.is_fsck.ensures ∙ c.if-is_fsck.false))
    c.read_slot.ensures.turn

pub returns-clause-kept : goal.returns-clause-kept
returns-clause-kept c =
    check_keeps c.args.self.now c.read_slot.new.self c.args.slot c.requires c.read_slot.ensures.kept

pub returns-clause-want : goal.returns-clause-want
returns-clause-want c =
    check_wants c.read_slot.result c.args.self.now _
    (slot_checked c.args.self.now c.args.slot c.requires (ap is_fsck (sym c.command.ensures) ∙ sym c.is_fsck.ensures ∙ c.if-is_fsck.false))
    c.read_slot.ensures.want
