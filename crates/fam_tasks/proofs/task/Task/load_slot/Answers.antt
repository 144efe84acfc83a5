use Rattle.std.proofs.Common.{◌≡◌, ◌+◌, ◌∷◌, [], length, length-append, ap, arith, ◌∙◌}
use Rattle.fam_commands.specs.declared.phase.Part.TheVariants.{Slot}
use Rattle.fam_commands.specs.declared.phase.Phase.TheVariants as at
use Rattle.fam_commands.specs.Task.{Task}
use Rattle.fam_tasks.proofs.SlotTurns.{all_lines, next_line}
use Rattle.fam_tasks.proofs.task.Task.load_slot.Goals as goal

pub invariant_of-self : goal.invariant_of-self
invariant_of-self c =
    let phase : c.self.inside.phase ≡ at.Word (Slot c.args.slot) c.args.line 7 = ap (λ (u : Task). u.phase) c.self.view_is ∙ c.requires in
    let count : length c.push.new.self ≡ length c.self.inside.buffer + 1 = ap length c.push.ensures ∙ length-append c.self.inside.buffer (c.args.word ∷ []) in
    next_line c.self.inside c.args.slot c.args.line c.push.new.self c.self.invariant phase count (omega (arith, c.last_line.ensures, c.if-line-last_line.true))

pub invariant_of-self-else-line-last_line : goal.invariant_of-self-else-line-last_line
invariant_of-self-else-line-last_line c =
    let phase : c.self.inside.phase ≡ at.Word (Slot c.args.slot) c.args.line 7 = ap (λ (u : Task). u.phase) c.self.view_is ∙ c.requires in
    let count : length c.push.new.self ≡ length c.self.inside.buffer + 1 = ap length c.push.ensures ∙ length-append c.self.inside.buffer (c.args.word ∷ []) in
    all_lines c.self.inside c.args.slot c.args.line c.push.new.self c.self.invariant phase count (omega (arith, c.last_line.ensures, c.if-line-last_line.false))
