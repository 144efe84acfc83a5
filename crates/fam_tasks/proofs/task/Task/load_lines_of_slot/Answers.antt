use Rattle.std.proofs.Common.{ap, ◌∙◌, arith}
use Rattle.fam_commands.specs.Task.{Task}
use Rattle.fam_tasks.proofs.SlotRun.{goes_on, slot_lines_loaded}
use Rattle.fam_tasks.proofs.task.Task.load_lines_of_slot.Goals as goal

pub returns-clause-loads : goal.returns-clause-loads
returns-clause-loads c =
    slot_lines_loaded c.args.self.now c.args.due.slot c.args.due.first c.args.lines.now c.is_sound.ensures c.requires.due c.requires.first
    c.args.count (omega (arith, c.requires.few, c.requires.lines))
    c.take_lines_of_slot.new.self c.take_lines_of_slot.ensures

pub returns-clause-next : goal.returns-clause-next
returns-clause-next c = λ below.
    ap (λ (t : Task). t.phase) c.take_lines_of_slot.ensures ∙ goes_on c.args.self.now c.args.due.slot c.args.due.first c.args.lines.now
    c.is_sound.ensures c.requires.due c.requires.first c.args.count (omega (arith, below, c.requires.lines))
