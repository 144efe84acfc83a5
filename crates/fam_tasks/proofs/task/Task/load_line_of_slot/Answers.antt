use Rattle.std.proofs.Common.{ap, ◌∙◌, arith}
use Rattle.fam_base.specs.Image.{eight}
use Rattle.fam_commands.specs.Task.{Task}
use Rattle.fam_tasks.proofs.SlotLine.{line_follows, slot_line_loaded}
use Rattle.fam_tasks.proofs.task.Task.load_line_of_slot.Goals as goal

pub returns-clause-loads : goal.returns-clause-loads
returns-clause-loads c =
    slot_line_loaded c.args.line (eight c.args.words.now) c.args.due.slot c.args.due.line c.args.self.now c.is_sound.ensures c.requires.due
    c.requires.line c.take_line_of_slot.new.self c.take_line_of_slot.ensures

pub returns-clause-next : goal.returns-clause-next
returns-clause-next c = λ below.
    ap (λ (t : Task). t.phase) c.take_line_of_slot.ensures ∙ line_follows c.args.self.now c.args.due.slot c.args.due.line (omega (arith, below, c.requires.lines))
