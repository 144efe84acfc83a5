use Rattle.fam_tasks.specs.declared.answer.Turn.TheVariants.{Go}
use Rattle.fam_tasks.proofs.Rest.{last_taken, six_taken}
use Rattle.fam_tasks.proofs.task.Task.load_rest.Goals as goal

pub returns-in-Slot-clause-loads : goal.returns-in-Slot-clause-loads
returns-in-Slot-clause-loads c =
    last_taken c.args.line c.args.words.now c.args.part c.in-Slot.slot c.args.number c.args.self.now c.load_six.new.self c.load_slot.new.self Go
    c.in-Slot.is c.is_sound.ensures c.load_slot.ensures c.load_six.ensures

pub returns-clause-loads : goal.returns-clause-loads
returns-clause-loads c = six_taken c.args.line c.args.words.now c.args.part c.args.number c.args.self.now c.load_six.new.self c.load_six.ensures
