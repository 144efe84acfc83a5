use Rattle.fam_commands.specs.declared.phase.Phase.TheVariants as at
use Rattle.fam_tasks.specs.declared.answer.Turn.TheVariants.{Go}
use Rattle.fam_tasks.proofs.Rest.{slot_word_goes, slot_stores, next_stored}
use Rattle.fam_tasks.proofs.task.Task.store_slot_word.Goals as goal

pub returns-clause-stored : goal.returns-clause-stored
returns-clause-stored c = λ t n number phase rest stored.
    next_stored c.args.line c.args.words.now (at.StoreSlot c.args.number) (at.SendSlot c.args.number) n c.args.k t c.args.self.now c.slot_stored.new.self Go number c.requires.within rest
    (slot_stores c.args.line c.args.words.now c.args.number t phase rest) c.is_sound.ensures
    (slot_word_goes c.args.self.now c.args.number c.args.k c.requires.phase) c.slot_stored.ensures stored
