use Rattle.fam_commands.specs.declared.phase.Phase.TheVariants as at
use Rattle.fam_tasks.specs.declared.answer.Turn.TheVariants.{Go}
use Rattle.fam_tasks.proofs.Rest.{file_goes, file_stores, next_stored}
use Rattle.fam_tasks.proofs.task.Task.store_file_word.Goals as goal

pub returns-clause-stored : goal.returns-clause-stored
returns-clause-stored c = λ t n number phase rest stored.
    next_stored c.args.line c.args.words.now (at.StoreData c.args.number) (at.SendData c.args.number) n c.args.k t c.args.self.now c.data_stored.new.self Go number c.requires.within rest
    (file_stores c.args.line c.args.words.now c.args.number t phase rest) c.is_sound.ensures
    (file_goes c.args.self.now c.args.number c.args.k c.requires.phase) c.data_stored.ensures stored
