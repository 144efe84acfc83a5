use Rattle.std.proofs.Common.{refl}
use Rattle.fam_commands.specs.declared.phase.Phase.TheVariants as at
use Rattle.fam_commands.specs.Task.{Task}
use Rattle.fam_tasks.specs.declared.answer.Turn.TheVariants.{Go}
use Rattle.fam_tasks.proofs.Rest.{file_sent, first_stored}
use Rattle.fam_tasks.proofs.task.Task.store_file_rest.Goals as goal

pub returns : goal.returns
returns c =
    let t : Task = c.args.self.now in
    let now : Task = c.store_file_word-6.new.self in
    file_sent c.args.line c.args.words.now c.args.number t now c.data_stored.new.self Go c.requires.phase c.requires.rest c.is_sound.ensures c.store_file_word-6.ensures.phase c.data_stored.ensures
    (c.store_file_word-6.ensures.stored t 5 refl c.requires.phase c.requires.rest
    (c.store_file_word-5.ensures.stored t 4 refl c.requires.phase c.requires.rest
    (c.store_file_word-4.ensures.stored t 3 refl c.requires.phase c.requires.rest
    (c.store_file_word-3.ensures.stored t 2 refl c.requires.phase c.requires.rest
    (c.store_file_word-2.ensures.stored t 1 refl c.requires.phase c.requires.rest
    (c.store_file_word.ensures.stored t 0 refl c.requires.phase c.requires.rest
    (first_stored c.args.line c.args.words.now (at.StoreData c.args.number) t c.requires.phase)))))))
