use Rattle.std.proofs.Common.{refl}
use Rattle.fam_commands.specs.declared.phase.Phase.TheVariants as at
use Rattle.fam_commands.specs.Task.{Task}
use Rattle.fam_tasks.specs.declared.answer.Turn.TheVariants.{Go}
use Rattle.fam_tasks.proofs.Rest.{slot_word_goes, slot_stores, first_stored, last_stored}
use Rattle.fam_tasks.proofs.task.Task.store_slot_rest.Goals as goal

pub returns : goal.returns
returns c =
    let t : Task = c.args.self.now in
    let now : Task = c.store_slot_word-6.new.self in
    last_stored c.args.line c.args.words.now (at.StoreSlot c.args.number) _ t now c.slot_stored.new.self Go c.requires.rest
    (slot_stores c.args.line c.args.words.now c.args.number t c.requires.phase c.requires.rest) c.is_sound.ensures
    (slot_word_goes now c.args.number 7 c.store_slot_word-6.ensures.phase) c.slot_stored.ensures
    (c.store_slot_word-6.ensures.stored t 5 refl c.requires.phase c.requires.rest
    (c.store_slot_word-5.ensures.stored t 4 refl c.requires.phase c.requires.rest
    (c.store_slot_word-4.ensures.stored t 3 refl c.requires.phase c.requires.rest
    (c.store_slot_word-3.ensures.stored t 2 refl c.requires.phase c.requires.rest
    (c.store_slot_word-2.ensures.stored t 1 refl c.requires.phase c.requires.rest
    (c.store_slot_word.ensures.stored t 0 refl c.requires.phase c.requires.rest
    (first_stored c.args.line c.args.words.now (at.StoreSlot c.args.number) t c.requires.phase)))))))
