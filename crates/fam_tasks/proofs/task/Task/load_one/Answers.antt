use Rattle.std.proofs.Common.{ℕ, Some, ◌∙◌}
use Rattle.std.specs.Prelude.{slice_index}
use Rattle.fam_commands.specs.declared.phase.Phase.TheVariants as at
use Rattle.fam_commands.specs.Task.{Task}
use Rattle.fam_commands.specs.Turns.{with_word}
use Rattle.fam_tasks.specs.declared.answer.Turn.TheVariants.{Go}
use Rattle.fam_tasks.proofs.Rest.{next_taken, told_goes, turn_in, word_goes}
use Rattle.fam_tasks.proofs.task.Task.load_one.Goals as goal

pub returns-clause-taken : goal.returns-clause-taken
returns-clause-taken c = λ t taken.
    let now : Task = c.args.self.now in
    let word : ℕ = slice_index c.args.words.now c.args.k in
    let wanted = word_goes (with_word now word) c.args.part c.args.number c.args.k c.requires.within in
    let told = told_goes _ _ c.load_behind.new.self Go wanted c.load_behind.ensures.turn in
    next_taken c.args.line c.args.words.now c.args.part c.args.number c.args.k t now c.load_behind.new.self c.is_sound.ensures c.requires.within
    told.1
    (turn_in now (at.Word c.args.part c.args.number c.args.k) (Some word) c.requires.phase ∙ told.0)
    taken
