use Rattle.fam_commands.specs.Task.{Task}
use Rattle.fam_tasks.proofs.Rest.{first_taken}
use Rattle.fam_tasks.proofs.task.Task.load_six.Goals as goal

pub returns : goal.returns
returns c =
    let t : Task = c.args.self.now in
    c.load_one-6.ensures.taken t (c.load_one-5.ensures.taken t (c.load_one-4.ensures.taken t (c.load_one-3.ensures.taken t (c.load_one-2.ensures.taken t (c.load_one.ensures.taken t
    (first_taken c.args.line c.args.words.now c.args.part c.args.number t c.requires.phase c.requires.rest))))))
