use Rattle.std.proofs.Common.{length, refl}
use Rattle.fam_tasks.proofs.Deciding.{played_keeps, played_leaves, played_wants}
use Rattle.fam_tasks.proofs.task.Task.play.Goals as goal

pub returns-then-keeps-clause-kept : goal.returns-then-keeps-clause-kept
returns-then-keeps-clause-kept c =
    played_keeps c.play_kept.result c.args.self.now c.play_kept.new.self (c.keeps.ensures.some c.if-keeps.true) c.play_kept.ensures.kept

pub returns-then-keeps-clause-left : goal.returns-then-keeps-clause-left
returns-then-keeps-clause-left c =
    played_leaves c.play_kept.result c.args.self.now c.play_kept.new.self (c.keeps.ensures.some c.if-keeps.true)

pub returns-then-keeps-clause-want : goal.returns-then-keeps-clause-want
returns-then-keeps-clause-want c = played_wants c.play_kept.result c.args.self.now (c.keeps.ensures.some c.if-keeps.true)
