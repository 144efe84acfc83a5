use Rattle.std.proofs.Common.{◌≡◌, List, Option, true, None, ap, ap₂, subst, sym, ◌∙◌}
use Rattle.fam_base.specs.declared.cmd.Cmd.{Cmd}
use Rattle.fam_base.specs.declared.cmd.Cmd.TheVariants.{Logplay, Mount}
use Rattle.fam_base.specs.declared.entry.Entry.{Entry}
use Rattle.fam_commands.specs.Kept.{Kept}
use Rattle.fam_commands.specs.Task.{Task}
use Rattle.fam_commands.specs.declared.phase.Phase.TheVariants as at
use Rattle.fam_replay.specs.Replay.{entries_in}
use Rattle.fam_replay.specs.Replica.{ReplicaState}
use Rattle.fam_tasks.specs.Commands.{is_logplay}
use Rattle.fam_tasks.specs.Invariant.{IsTask}
use Rattle.fam_tasks.specs.Model.{task_of}
use Rattle.fam_tasks.proofs.AllFound.{hand_at}
use Rattle.fam_tasks.proofs.Deciding.{played_task}
use Rattle.fam_tasks.proofs.task.Task.play_alone.Goals as goal

pub hand_out-tree-requires-clause-hand : goal.hand_out-tree-requires-clause-hand
hand_out-tree-requires-clause-hand c =
    hand_at c.self.inside c.self.invariant (ap (λ (t : Task). t.phase) c.self.view_is ∙ c.requires.phase)
    (ap is_logplay (ap (λ (t : Task). t.cmd) c.self.view_is ∙ c.requires.logplay))

pub invariant_of-self : goal.invariant_of-self
invariant_of-self c =
    subst (λ (cmd : Cmd). IsTask (record c.self.inside { cmd = cmd; history = c.hand_out-tree.new.self })) (sym c.replace.ensures.after)
    (played_task c.self.inside c.hand_out-tree.new.self c.self.invariant (ap (λ (t : Task). t.phase) c.self.view_is ∙ c.requires.phase)
    (ap (λ (t : Task). t.cmd) c.self.view_is ∙ c.requires.logplay) c.hand_out-tree.ensures.kept c.hand_out-tree.ensures.replay)

pub returns-clause-left : goal.returns-clause-left
returns-clause-left c =
    let left = c.hand_out-tree.new.self in
    ap (λ (cmd : Cmd). record (task_of c.self.inside) { cmd = cmd; kept = left.kept; entries = entries_in left.replay }) c.replace.ensures.after
    ∙ ap₂ (λ (k : Option Kept) (r : Option ReplicaState). record (task_of c.self.inside) { cmd = Mount; kept = k; entries = entries_in r }) c.hand_out-tree.ensures.kept c.hand_out-tree.ensures.replay
    ∙ ap (λ (t : Task). record t { cmd = Mount }) c.self.view_is
