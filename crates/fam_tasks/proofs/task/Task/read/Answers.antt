use Rattle.std.proofs.Common.{◌≡◌, ap, subst, ◌∙◌, Option}
use Rattle.std.specs.Prelude.{IfSome}
use Rattle.fam_base.specs.declared.entry.Entry.{Entry}
use Rattle.fam_format.specs.Slot.{Proper}
use Rattle.fam_commands.specs.declared.phase.Phase.{Phase}
use Rattle.fam_commands.specs.declared.phase.Phase.TheVariants as at
use Rattle.fam_commands.specs.Task.{Task}
use Rattle.fam_commands.specs.Classes.{is_fsck}
use Rattle.fam_tasks.specs.Invariant.{IsInvariantAt}
use Rattle.fam_tasks.proofs.AllFound.{all_found_at}
use Rattle.fam_tasks.proofs.task.Task.read.Goals as goal

pub at-requires : goal.at-requires
at-requires c =
    all_found_at c.self.inside c.self.invariant (ap (λ (t : Task). t.phase) c.self.view_is ∙ c.requires.phase) (ap is_fsck c.in-Read.is)

pub read_file-requires-clause-proper : goal.read_file-requires-clause-proper
read_file-requires-clause-proper c =
    let phase : c.self.inside.phase ≡ at.Decide = ap (λ (t : Task). t.phase) c.self.view_is ∙ c.requires.phase in
    let held : IsInvariantAt at.Decide c.self.inside = subst (λ (p : Phase). IsInvariantAt p c.self.inside) phase c.self.invariant.held in
    let proper : Proper c.self.inside.params c.in-Ok.entry = subst (λ (o : Option Entry). IfSome o (Proper c.self.inside.params)) c.in-Ok.ensures.is
    (c.at.ensures.proper c.self.inside.params c.self.inside.gate held.0.replay) in
    subst (λ (t : Task). Proper t.params c.in-Ok.entry) c.self.view_is proper
