-- Tasks that have come no further than to their first store.
use Rattle.std.proofs.Common.{ℕ, ◌≡◌, Some, inl, inr, refl, subst}
use Rattle.std.proofs.lemmas.Option.{same_Some}
use Rattle.fam_base.specs.declared.cmd.Cmd.{Cmd}
use Rattle.fam_commands.specs.declared.phase.Phase.{Phase}
use Rattle.fam_commands.specs.Appends.{IsBeforeWrites}
use Rattle.fam_commands.specs.FirstStore.{IsFirstStore, IsUpToStore}
use Rattle.fam_commands.specs.Stands.{task_after}
use Rattle.fam_commands.specs.Task.{Task}
use Rattle.fam_commands.specs.Turns.{Turn, Goes, Marks, Finds, Writes, Ends, turn_at}
use Rattle.fam_commands.proofs.BeforeWrites.{SaysAt, turn_says}

up_to : (p : Phase) (cmd : Cmd) (turn : Turn) (next : Task) → SaysAt p cmd turn → task_after turn ≡ Some next → IsUpToStore next
up_to p cmd (Goes t) next says is = inl (subst (λ (x : Task). IsBeforeWrites x.phase) (same_Some t next is) says)
up_to p cmd (Marks t) next says is = inl (subst (λ (x : Task). IsBeforeWrites x.phase) (same_Some t next is) says)
up_to p cmd (Finds n t) next says is = inl (subst (λ (x : Task). IsBeforeWrites x.phase) (same_Some t next is) says)
up_to p cmd (Writes seq e t) next says is =
    inr (subst IsFirstStore (same_Some t next is) (record { new = e; entry = says.entry; phase = says.phase }))
up_to p cmd (Ends reply) next says is = absurd cc

-- whatever the operation gives, a task before its writes comes no further than to its first store
pub up_to_next : (t next : Task) (word : ℕ) → IsBeforeWrites t.phase → task_after (turn_at t.phase t word) ≡ Some next → IsUpToStore next
up_to_next t next word before is = up_to t.phase t.cmd (turn_at t.phase t word) next (turn_says t.phase t word before refl) is

-- and where it just goes on it stays before them
pub before_next : (t next : Task) (word : ℕ) → IsBeforeWrites t.phase → turn_at t.phase t word ≡ Goes next → IsBeforeWrites next.phase
before_next t next word before is = subst (SaysAt t.phase t.cmd) is (turn_says t.phase t word before refl)
