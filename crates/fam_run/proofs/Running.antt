-- A task goes on behind an operation.
use Rattle.std.proofs.Common.{◌≡◌, Some, None, sym, ap, subst}
use Rattle.std.specs.Prelude.{unwrap_or}
use Rattle.fam_rules.specs.Reply.{Reply}
use Rattle.fam_machine.specs.Caches.{Cache}
use Rattle.fam_cache.specs.Operations.{word_of}
use Rattle.fam_commands.specs.Stands.{task_after}
use Rattle.fam_commands.specs.Task.{Task, op_of}
use Rattle.fam_commands.specs.Turns as turns
use Rattle.fam_commands.specs.Turns.{Ends, turn_of}
use Rattle.fam_tasks.specs.declared.answer.Turn.{Turn}
use Rattle.fam_tasks.specs.declared.answer.Turn.TheVariants.{Go, Note, Done}
use Rattle.fam_tasks.specs.Sound.{IsSound}
use Rattle.fam_tasks.specs.Tells.{Replies, Tells}
use Rattle.fam_run.specs.Operation.{GoesOn, IsNoFault, KeepsLines, ended}
use Rattle.fam_run.proofs.Left.{Kept, kept, left}

pub no_reply : (turn : Turn) (reply : Reply) → ended turn ≡ None → Replies turn reply → ⊥
no_reply Go reply on replies = replies
no_reply (Note note) reply on replies = replies
no_reply (Done given) reply on replies = absurd cc

-- the definition's turn goes on as the call's does
pub goes_on : (wanted : turns.Turn) (turn : Turn) (new : Task) → ended turn ≡ None → Tells wanted turn new → task_after wanted ≡ Some new
goes_on (Ends reply) turn new on tells = absurd (no_reply turn reply on tells)
goes_on other turn new on tells = ap Some (sym tells.1)

-- no task answers that the media failed
pub no_fault : (wanted : turns.Turn) (turn : Turn) (new : Task) → Tells wanted turn new → IsNoFault turn
no_fault (Ends reply) turn new tells = λ line is. absurd (let none = subst (λ (x : Turn). Replies x reply) is tells in cc)
no_fault other turn new tells = λ line is. absurd (let on = tells.0 in cc)

-- a task that goes on comes nearer to its end
pub kept_on : (held : Cache) (task new : Task) (turn : Turn) → ended turn ≡ None → IsSound task → GoesOn task held turn new → Kept (left task) task new
kept_on held task new turn on sound went =
    kept task new (unwrap_or (word_of (op_of task) held) 0) sound.stands (goes_on (turn_of task (word_of (op_of task) held)) turn new on went)

pub lines_kept : (held : Cache) (task new : Task) (turn : Turn) → IsSound task → GoesOn task held turn new → KeepsLines turn task new
lines_kept held task new turn sound went on = (kept_on held task new turn on sound went).lines
