-- What a task keeps behind a turn: what it kept before, but where a logplay or a mount answers.
use Rattle.std.proofs.Common.{ℕ, ◌≡◌, ◌≤◌, true, false, Option, Result, Ok, Err, unwrap_or, refl, sym, ap, subst, ◌∙◌}
use Rattle.std.specs.Prelude.{OnOk}
use Rattle.fam_base.specs.Commands.{IsSoundCmd}
use Rattle.fam_base.specs.declared.cmd.Cmd.{Cmd}
use Rattle.fam_base.specs.declared.cmd.Cmd.TheVariants.{Verify, Read}
use Rattle.fam_format.specs.Layout.{least_lines}
use Rattle.fam_rules.specs.Reply.{Reply, Played, Mounted}
use Rattle.fam_commands.specs.Classes.{class_of, IsRead, IsVerify, Replays}
use Rattle.fam_commands.specs.Keeping.{kept_after, kept_by, read_by}
use Rattle.fam_commands.specs.Kept.{IsKept, Kept}
use Rattle.fam_commands.specs.Task.{Task, op_at, op_of}
use Rattle.fam_commands.specs.Turns as turns
use Rattle.fam_commands.specs.Turns.{turn_of}
use Rattle.fam_commands.specs.declared.phase.Phase.{Phase}
use Rattle.fam_commands.specs.declared.phase.Phase.TheVariants as at
use Rattle.fam_commands.proofs.TurnTells as told
use Rattle.fam_commands.proofs.TurnTells.{ReplyTells, turn_tells}
use Rattle.fam_tasks.specs.declared.answer.Turn.TheVariants.{Go}
use Rattle.fam_tasks.specs.Invariant.{IsInvariantAt, IsTask}
use Rattle.fam_tasks.specs.Model.{task_of}
use Rattle.fam_tasks.specs.Sound.{IsSoundAt, most_lines}
use Rattle.fam_tasks.specs.declared.task.Task.TheInside.{Inside}
use Rattle.fam_tasks.specs.Tells.{Keeps, Tells, is_digest}

-- no logplay or mount decides
abbrev IsOther : Task → Phase → Type 0
IsOther t p = p ≡ at.Decide → class_of t.cmd ≡ Replays → ⊥

reply_keeps : (t : Task) (p : Phase) (reply : Reply) (kept : Option Kept) → ReplyTells t p reply → IsOther t p → kept_by reply (read_by t) kept ≡ kept
reply_keeps t p (Played m tree) kept tells other = absurd (other tells.phase tells.class)
reply_keeps t p (Mounted m) kept tells other = absurd (other tells.phase tells.class)
reply_keeps t p reply kept tells other = refl

turn_keeps : (t : Task) (p : Phase) (turn : turns.Turn) (kept : Option Kept) → told.Tells t p turn → IsOther t p → kept_after turn t kept ≡ kept
turn_keeps t p (turns.Ends reply) kept tells other = reply_keeps t p reply kept tells other
turn_keeps t p rest kept tells other = refl

others_keep : (t : Task) (word : Option ℕ) → IsOther t t.phase → kept_after (turn_of t word) t t.kept ≡ t.kept
others_keep t word other = turn_keeps t t.phase (turn_of t word) t.kept (turn_tells t.phase t (unwrap_or word 0)) other

-- a task that doesn't decide
pub keeps_same : (t : Task) (word : Option ℕ) → (t.phase ≡ at.Decide → ⊥) → kept_after (turn_of t word) t t.kept ≡ t.kept
keeps_same t word not = others_keep t word (λ decides class. not decides)

-- a task that neither lists nor mounts
pub keeps_other : (t : Task) (word : Option ℕ) → (class_of t.cmd ≡ Replays → ⊥) → kept_after (turn_of t word) t t.kept ≡ t.kept
keeps_other t word not = others_keep t word (λ decides class. not class)

-- a task whose next operation is no Digest
pub feeds_keep : (t : Task) (word : Option ℕ) → is_digest (op_of t) ≡ false → kept_after (turn_of t word) t t.kept ≡ t.kept
feeds_keep t word is = keeps_same t word (λ decides. let digest : is_digest (op_of t) ≡ true = ap (λ (p : Phase). is_digest (op_at t p)) decides in absurd cc)

pub feeds_keeps : (t new : Task) (word : Option ℕ) → is_digest (op_of t) ≡ false → new.kept ≡ t.kept → Keeps t (turn_of t word) new
feeds_keeps t new word is same = same ∙ sym (feeds_keep t word is)

-- a task that just goes on
go_by : (t new : Task) (p : Phase) (turn : turns.Turn) → told.Tells t p turn → Tells turn Go new → Keeps t turn new
go_by t new p (turns.Goes next) kept goes = ap (λ (u : Task). u.kept) goes.1 ∙ kept
go_by t new p (turns.Marks next) kept goes = absurd (let is = goes.0 in cc)
go_by t new p (turns.Finds n next) kept goes = absurd (let is = goes.0 in cc)
go_by t new p (turns.Writes seq e next) kept goes = absurd (let is = goes.0 in cc)
go_by t new p (turns.Ends reply) kept goes = absurd goes

pub go_keeps : (t new : Task) (word : Option ℕ) → Tells (turn_of t word) Go new → Keeps t (turn_of t word) new
go_keeps t new word goes = go_by t new t.phase (turn_of t word) (turn_tells t.phase t (unwrap_or word 0)) goes

-- Commands that neither list nor mount.

pub verify_other : (cmd : Cmd) → IsVerify cmd → class_of cmd ≡ Replays → ⊥
verify_other (Verify path against) is class = absurd cc
verify_other cmd is class = absurd is

pub read_other : (cmd : Cmd) → IsRead cmd → class_of cmd ≡ Replays → ⊥
read_other (Read path offset count) is class = absurd cc
read_other cmd is class = absurd is

-- what holds anyhow holds where something was done
pub done_so : {T E : Type 0} {P : Type 0} (r : Result T E) → P → OnOk r P
done_so (Ok x) p = p
done_so (Err e) p = tt

-- A task that has answered: its numbers fit, since it is asked for nothing more.
pub ended_task : (t : Inside) → t.phase ≡ at.FenceGate → IsSoundCmd t.cmd → least_lines ≤ t.lines → t.lines ≤ most_lines → IsKept t.history.kept → IsTask t
ended_task t phase command least most kept = record {
  sound = record {
    command = command;
    least = least;
    most = most;
    stands = subst (λ (p : Phase). IsSoundAt p (task_of t)) (sym phase) tt;
    kept = kept;
  };
  held = subst (λ (p : Phase). IsInvariantAt p t) (sym phase) tt;
}
