-- What a task with all slots read says and keeps, by its command.
use Rattle.std.proofs.Common.{ℕ, ◌≡◌, true, false, List, length, Option, None, Some, Result, Ok, Err, refl, sym, ap, subst, ◌∙◌, inl, inr}
use Rattle.std.specs.Prelude.{IfOk, IsSome, OnErr, OnOk, option_map}
use Rattle.fam_base.specs.declared.cmd.Cmd.{Cmd}
use Rattle.fam_base.specs.declared.cmd.Cmd.TheVariants.{Logplay, Mount}
use Rattle.fam_base.specs.declared.entry.Entry.{Entry}
use Rattle.fam_format.specs.Tree.{replay}
use Rattle.fam_rules.specs.Decide.{wish_of}
use Rattle.fam_rules.specs.Reply.{Played}
use Rattle.fam_commands.specs.Classes.{class_of, Appends, Replays, is_fsck}
use Rattle.fam_commands.specs.Keeping.{kept_after, read_by}
use Rattle.fam_commands.specs.Kept.{IsKept, Kept}
use Rattle.fam_commands.specs.Task.{Task}
use Rattle.fam_commands.specs.Turns as turns
use Rattle.fam_commands.specs.Turns.{decide_turn, turn_at, turn_of}
use Rattle.fam_commands.specs.declared.phase.Phase.{Phase}
use Rattle.fam_commands.specs.declared.phase.Phase.TheVariants as at
use Rattle.fam_commands.proofs.TurnTells as told
use Rattle.fam_commands.proofs.TurnTells.{turn_tells}
use Rattle.fam_replay.specs.Replay.{entries_in, IsReplayOf}
use Rattle.fam_replay.specs.Replica.{ReplicaState}
use Rattle.fam_tasks.specs.declared.answer.Turn.{Turn}
use Rattle.fam_tasks.specs.declared.task.Task.TheInside.{Inside}
use Rattle.fam_tasks.specs.Commands.{is_logplay, slots_told}
use Rattle.fam_tasks.specs.History.{HistoryState}
use Rattle.fam_tasks.specs.Invariant.{HasLooked, IsInvariantAt, IsTask}
use Rattle.fam_tasks.specs.Model.{task_of}
use Rattle.fam_tasks.specs.Sound.{IsSound, IsSoundAt}
use Rattle.fam_tasks.specs.Tells.{Keeps, Leaves, Tells, WantsMemory}
use Rattle.fam_tasks.proofs.Keeping.{done_so, keeps_other}
use Rattle.fam_tasks.proofs.Phases.{same_gate}

-- what holds anyhow holds where something failed
failed_so : {T E : Type 0} {P : Type 0} (r : Result T E) → P → OnErr r P
failed_so (Ok x) p = tt
failed_so (Err e) p = p

-- its turn is that of its command
pub decided : (t : Task) (cmd : Cmd) → t.phase ≡ at.Decide → t.cmd ≡ cmd → turn_of t None ≡ decide_turn cmd t
decided t cmd phase is = ap (λ (p : Phase). turn_at p t 0) phase ∙ ap (λ (x : Cmd). decide_turn x t) is

-- so what is told of that turn is told of this one
pub decision_told : {E : Type 0} (r : Result Turn E) (t new : Task) (cmd : Cmd) → t.phase ≡ at.Decide → t.cmd ≡ cmd
    → IfOk r (λ turn. Tells (decide_turn cmd t) turn new) → IfOk r (λ turn. Tells (turn_of t None) turn new)
decision_told r t new cmd phase is = subst (λ (said : turns.Turn). IfOk r (λ turn. Tells said turn new)) (sym (decided t cmd phase is))

-- so what it wants of memory
pub decision_wants : {T E : Type 0} (r : Result T E) (t : Task) (cmd : Cmd) → t.phase ≡ at.Decide → t.cmd ≡ cmd → OnErr r (WantsMemory t (decide_turn cmd t)) → OnErr r (WantsMemory t (turn_of t None))
decision_wants r t cmd phase is = subst (λ (said : turns.Turn). OnErr r (WantsMemory t said)) (sym (decided t cmd phase is))

-- and so what is kept
pub decision_keeps : {T E : Type 0} (r : Result T E) (t new : Task) (cmd : Cmd) → t.phase ≡ at.Decide → t.cmd ≡ cmd → OnOk r (Keeps t (decide_turn cmd t) new) → OnOk r (Keeps t (turn_of t None) new)
decision_keeps r t new cmd phase is = subst (λ (said : turns.Turn). OnOk r (Keeps t said new)) (sym (decided t cmd phase is))

appends_no_replay : Appends ≡ Replays → ⊥
appends_no_replay is = cc

-- a command that appends keeps what was kept
pub append_keeps : {T E : Type 0} (r : Result T E) (t new : Task) (cmd : Cmd) → t.cmd ≡ cmd → class_of cmd ≡ Appends → new.kept ≡ t.kept → OnOk r (Keeps t (turn_of t None) new)
append_keeps r t new cmd is appends kept =
    done_so r (kept ∙ sym (keeps_other t None (λ class. appends_no_replay (sym appends ∙ ap class_of (sym is) ∙ class))))

-- A task that has decided goes on with the same entries.
pub decided_task : (t : Inside) (h : HistoryState) → IsTask t → t.phase ≡ at.Decide → is_logplay t.cmd ≡ false → IsReplayOf t.params t.gate h.replay
    → entries_in h.replay ≡ entries_in t.history.replay → h.kept ≡ t.history.kept → IsTask (record t { history = h })
decided_task t h task phase listless fits same kept =
    let u : Inside = record t { history = h } in
    let held : IsInvariantAt at.Decide t = subst (λ (p : Phase). IsInvariantAt p t) phase task.held in
    let looked : HasLooked (slots_told t.cmd t.params t.gate) t = held.0 in
    record {
      sound =
          subst (λ (list : List Entry). IsSound (record (task_of t) { entries = list; kept = h.kept })) (sym same)
          (subst (λ (k : Option Kept). IsSound (record (task_of t) { kept = k })) (sym kept) task.sound);
      held = subst (λ (p : Phase). IsInvariantAt p u) (sym phase) (
        record {
          replay = fits;
          scan = looked.scan;
          entries = λ other. ap length same ∙ looked.entries other;
          slots = looked.slots;
        },
        λ plays. absurd cc,
      );
    }

-- a command that appends lists no tree
pub wishes_other : (cmd : Cmd) → IsSome (wish_of cmd) → is_logplay cmd ≡ false
wishes_other Logplay is = absurd cc
wishes_other other is = refl

-- A logplay that has answered goes on as a mount, with the same entries.
pub played_task : (t : Inside) (h : HistoryState) → IsTask t → t.phase ≡ at.Decide → t.cmd ≡ Logplay → h.kept ≡ t.history.kept → h.replay ≡ t.history.replay
    → IsTask (record t { history = h; cmd = Mount })
played_task t h task phase plays kept same =
    let u : Inside = record t { history = h; cmd = Mount } in
    let held : IsInvariantAt at.Decide t = subst (λ (p : Phase). IsInvariantAt p t) phase task.held in
    let looked : HasLooked (slots_told t.cmd t.params t.gate) t = held.0 in
    let stands : IsSoundAt at.Decide (task_of t) = subst (λ (p : Phase). IsSoundAt p (task_of t)) phase task.sound.stands in
    let other : is_fsck t.cmd ≡ false = ap is_fsck plays in
    let all : slots_told t.cmd t.params t.gate ≡ t.gate = ap (λ (c : Cmd). slots_told c t.params t.gate) plays in
    record {
      sound = record {
        command = tt;
        least = task.sound.least;
        most = task.sound.most;
        stands = subst (λ (p : Phase). IsSoundAt p (task_of u)) (sym phase) (same_gate (task_of t) (task_of u) refl refl refl stands);
        kept = subst IsKept (sym kept) task.sound.kept;
      };
      held = subst (λ (p : Phase). IsInvariantAt p u) (sym phase) (
        record {
          replay = subst (IsReplayOf t.params t.gate) (sym same) looked.replay;
          scan = looked.scan;
          entries = λ _. ap (λ (r : Option ReplicaState). length (entries_in r)) same ∙ looked.entries other ∙ all;
          slots = λ fsck. absurd cc;
        },
        λ lists. absurd cc,
      );
    }

-- What a task has left behind its turn: only a logplay leaves anything.

leaves_by : (t new : Task) (p : Phase) (turn : turns.Turn) → told.Tells t p turn → (class_of t.cmd ≡ Replays → ⊥) → Leaves t turn new
leaves_by t new p (turns.Ends (Played m tree)) tells other = absurd (other tells.class)
leaves_by t new p turn tells other = tt

-- so a command of another class
pub class_leaves : {T E : Type 0} (r : Result T E) (t new : Task) → (class_of t.cmd ≡ Replays → ⊥) → OnOk r (Leaves t (turn_of t None) new)
class_leaves r t new other = done_so r (leaves_by t new t.phase (turn_of t None) (turn_tells t.phase t 0) other)

-- what is left behind the turn of its command is left behind this one
pub decision_leaves : {T E : Type 0} (r : Result T E) (t new : Task) (cmd : Cmd) → t.phase ≡ at.Decide → t.cmd ≡ cmd
    → OnOk r (Leaves t (decide_turn cmd t) new) → OnOk r (Leaves t (turn_of t None) new)
decision_leaves r t new cmd phase is = subst (λ (said : turns.Turn). OnOk r (Leaves t said new)) (sym (decided t cmd phase is))

pub append_leaves : {T E : Type 0} (r : Result T E) (t new : Task) (cmd : Cmd) → t.cmd ≡ cmd → class_of cmd ≡ Appends → OnOk r (Leaves t (turn_of t None) new)
append_leaves r t new cmd is appends =
    class_leaves r t new (λ class. appends_no_replay (sym appends ∙ ap class_of (sym is) ∙ class))

-- A logplay of a host that keeps something.
module _ {T E : Type 0} (r : Result T E) (t : Task) where
  of_some : (o : Option Kept) → IsSome o → option_map (λ (k : Kept). read_by t) o ≡ Some (read_by t)
  of_some None is = absurd cc
  of_some (Some k) is = refl

  pub played_keeps : (new : Task) → IsSome t.kept → OnOk r (new.kept ≡ Some (read_by t)) → OnOk r (Keeps t (decide_turn Logplay t) new)
  played_keeps new some = subst (λ (o : Option Kept). OnOk r (new.kept ≡ o)) (sym (of_some t.kept some))

  pub played_leaves : (new : Task) → IsSome t.kept → OnOk r (Leaves t (decide_turn Logplay t) new)
  played_leaves new some = done_so r (λ none. let bad : IsSome {T = Kept} None = subst IsSome none some in absurd cc)

  pub played_wants : IsSome t.kept → OnErr r (WantsMemory t (decide_turn Logplay t))
  played_wants some = failed_so r (inr (inl (some, (length t.entries, (replay t.entries, refl)))))

-- a task that doesn't decide leaves nothing
phase_leaves : (t new : Task) (p : Phase) (turn : turns.Turn) → told.Tells t p turn → (p ≡ at.Decide → ⊥) → Leaves t turn new
phase_leaves t new p (turns.Ends (Played m tree)) tells other = absurd (other tells.phase)
phase_leaves t new p turn tells other = tt

pub leaves_nothing : {T E : Type 0} (r : Result T E) (t new : Task) → (t.phase ≡ at.Decide → ⊥) → OnOk r (Leaves t (turn_of t None) new)
leaves_nothing r t new other = done_so r (phase_leaves t new t.phase (turn_of t None) (turn_tells t.phase t 0) other)
