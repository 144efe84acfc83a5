use Rattle.std.proofs.Common.{◌≡◌, ◌≤◌, length, Option, nat_lt, refl, sym, ap, subst, ◌∙◌, arith}
use Rattle.fam_commands.specs.declared.phase.Phase.{Phase}
use Rattle.fam_commands.specs.declared.phase.Phase.TheVariants as at
use Rattle.fam_commands.specs.Kept.{IsKept}
use Rattle.fam_commands.specs.Task.{Task}
use Rattle.fam_fsck.specs.Scan.{Scan}
use Rattle.fam_replay.specs.Replay.{entries_in}
use Rattle.fam_tasks.specs.Commands.{slots_told}
use Rattle.fam_tasks.specs.Invariant.{HasLooked, IsInvariantAt}
use Rattle.fam_tasks.specs.Model.{task_of}
use Rattle.fam_tasks.specs.Sound.{HasValidGate, IsSoundAt}
use Rattle.fam_tasks.specs.Survey.{added_in, IsScanFor}
use Rattle.fam_tasks.specs.declared.task.Task.TheInside.{Inside}
use Rattle.fam_tasks.proofs.Begun.{begun_sound, uses_none, uses_nothing}
use Rattle.fam_tasks.proofs.GateTurns.{gate_finds, gate_goes}
use Rattle.fam_tasks.proofs.Phases.{held_by, next_phase, same_super}
use Rattle.fam_tasks.proofs.task.Task.begin_slots.Goals as goal
use Rattle.fam_tasks.proofs.task.Task.begin_slots.Goals.{then-appends, else-appends}

pub returns-clause-turn : goal.returns-clause-turn
returns-clause-turn c =
    let t : Task = task_of c.self.inside in
    let list = entries_in c.begin_history-first.new.history.replay in
    let count : c.begin_history-first.result ≡ length list = c.begin_history-first.ensures.count ∙ sym (ap length c.begin_history-first.ensures.entries) in
    let phase : c.slot_or_decide-self-inside.result ≡ next_phase (length list) (slots_told t.cmd t.params c.args.gate) =
    c.slot_or_decide-self-inside.ensures ∙ ap (λ n. next_phase c.begin_history-first.result n) c.slots_told.ensures ∙ ap (λ i. next_phase i (slots_told t.cmd t.params c.args.gate)) count in
    rw (← c.self.view_is)
    (elim c.if-appends.branch [
      | then-appends w ↦ gate_finds t c.args.gate c.slot_or_decide-self-inside.result c.begin_history-first.new.history.kept list c.if-appends.result
          c.begin_history-first.ensures.kept c.begin_history-first.ensures.entries phase w.if-appends.ensures.writer w.result-is
      | else-appends w ↦ gate_goes t c.args.gate c.slot_or_decide-self-inside.result c.begin_history-first.new.history.kept list c.if-appends.result
          c.begin_history-first.ensures.kept c.begin_history-first.ensures.entries phase w.if-appends.ensures.reader w.result-is
    ])

pub invariant_of-self : goal.invariant_of-self
invariant_of-self c =
    let t : Task = task_of c.self.inside in
    let begins = c.begin_history-first.ensures in
    let u : Inside = record c.self.inside { phase = c.slot_or_decide-self-inside.result; gate = c.args.gate; history = c.begin_history-first.new.history } in
    let sound = c.self.invariant.sound in
    let at_gate : c.self.inside.phase ≡ at.Gate = ap (λ (u : Task). u.phase) c.self.view_is ∙ c.requires.phase in
    let held : IsInvariantAt at.Gate c.self.inside = subst (λ (p : Phase). IsInvariantAt p c.self.inside) at_gate c.self.invariant.held in
    let stands : IsSoundAt at.Gate t = subst (λ (p : Phase). IsSoundAt p t) at_gate sound.stands in
    let i = c.begin_history-first.result in
    let n = c.slots_told.result in
    let told : n ≡ slots_told c.self.inside.cmd c.self.inside.params c.args.gate = c.slots_told.ensures in
    let within : i ≤ n = omega (arith, begins.within, told) in
    let phase : c.slot_or_decide-self-inside.result ≡ next_phase i n = c.slot_or_decide-self-inside.ensures in
    let valid : HasValidGate (task_of u) = record {
      super = same_super t (task_of u) refl refl stands.0;
      gate = omega (arith, c.requires.within, ap (λ (x : Task). x.params.slots) c.self.view_is);
    } in
    let looked : HasLooked i u = record {
      replay = begins.fits;
      scan = subst (λ (s : Option Scan). IsScanFor c.self.inside.params c.args.gate s) (sym held.scan) tt;
      entries = λ _. ap length begins.entries ∙ sym begins.count;
      slots = λ fsck. ap added_in held.scan ∙ sym (ap length (uses_none c.self.inside.cmd c.self.inside.history.kept c.self.inside.params c.args.gate fsck)) ∙ sym begins.count;
    } in
    record {
      sound = record {
        command = sound.command;
        least = sound.least;
        most = sound.most;
        stands = subst (λ (p : Phase). IsSoundAt p (task_of u)) (sym phase) (begun_sound (task_of u) i n (nat_lt i n) refl told valid stands.1);
        kept = subst IsKept (sym begins.kept) sound.kept;
      };
      held = subst (λ (p : Phase). IsInvariantAt p u) (sym phase) (held_by u i n (nat_lt i n) told refl within looked (λ _ _ none some.
          absurd (omega (arith, some, ap length (begins.entries ∙ uses_nothing c.self.inside.cmd c.self.inside.history.kept c.self.inside.params c.args.gate (sym begins.kept ∙ none))))));
    }
