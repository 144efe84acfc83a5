use Rattle.std.proofs.Common.{◌≡◌, Bool, true, cond, refl, ap, sym, subst, ◌∙◌, ◌+◌, ℕ}
use Rattle.fam_commands.specs.declared.phase.Phase.{Phase}
use Rattle.fam_commands.specs.declared.phase.Phase.TheVariants as at
use Rattle.fam_commands.specs.Classes.{is_fsck}
use Rattle.fam_commands.specs.Task.{Task}
use Rattle.fam_tasks.specs.declared.task.Task.TheInside.{Inside}
use Rattle.fam_tasks.specs.Commands.{slots_told}
use Rattle.fam_tasks.specs.Invariant.{HasLooked, IsInvariantAt}
use Rattle.fam_tasks.proofs.Phases.{surveys_other}
use Rattle.fam_tasks.proofs.SlotTurns.{behind_slot}
use Rattle.fam_tasks.proofs.task.Task.show_slot.Goals as goal

pub invariant_of-self-2 : goal.invariant_of-self-2
invariant_of-self-2 c =
    let t : Inside = c.self.inside in
    let phase : t.phase ≡ at.Check c.args.slot = ap (λ (u : Task). u.phase) c.self.view_is ∙ c.requires.phase in
    let fsck : is_fsck t.cmd ≡ true = ap (λ (u : Task). is_fsck u.cmd) c.self.view_is ∙ c.requires.fsck in
    let held : HasLooked c.args.slot t = subst (λ (p : Phase). IsInvariantAt p t) phase c.self.invariant.held in
    let told : t.params.slots ≡ slots_told t.cmd t.params t.gate = sym (ap (λ (b : Bool). cond b t.params.slots t.gate) fsck) in
    behind_slot t c.args.slot t.params.slots c.slot_or_decide-self-inside.result t.history c.show.new.scan c.clear.new.self c.self.invariant phase
    c.slot_or_decide-self-inside.ensures told refl c.clear.ensures
    (record {
      replay = held.replay;
      scan = c.in_ok-show.ensures.fits;
      entries = λ other. absurd cc;
      slots = λ _. c.in_ok-show.ensures.added ∙ ap (λ (n : ℕ). n + 1) (held.slots fsck);
    })
    (λ last plays. absurd (let other = surveys_other t.cmd fsck in cc))
