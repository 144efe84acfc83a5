use Rattle.std.proofs.Common.{◌≡◌, ◌+◌, ◌∷◌, [], ℕ, Bool, false, cond, Option, length, length-append, ap, sym, subst, ◌∙◌}
use Rattle.fam_format.specs.declared.faults.Reason.{Reason}
use Rattle.fam_replay.specs.Replay.{entries_in, ReadsNext}
use Rattle.fam_replay.specs.Replica.{FindsNext}
use Rattle.fam_commands.specs.declared.phase.Phase.{Phase}
use Rattle.fam_commands.specs.declared.phase.Phase.TheVariants as at
use Rattle.fam_commands.specs.Classes.{is_fsck}
use Rattle.fam_commands.specs.Task.{Task}
use Rattle.fam_tasks.specs.declared.task.Task.TheInside.{Inside}
use Rattle.fam_tasks.specs.Commands.{slots_told}
use Rattle.fam_tasks.specs.Invariant.{HasLooked, IsInvariantAt}
use Rattle.fam_tasks.proofs.SlotTurns.{behind_slot}
use Rattle.fam_tasks.proofs.task.Task.read_slot.Goals as goal

pub invariant_of-self-in-None : goal.invariant_of-self-in-None
invariant_of-self-in-None c =
    let t : Inside = c.self.inside in
    let old = entries_in t.history.replay in
    let phase : t.phase ≡ at.Check c.args.slot = ap (λ (u : Task). u.phase) c.self.view_is ∙ c.requires.phase in
    let other : is_fsck t.cmd ≡ false = ap (λ (u : Task). is_fsck u.cmd) c.self.view_is ∙ c.requires.other in
    let held : HasLooked c.args.slot t = subst (λ (p : Phase). IsInvariantAt p t) phase c.self.invariant.held in
    let told : t.gate ≡ slots_told t.cmd t.params t.gate = sym (ap (λ (b : Bool). cond b t.params.slots t.gate) other) in
    let found : FindsNext t.params c.as_slice-words.result.now old (entries_in c.read_slot_of.new.self.replay) =
    subst (λ (r : Option Reason). ReadsNext r t.params c.as_slice-words.result.now old (entries_in c.read_slot_of.new.self.replay)) c.in-None.is c.in_ok-reason.ensures.reads in
    behind_slot t c.args.slot t.gate c.slot_or_decide-self-inside.result c.read_slot_of.new.self t.scan c.clear.new.self c.self.invariant phase
    c.slot_or_decide-self-inside.ensures told c.in_ok-reason.ensures.kept c.clear.ensures
    (record {
      replay = c.in_ok-reason.ensures.fits;
      scan = held.scan;
      entries = λ _. ap length found.added ∙ length-append old (found.entry ∷ []) ∙ ap (λ (n : ℕ). n + 1) (held.entries other);
      slots = λ fsck. absurd cc;
    })
    (λ last plays. c.in_ok-reason.ensures.hand (c.plays_out-last.ensures.all plays last) c.in-None.is)
