use Rattle.std.proofs.Common.{◌≡◌, ap, subst, ◌∙◌, arith}
use Rattle.fam_commands.specs.declared.phase.Phase.{Phase}
use Rattle.fam_commands.specs.declared.phase.Phase.TheVariants as at
use Rattle.fam_commands.specs.Task.{Task}
use Rattle.fam_tasks.specs.Model.{task_of}
use Rattle.fam_tasks.specs.Sound.{IsSoundAt}
use Rattle.fam_tasks.proofs.Slots.{slot_small, word_within}
use Rattle.fam_tasks.proofs.task.Task.slot_store.Goals as goal

pub at-value-requires : goal.at-value-requires
at-value-requires c =
    let t : Task = task_of c.self.inside in
    let phase : t.phase ≡ at.StoreSlot c.args.line c.args.word = ap (λ (u : Task). u.phase) c.self.view_is ∙ c.requires in
    let stands : IsSoundAt (at.StoreSlot c.args.line c.args.word) t = subst (λ (p : Phase). IsSoundAt p t) phase c.self.invariant.sound.stands in
    omega (arith, word_within t.params c.args.line c.args.word stands.1 stands.2, stands.0.words)

pub line_of_slot-requires : goal.line_of_slot-requires
line_of_slot-requires c =
    let t : Task = task_of c.self.inside in
    let phase : t.phase ≡ at.StoreSlot c.args.line c.args.word = ap (λ (u : Task). u.phase) c.self.view_is ∙ c.requires in
    let stands : IsSoundAt (at.StoreSlot c.args.line c.args.word) t = subst (λ (p : Phase). IsSoundAt p t) phase c.self.invariant.sound.stands in
    slot_small t.params t.gate c.args.line stands.0.found.super.sound stands.0.room stands.1
