use Rattle.std.proofs.Common.{◌≡◌, ◌<◌, ap, sym, subst, ◌∙◌}
use Rattle.std.specs.Prelude.{IsSome}
use Rattle.fam_format.specs.Slot.{Proper}
use Rattle.fam_rules.specs.Decide.{wish_of}
use Rattle.fam_commands.specs.declared.phase.Phase.TheVariants as at
use Rattle.fam_commands.specs.Task.{Task}
use Rattle.fam_tasks.specs.declared.task.Task.TheInside.{Inside}
use Rattle.fam_tasks.proofs.SlotTurns.{first_stores}
use Rattle.fam_tasks.proofs.task.Task.write.Goals as goal

pub invariant_of-self : goal.invariant_of-self
invariant_of-self c =
    let t : Inside = c.self.inside in
    let phase : t.phase ≡ at.Decide = ap (λ (u : Task). u.phase) c.self.view_is ∙ c.requires.phase in
    first_stores t c.args.entry.now c.first_store-self-inside.result c.hold.new.self c.in_ok-self-inside.field-0 c.self.invariant phase
    (subst (λ (u : Task). IsSome (wish_of u.cmd)) (sym c.self.view_is) c.requires.wish)
    (subst (λ (u : Task). u.gate < u.params.slots) (sym c.self.view_is) c.requires.room)
    (subst (λ (u : Task). Proper u.params c.args.entry.now) (sym c.self.view_is) c.requires.proper)
    c.first_store-self-inside.ensures
    (c.hold.ensures ∙ c.words.ensures.same ∙ c.spell-slot.ensures)
    c.in_ok-self-inside.ensures.content c.in_ok-self-inside.ensures.taken c.in_ok-self-inside.ensures.line
