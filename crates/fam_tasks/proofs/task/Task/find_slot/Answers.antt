use Rattle.std.proofs.Common.{◌≡◌, List, ℕ, false, sym, ap, subst, ◌∙◌, arith}
use Rattle.fam_format.specs.Layout.{geometry, slot_line}
use Rattle.fam_commands.specs.declared.phase.Part.TheVariants.{Slot}
use Rattle.fam_commands.specs.declared.phase.Phase.TheVariants as at
use Rattle.fam_commands.specs.Classes.{is_fsck}
use Rattle.fam_commands.specs.Task.{Task}
use Rattle.fam_replay.specs.Replay.{entries_in}
use Rattle.fam_replay.specs.Replica.{FindsNext}
use Rattle.fam_tasks.specs.Model.{task_of}
use Rattle.fam_tasks.specs.SlotLines.{FindsSlot, words_in}
use Rattle.fam_tasks.specs.declared.task.Task.TheInside.{Inside}
use Rattle.fam_tasks.proofs.FoundSlots.{flat_all, found_slot}
use Rattle.fam_tasks.proofs.task.Task.find_slot.Goals as goal

pub returns-clause-found : goal.returns-clause-found
returns-clause-found c = λ _.
    let t : Inside = c.self.inside in
    let d = c.args.due in
    let wide : ℕ = (geometry t.params).lines in
    let lines : d.lines ≡ wide = c.requires.lines ∙ ap (λ (u : Task). (geometry u.params).lines) (sym c.self.view_is) in
    let drops : t.phase ≡ at.Drop (Slot d.slot) 0 = ap (λ (u : Task). u.phase) c.self.view_is ∙ c.requires.due in
    let other : is_fsck t.cmd ≡ false = sym c.is_fsck.ensures ∙ c.if-is_fsck.false in
    let first : d.first ≡ slot_line t.params d.slot 0 = c.requires.first ∙ ap (λ (u : Task). slot_line u.params d.slot 0) (sym c.self.view_is) in
    let flat : c.as_flattened-words.result.now ≡ words_in c.args.lines.now wide =
    c.as_flattened-words.ensures.value ∙ flat_all c.args.lines.now wide (c.requires.all ∙ lines) (λ k below. c.told-lines k (omega (arith, below, c.requires.all, lines))) in
    let found : FindsNext t.params (words_in c.args.lines.now wide) (entries_in t.history.replay) (entries_in c.find_slot.new.self.replay) =
    subst (λ (w : List ℕ). FindsNext t.params w (entries_in t.history.replay) (entries_in c.find_slot.new.self.replay)) flat (c.find_slot.ensures.found c.if-not-find_slot.false) in
    let new : Inside = record t { history = c.find_slot.new.self; phase = c.slot_or_decide-self-inside.result } in
    subst (λ (n : ℕ). FindsSlot d.first c.args.lines.now n d.slot c.args.self.now (task_of new)) (sym lines)
    (subst (λ (u : Task). FindsSlot d.first c.args.lines.now wide d.slot u (task_of new)) c.self.view_is
    (found_slot t d.slot d.first c.args.lines.now c.self.invariant drops c.find_slot.new.self c.slot_or_decide-self-inside.result other found
    c.find_slot.ensures.kept c.slot_or_decide-self-inside.ensures first))
