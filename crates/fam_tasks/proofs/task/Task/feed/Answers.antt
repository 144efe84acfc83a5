use Rattle.std.proofs.Common.{refl, sym, ap, ◌∙◌}
use Rattle.fam_commands.specs.Task.{Task}
use Rattle.fam_commands.specs.declared.phase.Phase.TheVariants as at
use Rattle.fam_tasks.proofs.Feeding.{alike_told, fed_told, goes_kept, told_own}
use Rattle.fam_tasks.proofs.Keeping.{feeds_keeps, go_keeps}
use Rattle.fam_tasks.proofs.task.Task.feed.Goals as goal

pub returns-in-DropMagic-clause-turn : goal.returns-in-DropMagic-clause-turn
returns-in-DropMagic-clause-turn c =
    alike_told c.args.self.now c.drop_magic.new.self c.args.word at.DropMagic c.drop_magic.result (ap (λ (t : Task). t.phase) (sym c.self.view_is) ∙ c.in-DropMagic.is) (λ w. refl) c.drop_magic.ensures

pub returns-in-DropMagic-clause-kept : goal.returns-in-DropMagic-clause-kept
returns-in-DropMagic-clause-kept c =
    feeds_keeps c.args.self.now c.drop_magic.new.self c.args.word c.requires
    (goes_kept c.args.self.now c.drop_magic.new.self at.DropMagic at.Magic c.drop_magic.result
    (ap (λ (t : Task). t.phase) (sym c.self.view_is) ∙ c.in-DropMagic.is) refl c.drop_magic.ensures)

pub returns-in-DropMagic-clause-own : goal.returns-in-DropMagic-clause-own
returns-in-DropMagic-clause-own c =
    λ line. told_own _ c.drop_magic.result c.drop_magic.new.self line c.drop_magic.ensures

pub returns-in-FenceSlot-clause-turn : goal.returns-in-FenceSlot-clause-turn
returns-in-FenceSlot-clause-turn c =
    alike_told c.args.self.now c.fence_slot.new.self c.args.word at.FenceSlot c.fence_slot.result (ap (λ (t : Task). t.phase) (sym c.self.view_is) ∙ c.in-FenceSlot.is) (λ w. refl) c.fence_slot.ensures

pub returns-in-FenceSlot-clause-kept : goal.returns-in-FenceSlot-clause-kept
returns-in-FenceSlot-clause-kept c =
    feeds_keeps c.args.self.now c.fence_slot.new.self c.args.word c.requires
    (goes_kept c.args.self.now c.fence_slot.new.self at.FenceSlot at.StoreGate c.fence_slot.result
    (ap (λ (t : Task). t.phase) (sym c.self.view_is) ∙ c.in-FenceSlot.is) refl c.fence_slot.ensures)

pub returns-in-FenceSlot-clause-own : goal.returns-in-FenceSlot-clause-own
returns-in-FenceSlot-clause-own c =
    λ line. told_own _ c.fence_slot.result c.fence_slot.new.self line c.fence_slot.ensures

pub returns-in-SendGate-clause-turn : goal.returns-in-SendGate-clause-turn
returns-in-SendGate-clause-turn c =
    alike_told c.args.self.now c.send_gate.new.self c.args.word at.SendGate c.send_gate.result (ap (λ (t : Task). t.phase) (sym c.self.view_is) ∙ c.in-SendGate.is) (λ w. refl) c.send_gate.ensures

pub returns-in-SendGate-clause-kept : goal.returns-in-SendGate-clause-kept
returns-in-SendGate-clause-kept c =
    feeds_keeps c.args.self.now c.send_gate.new.self c.args.word c.requires
    (goes_kept c.args.self.now c.send_gate.new.self at.SendGate at.FenceGate c.send_gate.result
    (ap (λ (t : Task). t.phase) (sym c.self.view_is) ∙ c.in-SendGate.is) refl c.send_gate.ensures)

pub returns-in-SendGate-clause-own : goal.returns-in-SendGate-clause-own
returns-in-SendGate-clause-own c =
    λ line. told_own _ c.send_gate.result c.send_gate.new.self line c.send_gate.ensures

pub returns-in-Magic-clause-turn : goal.returns-in-Magic-clause-turn
returns-in-Magic-clause-turn c =
    fed_told c.args.self.now c.load_magic.new.self c.args.word at.Magic c.load_magic.result c.unwrap_or-word.result
    (ap (λ (t : Task). t.phase) (sym c.self.view_is) ∙ c.in-Magic.is) c.unwrap_or-word.ensures c.load_magic.ensures.turn

pub returns-in-Magic-clause-kept : goal.returns-in-Magic-clause-kept
returns-in-Magic-clause-kept c =
    feeds_keeps c.args.self.now c.load_magic.new.self c.args.word c.requires c.load_magic.ensures.kept

pub returns-in-Magic-clause-own : goal.returns-in-Magic-clause-own
returns-in-Magic-clause-own c =
    λ line. told_own _ c.load_magic.result c.load_magic.new.self line c.load_magic.ensures.turn

pub returns-in-Gate-clause-turn : goal.returns-in-Gate-clause-turn
returns-in-Gate-clause-turn c =
    fed_told c.args.self.now c.load_gate.new.self c.args.word at.Gate c.load_gate.result c.unwrap_or-word.result
    (ap (λ (t : Task). t.phase) (sym c.self.view_is) ∙ c.in-Gate.is) c.unwrap_or-word.ensures c.load_gate.ensures.turn

pub returns-in-Gate-clause-kept : goal.returns-in-Gate-clause-kept
returns-in-Gate-clause-kept c =
    feeds_keeps c.args.self.now c.load_gate.new.self c.args.word c.requires c.load_gate.ensures.kept

pub returns-in-Gate-clause-own : goal.returns-in-Gate-clause-own
returns-in-Gate-clause-own c =
    λ line. told_own _ c.load_gate.result c.load_gate.new.self line c.load_gate.ensures.turn

pub returns-in-Word-clause-turn : goal.returns-in-Word-clause-turn
returns-in-Word-clause-turn c =
    fed_told c.args.self.now c.load_word.new.self c.args.word (at.Word c.in-Word.part c.in-Word.line c.in-Word.k) c.load_word.result
    c.unwrap_or-word.result (ap (λ (t : Task). t.phase) (sym c.self.view_is) ∙ c.in-Word.is) c.unwrap_or-word.ensures c.load_word.ensures.turn

pub returns-in-Word-clause-kept : goal.returns-in-Word-clause-kept
returns-in-Word-clause-kept c =
    feeds_keeps c.args.self.now c.load_word.new.self c.args.word c.requires c.load_word.ensures.kept

pub returns-in-Word-clause-own : goal.returns-in-Word-clause-own
returns-in-Word-clause-own c =
    λ line. told_own _ c.load_word.result c.load_word.new.self line c.load_word.ensures.turn

pub returns-in-DropGate-clause-turn : goal.returns-in-DropGate-clause-turn
returns-in-DropGate-clause-turn c =
    fed_told c.args.self.now c.mark.new.self c.args.word at.DropGate c.mark.result c.unwrap_or-word.result
    (ap (λ (t : Task). t.phase) (sym c.self.view_is) ∙ c.in-DropGate.is) c.unwrap_or-word.ensures (c.mark.ensures.turn, c.mark.ensures.new)

pub returns-in-DropGate-clause-kept : goal.returns-in-DropGate-clause-kept
returns-in-DropGate-clause-kept c =
    feeds_keeps c.args.self.now c.mark.new.self c.args.word c.requires (ap (λ (t : Task). t.kept) c.mark.ensures.new)

pub returns-then-reads_on-clause-kept : goal.returns-then-reads_on-clause-kept
returns-then-reads_on-clause-kept c =
    go_keeps c.args.self.now c.read_on.new.self c.args.word c.read_on.ensures
