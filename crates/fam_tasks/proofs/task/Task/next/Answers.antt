use Rattle.std.proofs.Common.{◌≡◌, ℕ, ◌+◌, sym, ap, subst, ◌∙◌}
use Rattle.fam_format.specs.Layout.{gate_line, slot_line}
use Rattle.fam_machine.specs.declared.op.Op.TheVariants.{Invalidate, Store, WriteBack}
use Rattle.fam_machine.specs.Operations.{line_no}
use Rattle.fam_commands.specs.declared.phase.Phase.{Phase}
use Rattle.fam_commands.specs.declared.phase.Phase.TheVariants as at
use Rattle.fam_commands.specs.Task.{Task, op_at, op_of}
use Rattle.fam_tasks.specs.Model.{task_of}
use Rattle.fam_tasks.specs.Sound.{IsSoundAt}
use Rattle.fam_tasks.proofs.Slots.{slot_small}
use Rattle.fam_tasks.proofs.task.Task.next.Goals as goal

-- the operation of a phase
op_in : (t u : Task) (p : Phase) → t ≡ u → t.phase ≡ p → op_at u p ≡ op_of u
op_in t u p view is = ap (op_at u) (sym is ∙ ap (λ (x : Task). x.phase) view)

pub line_of_slot-requires : goal.line_of_slot-requires
line_of_slot-requires c =
    let t : Task = task_of c.self.inside in
    let stands : IsSoundAt (at.SendSlot c.in-SendSlot.line) t = subst (λ (p : Phase). IsSoundAt p t) c.in-SendSlot.is c.self.invariant.sound.stands in
    slot_small t.params t.gate c.in-SendSlot.line stands.0.found.super.sound stands.0.room stands.1

pub returns-in-DropMagic-clause-op : goal.returns-in-DropMagic-clause-op
returns-in-DropMagic-clause-op c = op_in (task_of c.self.inside) c.args.self.now at.DropMagic c.self.view_is c.in-DropMagic.is

pub returns-in-Magic-clause-op : goal.returns-in-Magic-clause-op
returns-in-Magic-clause-op c = op_in (task_of c.self.inside) c.args.self.now at.Magic c.self.view_is c.in-Magic.is

pub returns-in-DropGate-clause-op : goal.returns-in-DropGate-clause-op
returns-in-DropGate-clause-op c = op_in (task_of c.self.inside) c.args.self.now at.DropGate c.self.view_is c.in-DropGate.is

pub returns-in-Gate-clause-op : goal.returns-in-Gate-clause-op
returns-in-Gate-clause-op c = op_in (task_of c.self.inside) c.args.self.now at.Gate c.self.view_is c.in-Gate.is

pub returns-in-SendGate-clause-op : goal.returns-in-SendGate-clause-op
returns-in-SendGate-clause-op c = op_in (task_of c.self.inside) c.args.self.now at.SendGate c.self.view_is c.in-SendGate.is

pub returns-in-StoreData-clause-op : goal.returns-in-StoreData-clause-op
returns-in-StoreData-clause-op c = c.data_store.ensures.op

pub returns-in-StoreData-clause-within : goal.returns-in-StoreData-clause-within
returns-in-StoreData-clause-within c = c.data_store.ensures.within

pub returns-in-StoreSlot-clause-op : goal.returns-in-StoreSlot-clause-op
returns-in-StoreSlot-clause-op c = c.slot_store.ensures.op

pub returns-in-StoreSlot-clause-within : goal.returns-in-StoreSlot-clause-within
returns-in-StoreSlot-clause-within c = c.slot_store.ensures.within

pub returns-in-Drop-clause-op : goal.returns-in-Drop-clause-op
returns-in-Drop-clause-op c =
    ap (λ (l : ℕ). Invalidate (line_no l)) c.part_line.ensures.line ∙ op_in (task_of c.self.inside) c.args.self.now (at.Drop c.in-Drop.part c.in-Drop.line) c.self.view_is c.in-Drop.is

pub returns-in-Drop-clause-within : goal.returns-in-Drop-clause-within
returns-in-Drop-clause-within c = c.part_line.ensures.within

pub returns-in-SendData-clause-op : goal.returns-in-SendData-clause-op
returns-in-SendData-clause-op c =
    ap (λ (l : ℕ). Invalidate (line_no l)) c.file_line.ensures.line ∙ op_in (task_of c.self.inside) c.args.self.now (at.SendData c.in-SendData.line) c.self.view_is c.in-SendData.is

pub returns-in-SendData-clause-within : goal.returns-in-SendData-clause-within
returns-in-SendData-clause-within c = c.file_line.ensures.within

pub returns-in-SendSlot-clause-op : goal.returns-in-SendSlot-clause-op
returns-in-SendSlot-clause-op c =
    ap (λ (l : ℕ). WriteBack (line_no l)) (c.line_of_slot.ensures ∙ ap (λ (u : Task). slot_line u.params u.gate c.in-SendSlot.line) c.self.view_is)
    ∙ op_in (task_of c.self.inside) c.args.self.now (at.SendSlot c.in-SendSlot.line) c.self.view_is c.in-SendSlot.is

pub returns-in-StoreGate-clause-op : goal.returns-in-StoreGate-clause-op
returns-in-StoreGate-clause-op c =
    ap (λ (u : Task). Store (line_no gate_line) 0 (u.gate + 1)) c.self.view_is ∙ op_in (task_of c.self.inside) c.args.self.now at.StoreGate c.self.view_is c.in-StoreGate.is
