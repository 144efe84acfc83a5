-- A host keeps what its task named, and the task holds it until it ends.
use Rattle.std.proofs.Common.{ℕ, ◌≡◌, ◌+◌, Some, sym, ap, subst}
use Rattle.std.proofs.lemmas.Option.{same_Some}
use Rattle.fam_commands.specs.declared.phase.Phase.{Phase}
use Rattle.fam_commands.specs.declared.phase.Phase.TheVariants as at
use Rattle.fam_commands.specs.Turns.{Turn, Goes, Marks, Finds, Writes, Ends, turn_at, store_or_send, data_or_slot, slot_or_fence}
use Rattle.fam_protocol.specs.After.{Run, HasNamed, HoldsNamed}
use Rattle.fam_commands.specs.Appends.{IsBeforeWrites}
use Rattle.fam_protocol.specs.Steps.{run_after}
use Rattle.fam_commands.proofs.BeforeWrites.{SaysAt, turn_says}

-- a run whose task, where it writes, holds what it named
abbrev pub KeepsNamed : Run → Type 0
KeepsNamed r = HasNamed r.task.phase → HoldsNamed r.task r.named

-- nothing is named before the first store
none_named : (p : Phase) → IsBeforeWrites p → HasNamed p → ⊥
none_named at.DropMagic before has = has
none_named at.Magic before has = has
none_named (at.Drop part j) before has = has
none_named (at.Word part j k) before has = has
none_named at.DropGate before has = has
none_named at.Gate before has = has
none_named (at.Check i) before has = has
none_named at.Decide before has = has
none_named other before has = before

module _ (r q : Run) (settled : ℕ) where
  -- up to the first store a task names nothing, or just now what it holds
  named_first : (p : Phase) (turn : Turn) → SaysAt p r.task.cmd turn → run_after turn settled r ≡ Some q → KeepsNamed q
  named_first p (Goes t) says is has = absurd (none_named q.task.phase (subst (λ (x : Run). IsBeforeWrites x.task.phase) (same_Some _ q is) says) has)
  named_first p (Marks t) says is has = absurd (none_named q.task.phase (subst (λ (x : Run). IsBeforeWrites x.task.phase) (same_Some _ q is) says) has)
  named_first p (Finds n t) says is has = absurd (none_named q.task.phase (subst (λ (x : Run). IsBeforeWrites x.task.phase) (same_Some _ q is) says) has)
  named_first p (Writes seq e t) says is has =
      subst (λ (x : Run). HoldsNamed x.task x.named) (same_Some _ q is)
      record { entry = e; held = says.entry; is = ap (λ (n : ℕ). Some (record { seq = n; entry = e })) (sym says.gate) }
  named_first p (Ends reply) says is has = absurd (cc)

  named_before : (p : Phase) (word : ℕ) → IsBeforeWrites p → r.task.phase ≡ p → run_after (turn_at p r.task word) settled r ≡ Some q → KeepsNamed q
  named_before p word before at_phase is has = named_first p (turn_at p r.task word) (turn_says p r.task word before at_phase) is has

  -- behind it the task keeps entry and gate
  named_on : HoldsNamed r.task r.named → (p : Phase) → run_after (Goes (record r.task { phase = p })) settled r ≡ Some q → HoldsNamed q.task q.named
  named_on holds p is = subst (λ (x : Run). HoldsNamed x.task x.named) (same_Some _ q is) record { entry = holds.entry; held = holds.held; is = holds.is }

  pub named_kept : (p : Phase) (word : ℕ) → r.task.phase ≡ p → (HasNamed p → HoldsNamed r.task r.named) → run_after (turn_at p r.task word) settled r ≡ Some q → KeepsNamed q
  named_kept (at.StoreData j k) word at_phase holds is has = named_on (holds tt) (store_or_send k (at.StoreData j (k + 1)) (at.SendData j)) is
  named_kept (at.SendData j) word at_phase holds is has = named_on (holds tt) (data_or_slot r.task j) is
  named_kept (at.StoreSlot j k) word at_phase holds is has = named_on (holds tt) (store_or_send k (at.StoreSlot j (k + 1)) (at.SendSlot j)) is
  named_kept (at.SendSlot j) word at_phase holds is has = named_on (holds tt) (slot_or_fence r.task j) is
  named_kept at.StoreGate word at_phase holds is has = named_on (holds tt) at.SendGate is
  named_kept at.FenceSlot word at_phase holds is has = named_on (holds tt) at.StoreGate is
  named_kept at.SendGate word at_phase holds is has = named_on (holds tt) at.FenceGate is
  named_kept at.FenceGate word at_phase holds is has = absurd (cc)
  named_kept e word at_phase holds is has = named_before e word tt at_phase is has
