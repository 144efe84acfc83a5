-- A host keeps what was settled at its task's mark.
use Rattle.std.proofs.Common.{ℕ, ◌≡◌, Some, inl, inr, sym, ap, subst, ◌∙◌}
use Rattle.std.proofs.lemmas.Option.{same_Some}
use Rattle.fam_commands.specs.declared.phase.Phase.{Phase}
use Rattle.fam_commands.specs.declared.phase.Phase.TheVariants as at
use Rattle.fam_commands.specs.Stands.{task_after}
use Rattle.fam_commands.specs.Turns.{Turn, Goes, Marks, Finds, Writes, Ends, turn_at}
use Rattle.fam_protocol.specs.After.{Run, HasMarked, IsMarked}
use Rattle.fam_protocol.specs.Steps.{run_after}
use Rattle.fam_protocol.proofs.Settled.FromMark.{from_mark}

-- a run whose task, behind its mark, has what was settled then
abbrev pub KeepsMark : Run → Type 0
KeepsMark r = HasMarked r.task.phase → IsMarked r.floor

module _ (r q : Run) (settled : ℕ) where
  -- a task that goes on keeps it, or has marked just now
  keeps : (turn : Turn) → run_after turn settled r ≡ Some q → IsMarked r.floor → IsMarked q.floor
  keeps (Goes t) is marked = subst (λ (x : Run). IsMarked x.floor) (same_Some (record r { task = t }) q is) marked
  keeps (Marks t) is marked = subst (λ (x : Run). IsMarked x.floor) (same_Some (record r { task = t; floor = Some settled }) q is) tt
  keeps (Finds n t) is marked = subst (λ (x : Run). IsMarked x.floor) (same_Some (record r { task = t }) q is) marked
  keeps (Writes seq e t) is marked = subst (λ (x : Run). IsMarked x.floor) (same_Some _ q is) marked
  keeps (Ends reply) is marked = absurd cc

  goes_on : (turn : Turn) → run_after turn settled r ≡ Some q → task_after turn ≡ Some q.task
  goes_on (Goes t) is = ap (λ (x : Run). Some x.task) (same_Some (record r { task = t }) q is)
  goes_on (Marks t) is = ap (λ (x : Run). Some x.task) (same_Some (record r { task = t; floor = Some settled }) q is)
  goes_on (Finds n t) is = ap (λ (x : Run). Some x.task) (same_Some (record r { task = t }) q is)
  goes_on (Writes seq e t) is = ap (λ (x : Run). Some x.task) (same_Some _ q is)
  goes_on (Ends reply) is = absurd cc

  pub mark_kept : (p : Phase) (word : ℕ) → (HasMarked p → IsMarked r.floor) → run_after (turn_at p r.task word) settled r ≡ Some q → KeepsMark q
  mark_kept p word marked is has =
      elim (from_mark p r.task q.task word (goes_on (turn_at p r.task word) is) has) [
        | inl past ↦ keeps (turn_at p r.task word) is (marked past)
        | inr drops ↦
            let marks : run_after (turn_at at.DropGate r.task word) settled r ≡ Some q = ap (λ (x : Phase). run_after (turn_at x r.task word) settled r) (sym drops) ∙ is in
            subst (λ (x : Run). IsMarked x.floor) (same_Some _ q marks) tt
      ]
