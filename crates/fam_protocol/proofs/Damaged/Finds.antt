-- What a task finds on a damaged image: the gate, where a slot is bad.
use Rattle.std.proofs.Common.{ℕ, ◌*◌, ◌≡◌, List, Option, Some, None, refl, sym, ◌∙◌, ap, subst}
use Rattle.std.specs.Prelude.{Ok, slice_index, unwrap_or}
use Rattle.fam_base.specs.declared.entry.Params.{Params}
use Rattle.fam_format.specs.declared.faults.LogFault.{LogFault}
use Rattle.fam_format.specs.declared.faults.Reason.{Reason}
use Rattle.fam_format.specs.Layout.{gate_line}
use Rattle.fam_format.specs.Log.{gate_fault}
use Rattle.fam_format.specs.Reading.{Lines, BadHeader, BadSlot, gate_in, read_below, reading_of, super_in}
use Rattle.fam_commands.specs.declared.phase.Phase.{Phase}
use Rattle.fam_commands.specs.declared.phase.Phase.TheVariants as at
use Rattle.fam_machine.specs.Operations.{given_by}
use Rattle.fam_commands.specs.Stands.{turn_given}
use Rattle.fam_commands.specs.Task.{Task, op_at}
use Rattle.fam_commands.specs.Turns.{Turn, Finds, finds_or_goes, gate_turn, turn_at, gate_loaded}
use Rattle.fam_rules.specs.Decide.{Wish, wish_of}
use Rattle.fam_rules.specs.Place.{line_bytes}
use Rattle.fam_protocol.specs.Bad.{AtDamagedPhase, FindsBad, MaySayBad, ReadsHeader}
use Rattle.fam_protocol.specs.Findings.{DamagedStep}
use Rattle.fam_protocol.specs.SharedState.{Operates}
use Rattle.fam_protocol.specs.Invariant.{Damaged, IsDamaged}
use Rattle.fam_protocol.proofs.Damaged.Ends.{reads_below}
use Rattle.fam_protocol.proofs.Lines.Moves.{fresh_current}
use Rattle.fam_protocol.proofs.Hosts.Steps.{invariant_stepped}

module _ (image : Lines) (lines : ℕ) (step : DamagedStep image lines) where
  abbrev task : Task
  task = step.run.task

  -- what is found is the image's gate, where a slot is bad
  pub bad_found : (n : ℕ) (t : Task) → turn_given step.run.task step.word ≡ Finds n t → FindsBad image (line_bytes * lines) n
  bad_found n t is =
      subst (λ (x : Turn). MaySayBad x image (line_bytes * lines) task) is
      (invariant_stepped lines step.host step.word (Damaged image) step.run step.old step.new step.before step.after step.invariant step.steps).says

  stage : IsDamaged image lines step.old step.before
  stage = step.invariant.stage

  -- the gate has no fault, where a slot has one
  gate_within : (i : ℕ) (reason : Reason) → reading_of image (line_bytes * lines) ≡ BadSlot i reason → ReadsHeader image (line_bytes * lines) task → gate_fault (gate_in image) task.params ≡ None
  gate_within i reason bad header = by_fault (gate_fault (gate_in image) task.params) refl
    where
      by_fault : (o : Option LogFault) → gate_fault (gate_in image) task.params ≡ o → o ≡ None
      by_fault None is = refl
      by_fault (Some fault) is = absurd
          (let e : BadHeader fault ≡ BadSlot i reason =
          sym (reads_below image (line_bytes * lines) task task.params header.super.super header.header ∙ ap (read_below image task.params) is)
          ∙ bad in cc)

  -- who appends, and passed the master's test, notes it
  pub bad_noted : (i : ℕ) (reason : Reason) (w : Wish) → reading_of image (line_bytes * lines) ≡ BadSlot i reason → wish_of task.cmd ≡ Some w
      → task.phase ≡ at.Gate → turn_given task step.word ≡ Finds (gate_in image) (gate_loaded task (gate_in image))
  bad_noted i reason w bad wish is =
      subst (λ (q : Phase). AtDamagedPhase q image (line_bytes * lines) step.host task step.before
      → Operates (op_at task q) step.host step.before step.after step.word → turn_at q task (unwrap_or (given_by (op_at task q) step.word) 0)
      ≡ Finds (gate_in image) (gate_loaded task (gate_in image))) (sym is) at_gate
      (stage.tasks step.host step.run step.steps.is).phase step.steps.operates
    where
      at_gate : AtDamagedPhase at.Gate image (line_bytes * lines) step.host task step.before
          → Operates (op_at task at.Gate) step.host step.before step.after step.word → gate_turn task step.word (gate_fault step.word task.params)
          ≡ Finds (gate_in image) (gate_loaded task (gate_in image))
      at_gate g done =
          let gate : step.word ≡ gate_in image = done.1 ∙ ap (λ (w : List ℕ). slice_index w 0)
          (fresh_current (step.before.memory gate_line) (step.before.copy step.host gate_line) g.3 ∙ stage.still.memory gate_line) in
          ap (gate_turn task step.word) (ap (λ (n : ℕ). gate_fault n task.params) gate ∙ gate_within i reason bad g.2)
          ∙ ap (λ (o : Option Wish). finds_or_goes o step.word (gate_loaded task step.word)) wish
          ∙ ap (λ (n : ℕ). Finds n (gate_loaded task n)) gate

  pub bad_master : (w : Wish) → wish_of task.cmd ≡ Some w → task.phase ≡ at.Gate → (params : Params) × (super_in image (line_bytes * lines) ≡ Ok params) × (task.me ≡ params.master)
  bad_master w wish is =
      let g : AtDamagedPhase at.Gate image (line_bytes * lines) step.host task step.before =
      subst (λ (q : Phase). AtDamagedPhase q image (line_bytes * lines) step.host task step.before) is (stage.tasks step.host step.run step.steps.is).phase in
      (task.params, g.2.super.super, g.2.super.master w wish)
