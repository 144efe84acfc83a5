-- The words tell which kept entries a task uses.
use Rattle.std.proofs.Common.{ℕ, ◌≡◌, ◌+◌, ◌-◌, ◌*◌, List, length, Option, Result, ap, ap₂, ◌∙◌, sym}
use Rattle.fam_base.specs.declared.cmd.Cmd.{Cmd}
use Rattle.fam_base.specs.declared.entry.Params.{Params}
use Rattle.fam_base.specs.declared.entry.Entry.{Entry}
use Rattle.fam_format.specs.declared.faults.SuperFault.{SuperFault}
use Rattle.fam_format.specs.Layout.{Geometry, geometry}
use Rattle.fam_commands.specs.Kept.{Kept, used}
use Rattle.fam_commands.specs.Task.{Task, no_params, used_in, first_in}
use Rattle.fam_commands.specs.Counts.{used_told, head_steps, slot_steps}
use Rattle.fam_commands.specs.Table.{fed_gate, fed_super, params_or}
use Rattle.fam_commands.proofs.Steps.Ties.{HasGate, TaskSlots, steps_to}

pub used_told_is : (kept : Option Kept) (cmd : Cmd) (me : List ℕ) (lines : ℕ) (p : Params) (gate : ℕ) (words : List ℕ)
    → HasGate cmd me lines p gate words → used_told kept cmd words lines ≡ used kept cmd p gate
used_told_is kept cmd me lines p gate words h =
    ap (λ (q : Result Params SuperFault). used kept cmd (params_or no_params q) (fed_gate words)) h.log.head.super
    ∙ ap (used kept cmd p) h.gate_is

-- of a task
abbrev pub used_told_by : Task → List ℕ → List Entry
used_told_by t words = used_told t.kept t.cmd words t.lines

abbrev pub first_told : Task → List ℕ → ℕ
first_told t words = length (used_told_by t words)

pub used_task_is : (t : Task) (words : List ℕ) (i : ℕ) → TaskSlots t words i → used_told_by t words ≡ used_in t
used_task_is t words i h = used_told_is t.kept t.cmd t.me t.lines t.params t.gate words h.gated

pub first_told_is : (t : Task) (words : List ℕ) (i : ℕ) → TaskSlots t words i → first_told t words ≡ first_in t
first_told_is t words i h = ap (λ (list : List Entry). length list) (used_task_is t words i h)

-- the shape of the slots
abbrev pub shape_told : Task → List ℕ → Geometry
shape_told t words = geometry (params_or no_params (fed_super words t.lines))

pub shape_told_is : (t : Task) (words : List ℕ) (i : ℕ) → TaskSlots t words i → shape_told t words ≡ geometry t.params
shape_told_is t words i h = ap (λ (q : Result Params SuperFault). geometry (params_or no_params q)) h.gated.log.head.super

-- the operations up to slot i
pub slot_steps_told : (t : Task) (words : List ℕ) (i : ℕ) → TaskSlots t words i → steps_to t.params (first_in t) (i + 1) ≡ head_steps + slot_steps (shape_told t words) * (i + 1 - first_told t words)
slot_steps_told t words i h = ap₂ (λ (g : Geometry) (n : ℕ). head_steps + slot_steps g * (i + 1 - n)) (sym (shape_told_is t words i h)) (sym (first_told_is t words i h))
