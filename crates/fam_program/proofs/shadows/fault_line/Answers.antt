use Rattle.std.proofs.Common.{◌≡◌, ◌++◌, List, ℕ, codes, subst, sym}
use Rattle.std.specs.Prelude.{IfOk}
use Rattle.fam_shadow.specs.declared.fault.ShadowFault.{ShadowFault}
use Rattle.fam_outcomes.specs.Texts.{line}
use Rattle.fam_program.specs.Shadows.{shadow_fault_text}
use Rattle.fam_program.proofs.shadows.fault_line.Goals as goal

pub returns-in-Clash : goal.returns-in-Clash
returns-in-Clash c =
    subst (λ (f : ShadowFault). IfOk c.line_of.result (λ bytes. bytes.items ≡ shadow_fault_text f)) (sym c.in-Clash.is)
    (subst (λ (name : List ℕ). IfOk c.line_of.result (λ bytes. bytes.items ≡ line (codes "refused clash " ++ name))) c.text-name.ensures
    (c.line_of.ensures (codes "refused clash " ++ c.text-name.result.now) c.format.ensures.ok))

pub returns-in-ShadeFault : goal.returns-in-ShadeFault
returns-in-ShadeFault c =
    subst (λ (f : ShadowFault). IfOk c.line_of-in-ShadeFault.result (λ bytes. bytes.items ≡ shadow_fault_text f)) (sym c.in-ShadeFault.is)
    (subst (λ (name : List ℕ). IfOk c.line_of-in-ShadeFault.result (λ bytes. bytes.items ≡ line (codes "shade fault " ++ name))) c.text-name-in-ShadeFault.ensures
    (c.line_of-in-ShadeFault.ensures (codes "shade fault " ++ c.text-name-in-ShadeFault.result.now) c.format-in-ShadeFault.ensures.ok))

pub returns-in-OutOfMemory : goal.returns-in-OutOfMemory
returns-in-OutOfMemory c =
    subst (λ (f : ShadowFault). IfOk c.line_of-in-OutOfMemory.result (λ bytes. bytes.items ≡ shadow_fault_text f)) (sym c.in-OutOfMemory.is)
    (c.line_of-in-OutOfMemory.ensures (codes "out of memory") c.format-in-OutOfMemory.ensures.ok)
