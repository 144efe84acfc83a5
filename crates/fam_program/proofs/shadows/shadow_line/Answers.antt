use Rattle.std.proofs.Common.{◌≡◌, ◌++◌, Result, codes, subst, sym}
use Rattle.std.specs.Prelude.{IfOk}
use Rattle.fam_shadow.specs.declared.fault.ShadowFault.{ShadowFault}
use Rattle.fam_outcomes.specs.Texts.{number}
use Rattle.fam_program.specs.Shadows.{shadow_text}
use Rattle.fam_program.proofs.shadows.shadow_line.Goals as goal

pub returns-in-Ok : goal.returns-in-Ok
returns-in-Ok c =
    subst (λ (w : Result (Unit {0}) ShadowFault). IfOk c.line_of.result (λ bytes. bytes.items ≡ shadow_text c.args.m w)) (sym c.in-Ok.is)
    (c.line_of.ensures (codes "shadowed" ++ number c.args.m) c.format.ensures.ok)

pub returns-in-Err : goal.returns-in-Err
returns-in-Err c =
    subst (λ (w : Result (Unit {0}) ShadowFault). IfOk c.fault_line.result (λ bytes. bytes.items ≡ shadow_text c.args.m w)) (sym c.in-Err.is) c.fault_line.ensures
