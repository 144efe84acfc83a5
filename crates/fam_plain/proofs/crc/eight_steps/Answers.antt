use Rattle.std.proofs.Common.{arith, ap, sym, ◌+◌, ◌-◌, ◌∙◌}
use Rattle.fam_crc.specs.Crc.{steps}
use Rattle.fam_plain.proofs.Steps.{next_step, last_step}
use Rattle.fam_plain.proofs.crc.eight_steps.Goals as goal

pub loop-bit-preserved : goal.loop-bit-preserved
loop-bit-preserved c = ap (steps (8 - (c.loop-bit._bit + 1))) c.step-register.ensures ∙ next_step 8 c.loop-bit._bit c.loop-bit.register (omega arith) ∙ c.loop-bit.invariant

pub returns : goal.returns
returns c = sym (last_step (8 - c.loop-bit._bit) c.loop-bit.register (omega arith)) ∙ c.loop-bit.invariant
