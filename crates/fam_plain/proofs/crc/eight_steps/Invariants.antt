use Rattle.std.proofs.Common.{◌≡◌, ◌-◌}
use Rattle.fam_crc.specs.Crc.{steps}
use Rattle.fam_plain.proofs.crc.eight_steps.Given as goal

abbrev pub invariant-loop-bit : goal.invariant-loop-bit
invariant-loop-bit l = steps (8 - l._bit) l.register ≡ steps 8 l.initial.register
