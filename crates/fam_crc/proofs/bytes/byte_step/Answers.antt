use Rattle.std.proofs.Common.{ap, ◌∙◌, ◌/◌, ℕ, bit_xor}
use Rattle.fam_crc.proofs.Steps.{byte_split}
use Rattle.fam_crc.proofs.bytes.byte_step.Goals as goal

pub returns : goal.returns
returns c = ap (λ (x : ℕ). bit_xor x (c.args.register / 256)) c.after_8.ensures ∙ byte_split c.args.register c.args.byte c.ranges.byte.fits
