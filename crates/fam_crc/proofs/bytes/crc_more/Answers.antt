-- With no bytes before, the checksum before is 0.
use Rattle.std.proofs.lemmas.Grind.{common_steps}
use Rattle.std.proofs.Common.{[], sym, ◌∙◌, arith}
use Rattle.fam_crc.proofs.Steps.{crc_of_none, goes_on}
use Rattle.fam_crc.proofs.bytes.crc_more.Goals as goal

pub returns : goal.returns
returns c = record {
  more = λ before e. goes_on before c.args.bytes.now c.args.crc c.loop-byte.register e (grind (arith, common_steps));
  solo = λ e. goes_on [] c.args.bytes.now c.args.crc c.loop-byte.register (crc_of_none ∙ sym e) (grind (arith, common_steps));
}
