use Rattle.std.proofs.Common.{rules, arith}
use Rattle.fam_content.proofs.LittleEndian.{whole_line_bytes}
use Rattle.fam_content.proofs.given.whole_line.Goals as goal

pub returns : goal.returns
returns c =
    whole_line_bytes c.args.bytes.now c.read_u64_into.new.dst c.requires (search rules) (λ i. omega (arith, c.type_inv.bytes i)) c.read_u64_into.ensures
