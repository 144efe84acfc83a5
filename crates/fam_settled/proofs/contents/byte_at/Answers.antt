use Rattle.std.proofs.Common.{arith}
use Rattle.fam_settled.proofs.contents.byte_at.Goals as goal

pub bounds-line-b : goal.bounds-line-b
bounds-line-b c = omega (arith, c.requires)

pub byte_of-requires : goal.byte_of-requires
byte_of-requires c = omega arith

pub returns : goal.returns
returns c = c.byte_of.ensures
