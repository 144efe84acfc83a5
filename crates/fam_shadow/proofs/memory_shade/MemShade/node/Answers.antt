use Rattle.std.proofs.Common.{rules}
use Rattle.std.specs.FinMap.{gets}
use Rattle.fam_shadow.proofs.memory_shade.MemShade.node.Goals as goal

pub returns : goal.returns
returns c = search (rules, gets)
