use Rattle.std.proofs.Common.{rules}
use Rattle.std.specs.FinMap.{gets}
use Rattle.fam_media.proofs.memory_shelf.MemShelf.bytes.Goals as goal

pub returns : goal.returns
returns c = search (rules, gets)
