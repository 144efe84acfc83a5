use Rattle.std.proofs.Common.{◌≡◌, take}
use Rattle.std.specs.FinMap as map
use Rattle.fam_format.specs.Tree.{replay}
use Rattle.fam_plain.proofs.join.entry_at.Given as goal

abbrev pub invariant-loop-entry : goal.invariant-loop-entry
invariant-loop-entry l = l.found ≡ map.get (replay (take l.entry-index l.entries)) l.path
