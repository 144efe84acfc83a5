use Rattle.std.proofs.Common.{◌+◌, ◌^◌, ◌<◌, length}
use Rattle.fam_tree.proofs.LinesSaid.{Tells}
use Rattle.fam_tree.proofs.listings.read_lines.Given as goal

abbrev pub invariant-loop-rest : goal.invariant-loop-rest
invariant-loop-rest l = record {
  told : Tells l.first l.bytes l.entries.items l.number l.before l.rest;
  room : l.number + length l.rest < 2 ^ 64;
}

abbrev pub decreases-loop-rest : goal.decreases-loop-rest
decreases-loop-rest l = length l.rest
