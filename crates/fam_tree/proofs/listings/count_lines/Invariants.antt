use Rattle.std.proofs.Common.{◌≡◌, ◌+◌, ◌≤◌, length}
use Rattle.fam_tree.specs.Listings.{text_lines}
use Rattle.fam_tree.proofs.listings.count_lines.Given as goal

abbrev pub invariant-loop-rest : goal.invariant-loop-rest
invariant-loop-rest l = record {
  count : l.count + length (text_lines l.rest) ≡ length (text_lines l.bytes);
  within : l.count + length l.rest ≤ length l.bytes;
}

abbrev pub decreases-loop-rest : goal.decreases-loop-rest
decreases-loop-rest l = length l.rest
