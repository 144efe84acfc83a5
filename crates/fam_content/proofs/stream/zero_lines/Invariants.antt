use Rattle.std.proofs.Common.{◌≡◌, ◌<◌, ℕ}
use Rattle.fam_rules.specs.Content.{byte_in}
use Rattle.fam_content.specs.Stream.{line_in, IsLine}
use Rattle.fam_content.proofs.stream.zero_lines.Given as goal

-- the bytes of the lines so far
abbrev pub invariant-lines : goal.invariant-lines
invariant-lines l = record {
  bytes : (k b : ℕ) → k < l.k → b < 64 → byte_in (line_in l.lines k) b ≡ 0;
  whole : (k : ℕ) → k < l.k → IsLine (line_in l.lines k);
}
