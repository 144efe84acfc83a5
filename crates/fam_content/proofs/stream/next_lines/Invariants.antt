use Rattle.std.proofs.Common.{◌≡◌, ◌+◌, ◌*◌, ◌<◌, ℕ, get_or}
use Rattle.fam_rules.specs.Content.{stream_state, stream_word}
use Rattle.fam_content.specs.Stream.{line_in, IsLine}
use Rattle.fam_content.proofs.stream.next_lines.Given as goal

-- the generator stands behind the lines so far
abbrev pub invariant-lines : goal.invariant-lines
invariant-lines l = record {
  stands : (seed given : ℕ) → l.fn.generator ≡ stream_state seed given → l.generator ≡ stream_state seed (given + 8 * l.k);
  words : (seed given k w : ℕ) → l.fn.generator ≡ stream_state seed given → k < l.k → w < 8 → get_or (line_in l.lines k) w 0 ≡ stream_word seed (given + 8 * k + w);
  whole : (k : ℕ) → k < l.k → IsLine (line_in l.lines k);
}
