use Rattle.std.proofs.Common.{◌≡◌, ◌+◌, ◌<◌, ℕ, get_or, length}
use Rattle.fam_rules.specs.Content.{stream_state, stream_word}
use Rattle.fam_content.proofs.stream.next_line.Given as goal

-- the generator stands behind the words so far
abbrev pub invariant-words : goal.invariant-words
invariant-words l = record {
  count : length l.words ≡ 8;
  stands : (seed given : ℕ) → l.fn.generator ≡ stream_state seed given → l.generator ≡ stream_state seed (given + l.w);
  words : (seed given w : ℕ) → l.fn.generator ≡ stream_state seed given → w < l.w → get_or l.words w 0 ≡ stream_word seed (given + w);
}
