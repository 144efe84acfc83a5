use Rattle.std.proofs.Common.{◌≡◌, ℕ, ◌+◌, ◌*◌, ◌<◌, length, get_or}
use Rattle.fam_opening.proofs.slots.put_words.Given as goal

-- the words so far stand there, and those before the line are as they were
abbrev pub invariant-words : goal.invariant-words
invariant-words l = record {
  count : length l.slot ≡ 128;
  here : (k : ℕ) → k < l.w → get_or l.slot (8 * l.line + k) 0 ≡ get_or l.words k 0;
  before : (k : ℕ) → k < 8 * l.line → get_or l.slot k 0 ≡ get_or l.fn.slot k 0;
}
