use Rattle.std.proofs.Common.{◌≡◌, ℕ, ◌+◌, ◌*◌, ◌<◌, get_or, vec_len}
use Rattle.fam_media.specs.Runs.{line_in}
use Rattle.fam_rules.specs.Content.{byte_in}
use Rattle.fam_opening.proofs.files.push_lines.Given as goal

-- the lines so far stand behind the others
abbrev pub invariant-loop-line : goal.invariant-loop-line
invariant-loop-line l = record {
  count : vec_len l.bytes ≡ vec_len l.fn.bytes + 64 * l.line-index;
  before : (k : ℕ) → k < vec_len l.fn.bytes → get_or l.bytes.items k 0 ≡ get_or l.fn.bytes.items k 0;
  here : (i b : ℕ) → i < l.line-index → b < 64 → get_or l.bytes.items (vec_len l.fn.bytes + 64 * i + b) 0 ≡ byte_in (line_in l.lines i) b;
}
