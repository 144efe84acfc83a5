use Rattle.std.proofs.Common.{◌≡◌, ℕ, ◌<◌, get_or, length}
use Rattle.fam_rules.specs.Content.{byte_in}
use Rattle.fam_opening.proofs.files.bytes_of_line.Given as goal

-- the bytes so far
abbrev pub invariant-bytes : goal.invariant-bytes
invariant-bytes l = record {
  count : length l.bytes ≡ 64;
  here : (k : ℕ) → k < l.b → get_or l.bytes k 0 ≡ byte_in l.line k;
}
