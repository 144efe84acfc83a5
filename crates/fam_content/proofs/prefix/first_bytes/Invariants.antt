use Rattle.std.proofs.Common.{◌≡◌, ◌<◌, ℕ, nat_lt, if◌then◌else◌, ◌*◌, length}
use Rattle.fam_rules.specs.Content.{byte_in}
use Rattle.fam_content.proofs.prefix.first_bytes.Given as goal

-- the bytes of the words so far
abbrev pub invariant-words : goal.invariant-words
invariant-words l = record {
  count : length l.prefix ≡ 8;
  bytes : (b : ℕ) → b < 8 * l.w → byte_in l.prefix b ≡ if nat_lt b l.count then byte_in l.line b else 0;
}
