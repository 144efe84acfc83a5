use Rattle.std.proofs.Common.{◌≡◌, ℕ, ◌+◌, ◌-◌, ◌<◌, ◌≤◌, length, get_or}
use Rattle.fam_rules.specs.Content.{byte_in}
use Rattle.fam_settled.proofs.contents.line_has.Given as goal

abbrev pub invariant-bytes : goal.invariant-bytes
invariant-bytes l =
    (i : ℕ) → i < length l.given → l.start ≤ l.offset + i → l.offset + i < l.start + l.b → byte_in l.line (l.offset + i - l.start) ≡ get_or l.given i 0
