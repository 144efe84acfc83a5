use Rattle.std.proofs.Common.{◌≡◌, ◌<◌, ℕ}
use Rattle.fam_rules.specs.Content.{byte_in}
use Rattle.fam_content.proofs.difference.compare.Given as goal

-- the bytes so far are equal
abbrev pub invariant-bytes : goal.invariant-bytes
invariant-bytes l = (b : ℕ) → b < l.b → byte_in l.found b ≡ byte_in l.wanted b
