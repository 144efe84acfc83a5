use Rattle.std.proofs.Common.{◌≡◌, ℕ, ◌+◌, ◌<◌, get_or}
use Rattle.fam_rules.specs.Content.{byte_in}
use Rattle.fam_tasks.proofs.buffer.Buffer.copy_bytes.Given as goal

abbrev pub invariant-bytes : goal.invariant-bytes
invariant-bytes l = (k : ℕ) → k < l.i → get_or l.bytes k 0 ≡ byte_in l.self (l.first + k)
