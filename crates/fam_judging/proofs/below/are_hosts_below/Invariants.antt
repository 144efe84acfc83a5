use Rattle.std.proofs.Common.{ℕ, ◌<◌}
use Rattle.fam_judging.specs.Below.{IsHostBelow}
use Rattle.fam_judging.proofs.below.are_hosts_below.Given as goal

abbrev pub invariant-hosts : goal.invariant-hosts
invariant-hosts l = (k : ℕ) → k < l.at → IsHostBelow l.seen.items l.a.tracks.items l.b.tracks.items k
