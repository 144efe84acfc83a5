use Rattle.std.proofs.Common.{◌≡◌, None, take}
use Rattle.fam_rules.specs.Asks.{file_at}
use Rattle.fam_settled.specs.Settled.{settled_and_pending}
use Rattle.fam_settled.proofs.log.Log.found_among.Given as goal

abbrev pub invariant-loop-i : goal.invariant-loop-i
invariant-loop-i l = file_at (take l.i (settled_and_pending l.self)) l.path ≡ None
