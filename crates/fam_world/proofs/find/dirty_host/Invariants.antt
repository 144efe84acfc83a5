use Rattle.std.proofs.Common.{◌≡◌, drop}
use Rattle.fam_journal.specs.Calls.{dirty_from}
use Rattle.fam_world.specs.View.{shown_hosts}
use Rattle.fam_world.proofs.find.dirty_host.Given as goal

abbrev pub invariant-loop-at : goal.invariant-loop-at
invariant-loop-at l = dirty_from l.maker l.at (drop l.at (shown_hosts l.hosts.items)) ≡ dirty_from l.maker 0 (shown_hosts l.hosts.items)
