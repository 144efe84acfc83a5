use Rattle.std.proofs.Common.{◌≡◌, drop}
use Rattle.fam_journal.specs.Calls.{is_same}
use Rattle.fam_journal.specs.Members.{index_from, index_of}
use Rattle.fam_world.specs.View.{shown_hosts}
use Rattle.fam_world.proofs.find.same_host.Given as goal

abbrev pub invariant-loop-at : goal.invariant-loop-at
invariant-loop-at l = index_from l.at (is_same l.name l.uuid) (drop l.at (shown_hosts l.hosts.items)) ≡ index_of (is_same l.name l.uuid) (shown_hosts l.hosts.items)
