use Rattle.std.proofs.Common.{◌≡◌, drop}
use Rattle.fam_journal.specs.Calls.{has_name}
use Rattle.fam_journal.specs.Members.{index_from, index_of}
use Rattle.fam_world.specs.View.{shown_hosts}
use Rattle.fam_world.proofs.find.number.Given as goal

abbrev pub invariant-loop-at : goal.invariant-loop-at
invariant-loop-at l = index_from l.at (has_name l.name) (drop l.at (shown_hosts l.hosts.items)) ≡ index_of (has_name l.name) (shown_hosts l.hosts.items)
