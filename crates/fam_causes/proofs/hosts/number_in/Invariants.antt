use Rattle.std.proofs.Common.{◌≡◌, drop}
use Rattle.fam_base.specs.PathOrder.{path_eq}
use Rattle.fam_journal.specs.Members.{index_from}
use Rattle.fam_lines.specs.Hosts.{faces_of}
use Rattle.fam_lines.specs.Resolved.{seen_number}
use Rattle.fam_causes.proofs.hosts.number_in.Given as goal

abbrev pub invariant-loop-at : goal.invariant-loop-at
invariant-loop-at l = index_from l.at (λ f. path_eq f.name l.name) (faces_of (drop l.at l.hosts)) ≡ seen_number l.hosts l.name
