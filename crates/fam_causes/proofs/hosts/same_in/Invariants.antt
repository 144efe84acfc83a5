use Rattle.std.proofs.Common.{◌≡◌, drop}
use Rattle.std.specs.Prelude.{◌||◌}
use Rattle.fam_base.specs.PathOrder.{path_eq}
use Rattle.fam_judge.specs.Standing.{same_in}
use Rattle.fam_journal.specs.Members.{index_from}
use Rattle.fam_lines.specs.Hosts.{faces_of}
use Rattle.fam_causes.proofs.hosts.same_in.Given as goal

abbrev pub invariant-loop-at : goal.invariant-loop-at
invariant-loop-at l = index_from l.at (λ f. path_eq f.name l.name || path_eq f.uuid l.uuid) (faces_of (drop l.at l.hosts)) ≡ same_in l.name l.uuid (faces_of l.hosts)
