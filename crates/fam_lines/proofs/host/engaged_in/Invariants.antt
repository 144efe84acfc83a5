use Rattle.std.proofs.Common.{◌≡◌, drop}
use Rattle.std.specs.Prelude.{◌||◌}
use Rattle.fam_judge.specs.Standing.{engaged_in}
use Rattle.fam_journal.specs.Members.{index_from}
use Rattle.fam_lines.specs.Hosts.{faces_of}
use Rattle.fam_lines.proofs.host.engaged_in.Given as goal

abbrev pub invariant-loop-at : goal.invariant-loop-at
invariant-loop-at l = index_from l.at (λ f. f.runs || f.keeps) (faces_of (drop l.at l.hosts)) ≡ engaged_in (faces_of l.hosts)
