use Rattle.std.proofs.Common.{◌≡◌, drop}
use Rattle.fam_base.specs.PathOrder.{path_eq}
use Rattle.fam_journal.specs.Members.{index_from}
use Rattle.fam_history.specs.Notes.{host_number}
use Rattle.fam_history.proofs.notes.host_number.Given as goal

abbrev pub invariant-loop-at : goal.invariant-loop-at
invariant-loop-at l = index_from l.at (λ declared. path_eq declared l.name) (drop l.at l.names) ≡ host_number l.names l.name
