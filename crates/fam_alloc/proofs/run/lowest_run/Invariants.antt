use Rattle.std.proofs.Common.{◌≡◌}
use Rattle.fam_rules.specs.Room.{room}
use Rattle.fam_alloc.specs.Runs.{outside}
use Rattle.fam_alloc.proofs.FitLemmas.{first_fit}
use Rattle.fam_alloc.proofs.run.lowest_run.Given as goal

abbrev pub invariant-loop-start : goal.invariant-loop-start
invariant-loop-start l = first_fit l.from l.to l.count l.start-iterator ≡ room (outside l.runs.entries) l.from l.to l.count
