use Rattle.fam_alloc.specs.Runs.{outside}
use Rattle.fam_alloc.proofs.MapLemmas.{length-units_by}
use Rattle.fam_alloc.proofs.ViewLemmas.{new_taken}
use Rattle.fam_alloc.proofs.NewLemmas.{new_map, outside_behind, new_few}
use Rattle.fam_alloc.proofs.alloc_map.AllocMap.new.Goals as goal

pub invariant_of-result : goal.invariant_of-result
invariant_of-result c = new_map c.in_ok-runs.runs.entries c.args.units c.args.used c.requires.within c.in_ok-runs.ensures c.requires.limit

pub returns-clause-units : goal.returns-clause-units
returns-clause-units c = length-units_by (outside c.in_ok-runs.runs.entries) c.args.units

pub returns-clause-used : goal.returns-clause-used
returns-clause-used c =
    new_taken (outside c.in_ok-runs.runs.entries) c.args.units c.args.used c.requires.within
    (outside_behind c.in_ok-runs.runs.entries c.args.units c.args.used c.requires.within c.in_ok-runs.ensures)

pub returns-clause-runs : goal.returns-clause-runs
returns-clause-runs c = new_few c.in_ok-runs.runs.entries c.args.units c.args.used c.requires.within c.in_ok-runs.ensures
