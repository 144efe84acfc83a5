use Rattle.fam_judge.proofs.Sets.{judges_first, judges_line, judges_none, judges_some}
use Rattle.fam_judge.proofs.laws.a_set_of_states_judges.Goals as goal

pub returns : goal.returns
returns c = record {
  first = judges_first;
  line = λ start lines xs zs line told judges on. judges_line start lines xs zs line judges on told;
  none = judges_none;
  some = judges_some;
}
