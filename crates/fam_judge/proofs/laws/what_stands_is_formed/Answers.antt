use Rattle.fam_judge.proofs.Standing.Distinct.{distinct_hosts}
use Rattle.fam_judge.proofs.Standing.Stands.{stands_formed}
use Rattle.fam_judge.proofs.laws.what_stands_is_formed.Goals as goal

pub returns : goal.returns
returns c = record {
  stands = λ lines hosts note distinct is. stands_formed lines hosts distinct note is;
  hosts = distinct_hosts;
}
