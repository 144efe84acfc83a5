use Rattle.fam_judge.proofs.Standing.Alike.{stands_alike, stands_seen, stands_told}
use Rattle.fam_judge.proofs.laws.what_stands_is_told.Goals as goal

pub returns : goal.returns
returns c = record {
  told = stands_told;
  seen = stands_seen;
  alike = λ lines a b note alike is. stands_alike lines a b alike note is;
}
