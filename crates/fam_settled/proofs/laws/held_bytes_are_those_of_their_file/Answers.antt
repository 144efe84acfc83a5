use Rattle.fam_settled.proofs.Fills.{given_fill}
use Rattle.fam_settled.proofs.laws.held_bytes_are_those_of_their_file.Goals as goal

pub returns : goal.returns
returns c = given_fill
