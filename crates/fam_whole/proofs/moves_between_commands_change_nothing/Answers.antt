use Rattle.fam_whole.proofs.Struck.{scripts_alike}
use Rattle.fam_whole.proofs.Twins.{moves_note}
use Rattle.fam_whole.proofs.moves_between_commands_change_nothing.Goals as goal

pub returns : goal.returns
returns c = record {
  alike = λ files one other start image sound sound' same a b. scripts_alike start files one other image sound sound' same a b;
  moves = λ files event old new notes is does. moves_note files event is old new notes does;
}
