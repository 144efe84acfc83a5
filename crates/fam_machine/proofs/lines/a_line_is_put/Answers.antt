use Rattle.fam_machine.proofs.LinePuts.{line_put}
use Rattle.fam_machine.proofs.lines.a_line_is_put.Goals as goal

pub returns : goal.returns
returns c = line_put
