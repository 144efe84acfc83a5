use Rattle.fam_machine.proofs.LinePuts.{line_loaded}
use Rattle.fam_machine.proofs.lines.a_line_is_loaded.Goals as goal

pub returns : goal.returns
returns c = line_loaded
