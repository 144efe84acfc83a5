use Rattle.fam_mail.proofs.Places.{no_line_twice}
use Rattle.fam_mail.proofs.laws.a_file_has_no_line_twice.Goals as goal

pub returns : goal.returns
returns c = no_line_twice
