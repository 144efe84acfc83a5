use Rattle.fam_lines.proofs.Whole.{whole_note}
use Rattle.fam_lines.proofs.laws.what_stands_and_fits_is_whole.Goals as goal

pub returns : goal.returns
returns c = λ lines hosts shapes past note seen stands fits. whole_note lines hosts shapes past note seen stands fits
