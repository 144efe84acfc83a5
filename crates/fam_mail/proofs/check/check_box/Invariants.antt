use Rattle.fam_rules.specs.Written.{file_line}
use Rattle.fam_mail.specs.Boxes.{capacity_of}
use Rattle.fam_mail.specs.Checks.{IsCheckedTo}
use Rattle.fam_mail.proofs.check.check_box.Given as goal

abbrev pub invariant-loop-i : goal.invariant-loop-i
invariant-loop-i g l = IsCheckedTo g.M.Media.size g.M.Media.state g.M.Media.exact (file_line l.entry) (capacity_of l.entry.size) l.gate l.i l.fn.media l.media
