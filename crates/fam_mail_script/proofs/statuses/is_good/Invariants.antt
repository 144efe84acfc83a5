use Rattle.std.proofs.Common.{◌≡◌, drop}
use Rattle.fam_mail_script.specs.Statuses as spec
use Rattle.fam_mail_script.proofs.statuses.is_good.Given as goal

abbrev pub invariant-notes : goal.invariant-notes
invariant-notes l = spec.is_good_mail (drop l.note-index l.notes) ≡ spec.is_good_mail l.notes
