use Rattle.std.proofs.Common.{◌≡◌, drop}
use Rattle.fam_mail.specs.World.{member_place_from, member_place, is_writer, mail_hosts}
use Rattle.fam_mail.proofs.hosts.writer.Given as goal

abbrev pub invariant-loop-at : goal.invariant-loop-at
invariant-loop-at l = member_place_from l.at is_writer (drop l.at (mail_hosts l.hosts.items)) ≡ member_place is_writer (mail_hosts l.hosts.items)
