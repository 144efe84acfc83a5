use Rattle.std.proofs.Common.{◌<◌, sym, refl, length, arith}
use Rattle.std.proofs.lemmas.List.{length-map}
use Rattle.fam_mail.specs.World.{mail_host, mail_hosts}
use Rattle.fam_mail.proofs.Members.{member_at}
use Rattle.fam_mail.proofs.hosts.declared.Goals as goal

pub returns-in-Some-clause-placed : goal.returns-in-Some-clause-placed
returns-in-Some-clause-placed c = λ entry journal.
    let items = c.args.hosts.now.items in
    let below : c.in-Some.at < length (mail_hosts items) = omega (arith, c.in-Some.ensures.within, length-map items mail_host) in
    let member = member_at (mail_hosts items) c.in-Some.at below in
    record { number = sym c.in-Some.ensures.is; host = member.0; host_is = member.1; free = refl }
