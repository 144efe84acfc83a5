use Rattle.std.proofs.Common.{sym, refl, length, arith}
use Rattle.std.proofs.lemmas.Option.{slice_get_read}
use Rattle.fam_mail.specs.World.{mail_host}
use Rattle.fam_mail.proofs.Members.{map_at}
use Rattle.fam_mail.proofs.hosts.may_begin.Goals as goal

pub returns-in-None-clause-placed : goal.returns-in-None-clause-placed
returns-in-None-clause-placed c = λ entry journal.
    let items = c.args.hosts.now.items in
    let at_is = slice_get_read items (length items) c.in-Some.at c.index.result.now refl (omega (arith, c.in-Some.ensures.within)) c.index.ensures in
    record { number = sym c.in-Some.ensures.is; host = mail_host c.index.result.now; host_is = map_at mail_host items c.in-Some.at c.index.result.now at_is; free = sym c.in-None.ensures }
