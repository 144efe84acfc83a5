use Rattle.std.proofs.Common.{length, refl, ap, arith, None}
use Rattle.std.proofs.lemmas.Option.{slice_get_read}
use Rattle.std.specs.FinMap as finmap
use Rattle.fam_machine.specs.Caches.{Cache}
use Rattle.fam_mail.specs.World.{MailHost, mail_host}
use Rattle.fam_mail.proofs.Members.{map_set}
use Rattle.fam_mail.proofs.hosts.lose.Goals as goal

pub returns : goal.returns
returns c =
    let items = c.args.hosts.now.items in
    let at_is = slice_get_read items (length items) c.args.at c.index_mut-host.result.now refl (omega (arith, c.requires.within)) c.index_mut-host.ensures.value in
    record {
      views = map_set mail_host (λ (v : MailHost). record v { cache = finmap.empty; task = None }) items c.args.at _ c.index_mut-host.result.now at_is
          (ap (λ (k : Cache). record (mail_host c.index_mut-host.result.now) { cache = k; task = None }) c.lose.ensures.lines);
    }
