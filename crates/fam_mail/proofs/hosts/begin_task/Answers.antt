use Rattle.std.proofs.Common.{length, refl, ap, arith, Some}
use Rattle.std.proofs.lemmas.Option.{slice_get_read}
use Rattle.fam_mail.specs.Tasks.{MailTask, new_task}
use Rattle.fam_mail.specs.World.{MailHost, mail_host}
use Rattle.fam_mail.proofs.Members.{map_set}
use Rattle.fam_mail.proofs.hosts.begin_task.Goals as goal

pub returns : goal.returns
returns c =
    let items = c.args.hosts.now.items in
    let at_is = slice_get_read items (length items) c.args.at c.index_mut.result.now refl (omega (arith, c.requires.within)) c.index_mut.ensures.value in
    record {
      views = map_set mail_host (λ (v : MailHost). record v { task = Some (new_task c.args.ask c.args.capacity) }) items c.args.at _ c.index_mut.result.now at_is
          (ap (λ (t : MailTask). record (mail_host c.index_mut.result.now) { task = Some t }) c.new.ensures);
    }
