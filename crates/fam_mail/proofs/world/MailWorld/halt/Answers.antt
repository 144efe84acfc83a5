use Rattle.std.proofs.Common.{◌++◌, ◌∷◌, [], None, ap, ◌∙◌}
use Rattle.std.specs.FinMap as finmap
use Rattle.fam_mail.specs.Calls.{no_refusal}
use Rattle.fam_mail.specs.World.{MailHost, MailView, mail_view, mail_hosts}
use Rattle.fam_mail.specs.declared.note.MailNote.{MailNote}
use Rattle.fam_mail.specs.declared.note.MailNote.TheVariants as note
use Rattle.fam_mail.proofs.Calling.{changed_call}
use Rattle.fam_mail.proofs.world.MailWorld.halt.Goals as goal

pub returns-in-Ok-clause-answered : goal.returns-in-Ok-clause-answered
returns-in-Ok-clause-answered c =
    let i = c.self.inside in
    let v : MailView = mail_view i.entry i.hosts.items i.journal.items in
    let new : MailView = mail_view i.entry c.lose.new.hosts.items c.add.new.journal.items in
    rw (← c.self.view_is)
    (changed_call c.args.name.now no_refusal (λ (h : MailHost). record h { cache = finmap.empty; task = None }) (note.Halt c.args.name.now) v c.in-Ok.at
    (c.in-Ok.ensures.placed i.entry i.journal.items) (mail_hosts c.lose.new.hosts.items) c.add.new.journal.items
    c.lose.ensures.views (c.add.ensures.noted ∙ ap (λ (notes : Rattle.std.specs.Prelude.List MailNote). notes ++ note.Halt c.args.name.now ∷ []) c.make_room.ensures.same))
