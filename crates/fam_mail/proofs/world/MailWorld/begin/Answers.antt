use Rattle.std.proofs.Common.{ℕ, ◌++◌, ◌∷◌, [], Some, ap, ◌∙◌}
use Rattle.std.specs.FinMap as finmap
use Rattle.fam_mail.specs.Calls.{begin_refusal, capacity_in}
use Rattle.fam_mail.specs.Tasks.{new_task}
use Rattle.fam_mail.specs.World.{MailHost, MailView, changed_member, mail_view, mail_hosts}
use Rattle.fam_mail.specs.declared.note.MailNote.{MailNote}
use Rattle.fam_mail.specs.declared.note.MailNote.TheVariants as note
use Rattle.fam_mail.proofs.Calling.{changed_call}
use Rattle.fam_mail.proofs.world.MailWorld.begin.Goals as goal

pub returns-in-Ok-clause-answered : goal.returns-in-Ok-clause-answered
returns-in-Ok-clause-answered c =
    let i = c.self.inside in
    let v : MailView = mail_view i.entry i.hosts.items i.journal.items in
    let new : MailView = mail_view i.entry c.begin_task.new.hosts.items c.add.new.journal.items in
    rw (← c.self.view_is)
    (changed_call c.args.name.now (begin_refusal c.args.ask.now) (λ (h : MailHost). record h { task = Some (new_task c.args.ask.now (capacity_in v)) }) (note.Start c.args.name.now c.args.ask.now)
    v c.in-Ok.at (c.in-Ok.ensures.placed i.entry i.journal.items) (mail_hosts c.begin_task.new.hosts.items) c.add.new.journal.items
    (c.begin_task.ensures.views ∙ ap (λ (n : ℕ). changed_member c.in-Ok.at (λ (h : MailHost). record h { task = Some (new_task c.args.ask.now n) }) v.hosts) c.capacity-room.ensures)
    (c.add.ensures.noted ∙ ap (λ (notes : Rattle.std.specs.Prelude.List MailNote). notes ++ note.Start c.args.name.now c.args.ask.now ∷ []) c.make_room.ensures.same))
