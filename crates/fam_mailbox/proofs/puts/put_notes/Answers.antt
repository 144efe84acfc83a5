use Rattle.std.proofs.Common.{List, subst}
use Rattle.std.specs.Prelude.{OnOk}
use Rattle.fam_mail.specs.declared.note.MailNote.{MailNote}
use Rattle.fam_mail_script.specs.Texts.{mail_text}
use Rattle.fam_media.specs.States.{change}
use Rattle.fam_program.specs.Puts.{PutPart, PutWhole}
use Rattle.fam_mailbox.specs.Puts.{PutSomeMail}
use Rattle.fam_mailbox.proofs.Rendering.{notes_from}
use Rattle.fam_mailbox.proofs.puts.put_notes.Goals as goal

pub returns-clause-put : goal.returns-clause-put
returns-clause-put g c =
    let rest = notes_from c.journal.result.now c.args.from c.args.world.now.journal c.journal.ensures in
    subst (λ (ns : List MailNote). OnOk c.put_each.result (PutWhole (mail_text ns) (change g.K.Sink.state c.args.out.now c.put_each.new.out))) rest c.put_each.ensures.put

pub returns-clause-part : goal.returns-clause-part
returns-clause-part g c = λ e.
    let rest = notes_from c.journal.result.now c.args.from c.args.world.now.journal c.journal.ensures in
    subst (λ (ns : List MailNote). PutPart (mail_text ns) (change g.K.Sink.state c.args.out.now c.put_each.new.out)) rest (c.put_each.ensures.part e)

pub returns-clause-some : goal.returns-clause-some
returns-clause-some g c = λ e.
    let rest = notes_from c.journal.result.now c.args.from c.args.world.now.journal c.journal.ensures in
    subst (λ (ns : List MailNote). PutSomeMail ns (change g.K.Sink.state c.args.out.now c.put_each.new.out)) rest (c.put_each.ensures.some e)
