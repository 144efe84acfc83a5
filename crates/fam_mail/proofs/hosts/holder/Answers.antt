use Rattle.std.proofs.Common.{ℕ, Option, refl, ap, sym, ◌∙◌}
use Rattle.fam_mail.specs.Calls.{host_at, file_line_refusal, named_host_refusal}
use Rattle.fam_mail.specs.World.{MailView, mail_view}
use Rattle.fam_mail.proofs.hosts.holder.Goals as goal

pub returns-in-Some-clause-placed : goal.returns-in-Some-clause-placed
returns-in-Some-clause-placed c = λ entry journal.
    let v : MailView = mail_view entry c.args.hosts.now.items journal in
    let f = c.in_ok-at.ensures.placed entry journal in
    let cause = file_line_refusal c.args.line c.args.capacity in
    ap (λ (o : Option ℕ). named_host_refusal cause (host_at o v)) f.number ∙ ap (named_host_refusal cause) f.host_is ∙ sym (c.in-Some.ensures.cause f.host)

pub returns-in-None-clause-placed : goal.returns-in-None-clause-placed
returns-in-None-clause-placed c = λ entry journal.
    let f = c.in_ok-at.ensures.placed entry journal in
    record { number = f.number; host = f.host; host_is = f.host_is; free = sym (c.in-None.ensures.cause f.host) }

pub returns-in-None-clause-below : goal.returns-in-None-clause-below
returns-in-None-clause-below c = c.in-None.ensures.below refl
