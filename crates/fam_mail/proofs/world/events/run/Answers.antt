use Rattle.std.proofs.Common.{◌≡◌, refl, sym, subst, ap, ◌∙◌}
use Rattle.std.specs.Prelude.{Result, Err, IsErrOf}
use Rattle.fam_base.specs.declared.line.OutOfMemory.{OutOfMemory}
use Rattle.fam_media.specs.States.{MediaChange, change}
use Rattle.fam_mail.specs.declared.event.MailEvent.TheVariants as event
use Rattle.fam_mail.specs.declared.note.MailFault.{MailFault}
use Rattle.fam_mail.specs.declared.note.MailFault.TheVariants as fault
use Rattle.fam_mail.specs.Calls.{MailBegins, IfMailAnswered}
use Rattle.fam_mail.specs.Happens.{MailEventSays}
use Rattle.fam_mail.proofs.EventRows.{run_begun, run_refused, run_undone}
use Rattle.fam_mail.proofs.Fitting.{begins_fits}
use Rattle.fam_mail.proofs.Counting.{begun_counted, both_counted}
use Rattle.fam_mail.proofs.world.events.run.Goals as goal

pub finish-requires : goal.finish-requires
finish-requires g c = record {
  fits = begins_fits (g.M.Media.size c.args.media.now) c.args.name.now c.args.world.now c.begin.new.self c.requires.fits c.args.ask.now c.begin.result c.begin.ensures.answered c.begin.ensures.err;
}

pub returns-in-Ok-clause-says : goal.returns-in-Ok-clause-says
returns-in-Ok-clause-says g c =
    let told : MediaChange = change g.M.Media.state c.args.media.now c.finish.new.media in
    let begins = subst (λ (r : Result (Unit {0}) MailFault). IfMailAnswered r (λ answered. MailBegins c.args.name.now c.args.ask.now answered c.args.world.now c.begin.new.self)) c.in-Ok.is
    c.begin.ensures.answered in
    subst (λ (r : Result (Unit {0}) OutOfMemory). MailEventSays (event.Run c.args.name.now c.args.ask.now) told c.args.world.now c.finish.new.self r) (sym c.noted.ensures)
    (run_begun (g.M.Media.size c.args.media.now) c.args.name.now c.args.ask.now told c.args.world.now c.begin.new.self c.finish.new.self begins.1 begins.0 c.finish.result c.finish.ensures.ends)

pub returns-in-Err-Refused-clause-says : goal.returns-in-Err-Refused-clause-says
returns-in-Err-Refused-clause-says g c =
    let told : MediaChange = change g.M.Media.state c.args.media.now c.args.media.now in
    let is : c.begin.result ≡ Err (fault.Refused c.in-Err-Refused.field-0-0) = c.in-Err-Refused.is ∙ ap (λ (f : MailFault). Err f) c.in-Err-Refused.field-0-is in
    let begins = subst (λ (r : Result (Unit {0}) MailFault). IfMailAnswered r (λ answered. MailBegins c.args.name.now c.args.ask.now answered c.args.world.now c.begin.new.self)) is
    c.begin.ensures.answered in
    run_refused c.args.name.now c.args.ask.now told c.args.world.now c.begin.new.self refl c.in-Err-Refused.field-0-0 begins

pub returns-in-Err-OutOfMemory-clause-says : goal.returns-in-Err-OutOfMemory-clause-says
returns-in-Err-OutOfMemory-clause-says g c =
    let told : MediaChange = change g.M.Media.state c.args.media.now c.args.media.now in
    let is : c.begin.result ≡ Err fault.OutOfMemory = c.in-Err-OutOfMemory.is ∙ ap (λ (f : MailFault). Err f) c.in-Err-OutOfMemory.field-0-is in
    run_undone c.args.name.now c.args.ask.now told c.args.world.now c.begin.new.self refl (c.begin.ensures.err (subst (λ (r : Result (Unit {0}) MailFault). IsErrOf r fault.OutOfMemory) (sym is) refl))

pub returns-in-Ok-clause-counted : goal.returns-in-Ok-clause-counted
returns-in-Ok-clause-counted g c exact =
    both_counted _ _ _ _ _ _ (begun_counted c.args.name.now c.args.world.now c.begin.new.self _ c.args.ask.now c.begin.result c.begin.ensures.answered
    c.begin.ensures.err) (c.finish.ensures.counted exact)

pub returns-in-Err-Refused-clause-counted : goal.returns-in-Err-Refused-clause-counted
returns-in-Err-Refused-clause-counted g c exact = begun_counted c.args.name.now c.args.world.now c.begin.new.self _ c.args.ask.now c.begin.result c.begin.ensures.answered c.begin.ensures.err

pub returns-in-Err-OutOfMemory-clause-counted : goal.returns-in-Err-OutOfMemory-clause-counted
returns-in-Err-OutOfMemory-clause-counted g c exact = begun_counted c.args.name.now c.args.world.now c.begin.new.self _ c.args.ask.now c.begin.result c.begin.ensures.answered c.begin.ensures.err
